-- How long each text may be, by the lines that it has and the digits of their numbers.
use Rattle.std.proofs.Common.{◌<◌, ℕ, drop, min, arith, refl, ◌+◌, sym, ap, Result, All, decimal, take_all, flat_map}
use Rattle.history.proofs.Words.{List, length, subst, ◌∷◌, [], length-append, ◌*◌, get_or, inl, inr, true, Some, Ok, Err, nat_lt, Option}
use Rattle.history.proofs.Words.{None, option_map, cond_both, nat_tests, range_with_len, Call, OutOfRange, NotClosed, day_limit, category_count}
use Rattle.history.proofs.Words.{largest_code, row_of, figures_of, row_answer, Measure, Number, Value, Row, Book, book_of, counts, not}
use Rattle.monitor.proofs.Words.{◌≡◌, ◌++◌, ◌≤◌, Line, AreLines, names_line, Replayed, file_limit, HasLines, calls_in, replayed}
use Rattle.monitor.proofs.Words.{length-decimal-le, Refusal, sums_of, Participant, row_fields, IsReplayed, day_line, table_of, refused_text, IsTextOf}
use Rattle.monitor.proofs.Words.{report_names, report_fields, category_line, category_lines, list_names, participant_line, both_lists, ANSWER_ROOM}
use Rattle.monitor.proofs.Replays.{short_rest, counts_are_lines}
use Rattle.std.proofs.lemmas.List.FromFn.{length-range_with_len, get_or-range_with_len}
use Rattle.std.proofs.lemmas.List.Elements.{All-map, All-filter}
use Rattle.std.proofs.lemmas.List.Sorted.{All-permutation}
use Rattle.book.specs.declared.calls.Refusal.TheVariants.{ShortBuffer}
use Rattle.book.specs.Figures.{add_figure}
use Rattle.counted.specs.PairCalls.{Column, settled, securities, cash, total, isd_value}
use Rattle.counted.specs.Counted.{column, most, measure_of}
use Rattle.counted.proofs.Rows.{rows, bounded}
use Rattle.texts.specs.Lines.{written}
use Rattle.texts.proofs.Left.{length-line_text, width}
use Rattle.texts.proofs.Lengths.{widest, any_field, any_line}
use Rattle.rates.specs.Stored.{capped}
use Rattle.rates.specs.Rate.{duration}
use Rattle.reports.specs.declared.report.Report.{Report}
use Rattle.reports.specs.Reports.{is_run, report_of, rows_of}
use Rattle.ranking.specs.Ranking.{is_listed, in_order, highest}
use Rattle.ranking.specs.Runs.{summaries_over, participant_of, participants_of}
use Rattle.ranking.proofs.Insertion.{all_there}
use Rattle.ranking.proofs.Lists.{at_most}
use Rattle.monitor.specs.RowText.{row_line, line_bound, shortest_buffer, LinesAreShort, WholeLines}
use Rattle.monitor.specs.Table.{closed_days, counts_text, table_text}
use Rattle.monitor.specs.declared.table.TheConstants.{TABLE_ROOM}
use Rattle.monitor.specs.declared.days.Days.{Days}
use Rattle.monitor.specs.declared.report_table.TheConstants.{REPORT_ROOM, REPORT_COLUMNS}
use Rattle.monitor.specs.Days.{first_and_last}
use Rattle.monitor.specs.Texts.{fault, over_days, text_given}
use Rattle.monitor.specs.ReportTable.{report_line}
use Rattle.monitor.specs.declared.list_table.TheConstants.{LIST_ROOM}
use Rattle.monitor.specs.ListTable.{measure_text, list_lines, lists_text}
use Rattle.monitor.specs.Theorems.{TablesFit, ReportsFit, ListsFit, AnswersFit}
use Rattle.monitor.proofs.Answered.{refused_bound, refused_short, text_short}
use Rattle.monitor.proofs.Joined.{lines_short}

-- ---- a row

-- the digits of its figures
abbrev digits : Measure → ℕ
digits Number = 6
digits Value = 16

figure_short : (calls : List Call) (k : Column) (d c : ℕ) → c ≤ category_count → d < day_limit
    → length (decimal (column k (row_of (figures_of (book_of calls).cells d c)))) ≤ digits (measure_of k)
figure_short calls k d c high low = either (measure_of k) _ (omega (arith, rows calls k c d high low, bounded.bounds calls k (counts c) d)) where
  either : (m : Measure) (n : ℕ) → n ≤ most m → length (decimal n) ≤ digits m
  either Number n up = length-decimal-le 6 n (omega arith) (omega arith) (omega arith)
  either Value n up = length-decimal-le 16 n (omega arith) (omega arith) (omega arith)

pub lines_are_short : LinesAreShort
unfolding row_fields
lines_are_short calls d c r given =
    let category : c ≤ category_count = grind (arith, nat_tests) in
    let day : d < day_limit = grind (arith, nat_tests) in
    let row : row_of (figures_of (book_of calls).cells d c) ≡ r = grind (arith, nat_tests) in
    let short = λ (k : Column). figure_short calls k d c category day in
    subst (λ r. length (row_line d r) ≤ line_bound) row (omega (
      arith,
      length-line_text (row_fields d (row_of (figures_of (book_of calls).cells d c))) (omega arith),
      length-decimal-le 2 d (omega arith) (omega arith) (omega arith),
      short (total Number),
      short (settled Number),
      short (securities Number),
      short (cash Number),
      short (total Value),
      short (settled Value),
      short (securities Value),
      short (cash Value),
      short isd_value,
    ))

-- where the buffer is not too short, it has room for the line
whole_line : (line buffer : List ℕ) (n : ℕ) → length line ≤ line_bound → shortest_buffer ≤ length buffer
    → min (length line) (length buffer) ≡ n → (n ≡ length line) × (written line buffer ≡ line ++ drop n buffer)
whole_line line buffer n fits long count = (omega arith, rw (count, take_all n line (omega arith)) refl)

pub whole_lines : WholeLines
whole_lines calls d c n buffer r given =
    let line = row_line d r in
    cond_both (nat_lt (length buffer) shortest_buffer) (Err ShortBuffer, buffer) (Ok (min (length line) (length buffer)), written line buffer)
    (λ (answer : Result ℕ Refusal × List ℕ). answer.0 ≡ Ok n → (n ≡ length line) × (answer.1 ≡ line ++ drop n buffer))
    (λ short count. absurd (cc))
    (λ long count. whole_line line buffer n (lines_are_short calls d c r given) (grind (arith, nat_tests)) cc)

-- ---- the table

-- a text has no more lines than bytes
few_lines : (rest : List ℕ) (at : ℕ) (lines : List Line) → at ≤ length rest → AreLines rest at lines → at + length lines ≤ length rest
few_lines rest at [] within are = omega arith
few_lines rest at (line ∷ lines) within are = omega (arith, few_lines rest are.0 lines are.1.within are.2, are.1.later)

pub few_lines_of : (file : List ℕ) (lines : List Line) → HasLines file lines → length lines + length names_line ≤ file_limit
few_lines_of file lines has = omega (arith, short_rest file has.0 has.1, few_lines has.0 0 lines (omega arith) has.2)

-- the line of a day, where there is one
day_short : (calls : List Call) (day : ℕ) → length (day_line (book_of calls) day) ≤ line_bound
day_short calls day = either (row_answer day 0 (book_of calls)) refl where
  either : (a : Result Row Refusal) → row_answer day 0 (book_of calls) ≡ a → length (text_given (row_line day) a) ≤ line_bound
  either (Ok r) given = lines_are_short calls day 0 r given
  either (Err refusal) given = omega arith

pub table_short : (lines : List Line) → length lines ≤ file_limit → length (table_text lines) ≤ TABLE_ROOM
unfolding table_of
table_short lines few =
    let b = (replayed lines).book in
    let accepted = (replayed lines).accepted in
    let refused = (replayed lines).refused in
    let both = counts_are_lines lines in
    omega (
      arith,
      length-append (flat_map (day_line b) (closed_days b)) (counts_text accepted refused),
      lines_short (day_line b) line_bound (closed_days b) (λ k d below. day_short (calls_in lines) _),
      length-range_with_len 0 (min b.today day_limit),
      any_line (Some accepted ∷ Some refused ∷ []) (omega arith) (omega arith, (omega arith, tt)),
    )

pub table_of_short : (file : List ℕ) (r : Replayed) → IsReplayed file r → length (table_of r) ≤ TABLE_ROOM
table_of_short file r is = subst (λ r. length (table_of r) ≤ TABLE_ROOM) (sym is.2) (table_short is.0 (omega (arith, few_lines_of file is.0 is.1)))

-- ---- the reports

-- what a refused run of days takes, and its lines where it is given
over_short : (names : List ℕ) (lines : ℕ → ℕ → Book → List ℕ) (room : ℕ) (days : Days) (b : Book)
    → length names + refused_bound ≤ room
    → ((first last : ℕ) → length names + length (lines first last b) ≤ room) → length (over_days names lines days b) ≤ room
over_short names lines room days b some short =
    let asked = first_and_last b.today days in
    let text = lines asked.0 asked.1 b in
    cond_both (is_run asked.0 asked.1 b) text (refused_text NotClosed) (λ t. length (names ++ t) ≤ room)
    (λ given. omega (arith, length-append names text, short asked.0 asked.1))
    (λ refused. omega (arith, length-append names (refused_text NotClosed), refused_short NotClosed))

-- a number that stops at the largest
pub capped_field : (n : ℕ) → width (Some (capped n)) ≤ widest
capped_field n = any_field (Some (capped n)) (omega arith)

duration_short : (d : Option ℕ) → width (option_map capped d) ≤ widest
duration_short None = omega arith
duration_short (Some n) = capped_field n

-- as many bytes as a report's line takes, of numbers of 64 bits
abbrev report_bound : ℕ
report_bound = REPORT_COLUMNS * widest

report_short : (first last category : ℕ) (rows : List Row) → first < day_limit → last < day_limit → category ≤ category_count
    → length (report_line first last category (report_of (sums_of rows))) ≤ report_bound
unfolding sums_of report_fields row_fields
report_short first last category rows f l c =
    let fails = add_figure (sums_of rows).securities (sums_of rows).cash in
    omega (
      arith,
      length-line_text (report_fields first last category (report_of (sums_of rows))) (omega arith),
      any_field (Some first) (omega arith),
      any_field (Some last) (omega arith),
      any_field (Some category) (omega arith),
      capped_field,
      duration_short (duration fails.value (sums_of rows).isd_value),
    )

category_short : (first last : ℕ) (b : Book) (category : ℕ) → length (category_line first last b category) ≤ report_bound
category_short first last b category =
    let r = report_of (sums_of (rows_of first last category b)) in
    let IsShort : Result Report Refusal → Type 0 = λ a. length (text_given (report_line first last category) a) ≤ report_bound in
    cond_both (nat_lt category_count category) (Err OutOfRange) _ IsShort (λ over. omega arith)
    (λ over. cond_both (not (is_run first last b)) (Err NotClosed) (Ok r) IsShort (λ closed. omega arith)
    (λ closed. report_short first last category _ (grind (arith, nat_tests)) (grind (arith, nat_tests)) (grind (arith, nat_tests))))

pub reports_short : (days : Days) (b : Book) → length (over_days report_names category_lines days b) ≤ REPORT_ROOM
unfolding category_lines
reports_short days b = over_short report_names category_lines REPORT_ROOM days b (omega arith) (λ first last.
    let categories = range_with_len 0 (category_count + 1) in
    omega (arith, lines_short (category_line first last b) report_bound categories (λ k d below. category_short first last b _)))

-- ---- the lists

-- as many bytes as a participant's line takes: the measure, and three numbers of 64 bits
abbrev participant_bound : ℕ
participant_bound = length (measure_text Number) + 3 * widest

participant_short : (m : Measure) (first last : ℕ) (b : Book) (code : ℕ) → code ≤ largest_code
    → length (participant_line m (participant_of first last m b code)) ≤ participant_bound
unfolding summaries_over
participant_short Number first last b code low =
    let p = participant_of first last Number b code in
    omega (arith, any_line (Some code ∷ Some p.fails ∷ Some p.total ∷ []) (omega arith) (omega arith, (omega arith, (omega arith, tt))))
participant_short Value first last b code low =
    let p = participant_of first last Value b code in
    omega (arith, any_line (Some code ∷ Some p.fails ∷ Some p.total ∷ []) (omega arith) (omega arith, (omega arith, (omega arith, tt))))

all_short : (first last : ℕ) (m : Measure) (b : Book)
    → All (λ p. length (participant_line m p) ≤ participant_bound) (highest (participants_of first last m b))
unfolding highest participants_of
all_short first last m b =
    let IsShort = λ (p : Participant). length (participant_line m p) ≤ participant_bound in
    let ps = participants_of first last m b in
    let codes = range_with_len 1 largest_code in
    All-filter (is_listed ps) IsShort (in_order ps) (All-permutation IsShort ps (in_order ps) (all_there ps)
    (All-map IsShort (participant_of first last m b) codes
    (λ k d below. participant_short m first last b (get_or codes k d) (omega (arith, get_or-range_with_len 1 largest_code k d below)))))

given_short : (first last : ℕ) (b : Book) (m : Measure) → length (list_lines first last b m) ≤ largest_code * participant_bound
unfolding participants_of
given_short first last b m =
    let ps = participants_of first last m b in
    cond_both (not (is_run first last b)) (Err NotClosed) (Ok (record { items = highest ps }))
    (λ r. length (text_given (λ list. flat_map (participant_line m) list.items) r) ≤ largest_code * participant_bound) (λ e. omega arith)
    (λ e. let short = lines_short (participant_line m) participant_bound (highest ps) (all_short first last m b) in
    omega (arith, short, at_most ps))

pub lists_short : (days : Days) (b : Book) → length (over_days list_names both_lists days b) ≤ LIST_ROOM
lists_short days b = over_short list_names both_lists LIST_ROOM days b (omega arith) (λ first last.
    let short = given_short first last b in
    omega (arith, length-append (list_lines first last b Number) (list_lines first last b Value), short Number, short Value))

-- ---- whatever the file

-- a text is no longer than that of any lines, and than that of a faulty file
fits : (text : List Line → List ℕ) (room : ℕ) (file bytes : List ℕ) → length fault ≤ room
    → ((lines : List Line) → HasLines file lines → length (text lines) ≤ room) → IsTextOf text file bytes → length bytes ≤ room
fits text room file bytes some short (inl given) = omega (arith, ap length given.2, short given.0 given.1)
fits text room file bytes some short (inr faulty) = omega (arith, ap length faulty.1)

pub tables_fit : TablesFit
tables_fit file bytes is = fits _ TABLE_ROOM _ _ (omega arith) (λ lines has. table_short lines (omega (arith, few_lines_of file lines has))) is

pub reports_fit : ReportsFit
reports_fit file bytes days is = fits _ REPORT_ROOM _ _ (omega arith) (λ lines has. reports_short days (replayed lines).book) is

pub lists_fit : ListsFit
lists_fit file bytes days is = fits (lists_text days) LIST_ROOM file bytes (omega arith) (λ lines has. lists_short days (replayed lines).book) is

pub answers_fit : AnswersFit
answers_fit file bytes is = fits _ ANSWER_ROOM _ _ (omega arith) (λ lines has. text_short has.0 lines (short_rest file has.0 has.1) has.2) is

pub has_room : (names : List ℕ) (lines : ℕ → ℕ → Book → List ℕ) (days : Days) (b : Book) (first last : ℕ)
    (now : List ℕ) (room : ℕ) → true ≡ (let asked = first_and_last b.today days in is_run asked.0 asked.1 b)
    → (let asked = first_and_last b.today days in (first ≡ asked.0) × (last ≡ asked.1)) → now ≡ names ++ []
    → length (over_days names lines days b) ≤ room → length now + length (lines first last b) ≤ room
has_room names lines days b first last now room given is text short =
    let all : names ++ lines first last b ≡ over_days names lines days b = rw (is.0, is.1, ← given) refl in
    omega (arith, ap length all, ap length text, length-append {A = ℕ})
