-- The lines of a file read one after another, how many were accepted and refused, and that a file has one list of lines, so that
-- its book balances.
use Rattle.std.proofs.Common.{add-zero, zero-add, ◌≡◌, ◌+◌, ◌≤◌, ap, arith, sym, refl, count_by}
use Rattle.history.proofs.Words.{ℕ, List, [], ◌∷◌, length, ◌∙◌, length-append, Bool, map, inl, inr, if◌then◌else◌, subst, Some}
use Rattle.history.proofs.Words.{not, is_ok, Call, answer_to, book_after, book_after_all, fresh_book, answers, accepted_onto, Book}
use Rattle.monitor.proofs.Words.{Line, Lines, AreLines, IsLineAt, GivesLine, names_line, file_limit, HasLines, IsReplayed, calls_in, answer_to_line}
use Rattle.monitor.proofs.Words.{after_line, answers_from, replayed, Correct, Wrong, has_lines, LineAnswer, Replayed}
use Rattle.monitor.specs.Replay.{IsSound, BalancesFor, is_accepted, answers_of}
use Rattle.lines.proofs.Files.{lines_are_pieces}
use Rattle.monitor.specs.Theorems.{CountsAreLines, FilesAreRead, CallsAreRead, OneText}
use Rattle.std.proofs.lemmas.List.{append_cancel_left}
use Rattle.std.proofs.lemmas.List.Filters.{length-filter_both}
use Rattle.std.proofs.lemmas.List.Sums.{length-filter, sum_by-cons}
use Rattle.lines.proofs.Readings.{one_reading}
use Rattle.balance.proofs.Rows.{rows_balance}

-- the lines that a reader has still to read
abbrev pub to_read : List ℕ → Lines → List Line
to_read rest it = (has_lines rest it.at).0

-- where the reader of the lines stands
pub record Reads (rest : List ℕ) (it : Lines) : Type 0 where
  pub same : it.text.now ≡ rest
  pub within : it.at ≤ length rest
  pub short : length rest + length names_line ≤ file_limit

pub short_rest : (file rest : List ℕ) → IsSound file rest → length rest + length names_line ≤ file_limit
short_rest file rest sound = omega (arith, sound.short, ap length sound.named, length-append names_line rest)

-- the line at the reader, and those behind it
module _ (rest : List ℕ) (it next : Lines) (line : Line) (reads : Reads rest it) (given : GivesLine it (Some line) next) where
  pub line_at : IsLineAt rest it.at line next.at
  line_at = rw reads.same at given.0

  pub next_read : Reads rest next
  next_read = record { same = ap (λ t. t.now) given.1 ∙ reads.same; within = line_at.within; short = reads.short }

  pub cut_off : to_read rest it ≡ line ∷ to_read rest next
  cut_off = one_reading rest it.at _ _ (has_lines rest it.at).1 (next.at, line_at, (has_lines rest next.at).1)

-- no line is left
pub at_end : (rest : List ℕ) (it : Lines) → Reads rest it → length it.text.now ≤ it.at → to_read rest it ≡ []
at_end rest it reads end = one_reading rest it.at _ [] (has_lines rest it.at).1 (rw reads.same at end)

-- ---- the counts

abbrev pub is_refused : LineAnswer → Bool
is_refused answer = not (is_accepted answer)

-- what lines leave, made from where a replay stands on
abbrev pub with_lines : Replayed → List Line → Replayed
with_lines r lines = record {
  book = book_after_all (calls_in lines) r.book;
  accepted = r.accepted + count_by is_accepted (answers_from r.book lines);
  refused = r.refused + count_by is_refused (answers_from r.book lines);
}

-- where the replay stands: the lines that are left will leave what all lines do
pub record Counts (file : List ℕ) (it : Lines) (r : Replayed) : Type 0 where
  pub rest : List ℕ
  pub sound : IsSound file rest
  pub reads : Reads rest it
  pub few : r.accepted + r.refused ≤ it.at
  pub leaves : with_lines r (to_read rest it) ≡ replayed (has_lines rest 0).0

-- an answer more
count_more : (p : LineAnswer → Bool) (a : LineAnswer) (l : List LineAnswer) → count_by p (a ∷ l) ≡ (if p a then 1 else 0) + count_by p l
count_more p a l = sum_by-cons (λ x. if p x then 1 else 0) a l

after_calls : (line : Line) (lines : List Line) (b : Book)
    → book_after_all (calls_in lines) (after_line b line) ≡ book_after_all (calls_in (line ∷ lines)) b
after_calls (Correct call) lines b = refl
after_calls (Wrong place) lines b = refl

pub counts_start : (file rest : List ℕ) (it : Lines) (r : Replayed) → IsSound file rest → it.text.now ≡ rest → it.at ≡ 0
    → r ≡ replayed [] → Counts file it r
counts_start file rest it r sound same start fresh = record {
  rest = rest;
  sound = sound;
  reads = record { same = same; within = omega arith; short = short_rest file rest sound };
  few = omega (arith, ap (λ r. r.accepted) fresh, ap (λ r. r.refused) fresh);
  leaves = rw (start, fresh) (simp zero-add);
}

pub counted_more : (file : List ℕ) (it next : Lines) (line : Line) (r after : Replayed) (answer : LineAnswer) (ok : Bool)
    → Counts file it r → GivesLine it (Some line) next → answer ≡ answer_to_line r.book line
    → after.book ≡ after_line r.book line → ok ≡ is_accepted answer → after.accepted ≡ r.accepted + (if ok then 1 else 0)
    → after.refused ≡ r.refused + (if not ok then 1 else 0) → Counts file next after
counted_more file it next line r after answer ok counts given came left is one other =
    let later = (line_at counts.rest it next line counts.reads given).later in
    let lines = to_read counts.rest next in
    let book_is = ap (book_after_all (calls_in lines)) left ∙ after_calls line lines r.book in
    let accepted_is : (with_lines after lines).accepted ≡ (with_lines r (line ∷ lines)).accepted =
    rw left (omega (arith, count_more is_accepted, rw (is, came) at one)) in
    let refused_is : (with_lines after lines).refused ≡ (with_lines r (line ∷ lines)).refused =
    rw left (omega (arith, count_more is_refused, rw (is, came) at other)) in
    let same : with_lines after lines ≡ with_lines r (line ∷ lines) =
    λ i. record { book = book_is i; accepted = accepted_is i; refused = refused_is i } in
    record {
      rest = counts.rest;
      sound = counts.sound;
      reads = next_read counts.rest it next line counts.reads given;
      few = grind (arith, counts.few);
      leaves = same ∙ rw (cut_off counts.rest it next line counts.reads given) at counts.leaves;
    }

-- the answers are as many as the lines
length-answers : (b : Book) (lines : List Line) → length (answers_from b lines) ≡ length lines
length-answers b [] = refl
length-answers b (line ∷ lines) = omega (arith, length-answers (after_line b line) lines)

pub counts_are_lines : (lines : List Line) → (replayed lines).accepted + (replayed lines).refused ≡ length lines
counts_are_lines lines =
    let both = length-filter_both is_accepted is_refused (λ answer. refl) (answers_of lines) in
    omega (arith, both, length-filter is_accepted, length-filter is_refused, length-answers)

-- ---- the end

pub replays : (file : List ℕ) (it : Lines) (r : Replayed) → Counts file it r → length it.text.now ≤ it.at → IsReplayed file r
replays file it r counts end =
    let all = has_lines counts.rest 0 in
    (all.0, (counts.rest, counts.sound, all.1), simp add-zero at (rw (at_end counts.rest it counts.reads end) at counts.leaves))

-- ---- one list of lines

pub one_list : (file : List ℕ) (one other : List Line) → HasLines file one → HasLines file other → one ≡ other
one_list file one other first second = one_reading first.0 0 one other first.2
    (subst (λ rest. AreLines rest 0 other) (append_cancel_left names_line _ _ (sym second.1.named ∙ first.1.named)) second.2)

pub balances_for : (file : List ℕ) (b : Book) (lines : List Line) → HasLines file lines → b ≡ (replayed lines).book → BalancesFor file b
balances_for file b lines has is other also = rw (is, one_list file lines other has also) (rows_balance (calls_in other))

-- ---- the accepted calls

-- the accepted lines are the accepted calls
accepted_lines : (lines : List Line) (b : Book) (h : List Call)
    → length h + count_by is_accepted (answers_from b lines) ≡ length (accepted_onto h (calls_in lines) (answers (calls_in lines) b))
accepted_lines [] b h = omega arith
accepted_lines (Wrong place ∷ lines) b h = omega (arith, accepted_lines lines b h, count_more is_accepted)
accepted_lines (Correct call ∷ lines) b h =
    let ok = is_ok (answer_to call b) in
    let rest = accepted_lines lines (book_after call b) (if ok then call ∷ h else h) in
    let here : length (if ok then call ∷ h else h) ≡ (if ok then 1 else 0) + length h = grind arith in
    omega (arith, rest, count_more is_accepted)

pub counts_of_lines : (file : List ℕ) (lines : List Line) → CountsAreLines file lines
counts_of_lines file lines = record {
  lines_after_names = λ rest sound are. counts_are_lines lines ∙ (lines_are_pieces rest 0 lines are).count;
  accepted_calls = omega (arith, accepted_lines lines fresh_book []);
}

-- ---- a file that is written

calls_of : (calls : List Call) → calls_in (map (λ (call : Call). Correct call) calls) ≡ calls
calls_of [] = refl
calls_of (call ∷ calls) = ap (λ l. call ∷ l) (calls_of calls)

pub files_are_read : FilesAreRead
files_are_read file calls reads fits = (reads.rest, record { named = reads.named; short = fits }, reads.lines)

pub calls_are_read : CallsAreRead
calls_are_read file calls reads fits lines has = ap calls_in (one_list file lines _ has (files_are_read file calls reads fits)) ∙ calls_of calls

-- ---- one text

pub one_text : OneText
one_text text file one other (inl first) (inl second) = first.2 ∙ ap text (one_list file first.0 second.0 first.1 second.1) ∙ sym second.2
one_text text file one other (inl first) (inr second) = absurd (second.0 first.1.0 first.1.1)
one_text text file one other (inr first) (inl second) = absurd (first.0 second.1.0 second.1.1)
one_text text file one other (inr first) (inr second) = first.1 ∙ sym second.1
