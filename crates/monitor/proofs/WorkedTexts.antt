-- The worked files' texts, by computation: their lines by the computing reader of lines.
use Rattle.std.proofs.Common.{rules, true, false, nat_eq, ℕ, List, [], ◌∷◌, length, map, inl, inr}
use Rattle.history.proofs.Words.{drop, ◌≡◌, refl, sym, arith, Call, Settle, Close}
use Rattle.monitor.proofs.Words.{Line, Correct, Wrong, names_line, HasLines, has_lines, sums_of, IsTextOf, refused_text, row_fields, table_of}
use Rattle.monitor.proofs.Words.{report_fields, category_lines, lines_from}
use Rattle.std.specs.List.{starts_with}
use Rattle.std.specs.Fmt.{digits}
use Rattle.std.proofs.lemmas.Bool.Decides.{Decides-eqb}
use Rattle.std.proofs.lemmas.Slice.Eq.{starts_is}
use Rattle.lines.specs.Worked.{worked_file, worked_calls, enter}
use Rattle.lines.specs.Parts.{field_read, values_read, call_read}
use Rattle.ranking.specs.Ranking.{stands_before, highest}
use Rattle.ranking.specs.Runs.{summaries_over, participants_of}
use Rattle.monitor.specs.Worked.{mixed_file, no_calls, fault_lines, IsFaultAll, RowsHold, TextsHold}

-- ---- the lines

abbrev worked_lines : List Line
worked_lines = map (λ (call : Call). Correct call) worked_calls

has_worked : HasLines worked_file worked_lines
unfolding has_lines lines_from call_read values_read field_read
has_worked =
    (drop (length names_line) worked_file, record { named = refl; short = omega arith }, (has_lines (drop (length names_line) worked_file) 0).1)

abbrev mixed_lines : List Line
mixed_lines =
    Correct (enter 7 3 9 0 1 250 1 2) ∷ Correct (enter 8 3 9 0 1 250 1 41) ∷ Correct (Settle 8 250)
    ∷ Wrong 3 ∷ Wrong 0 ∷ Wrong 16 ∷ Wrong 13 ∷ Correct Close ∷ Wrong 17 ∷ []

has_mixed : HasLines mixed_file mixed_lines
unfolding has_lines lines_from call_read values_read field_read
has_mixed = (drop (length names_line) mixed_file, record { named = refl; short = omega arith }, (has_lines (drop (length names_line) mixed_file) 0).1)

has_none : HasLines no_calls []
has_none = ([], record { named = refl; short = omega arith }, omega arith)

-- ---- faulty files

fault_is : (text : List Line → List ℕ) (file : List ℕ) → starts_with nat_eq file names_line ≡ false → IsTextOf text file fault_lines
fault_is text file e =
    inr (λ rest sound. absurd (let same : false ≡ true = (starts_is Decides-eqb file names_line false (sym e)).1 rest sound.named in cc), refl)

all_fault : (file : List ℕ) → starts_with nat_eq file names_line ≡ false → IsFaultAll file
all_fault file e = record { table = fault_is _ file e; reports = fault_is _ file e; lists = fault_is _ file e; answers = fault_is _ file e }

-- the text of a file whose lines are known
of_lines : (text : List Line → List ℕ) (file bytes : List ℕ) (lines : List Line) → HasLines file lines → bytes ≡ text lines
    → IsTextOf text file bytes
of_lines text file bytes lines has is = inl (lines, has, is)

pub texts_hold : TextsHold
unfolding digits refused_text table_of category_lines sums_of report_fields row_fields summaries_over participants_of highest stands_before
texts_hold = search (rules, of_lines, has_worked, has_mixed, has_none, all_fault)

-- ---- rows as text

pub rows_hold : RowsHold
unfolding digits row_fields
rows_hold = assumption
