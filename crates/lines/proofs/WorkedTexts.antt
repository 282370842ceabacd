-- The worked lines and texts are read as they say, by the reader that computes.
use Rattle.std.specs.Prelude.{◌≡◌, ℕ, List, [], ◌∷◌, ◌++◌, Bool, true, false, drop, length, map, refl, codes, MatchBool, Option}
use Rattle.std.specs.List.{AllByRecursion, starts_with}
use Rattle.std.proofs.Common.{nat_eq, sym, subst, arith}
use Rattle.std.proofs.lemmas.Bool.Decides.{Decides-eqb}
use Rattle.std.proofs.lemmas.Slice.Eq.{starts_is}
use Rattle.lines.specs.Written.{names_line, HasNoNames}
use Rattle.lines.specs.Texts.{ReadsAs}
use Rattle.lines.specs.Worked.{IsFirstLine, IsRead, correct_lines, wrong_lines, several_lines, unended_lines}
use Rattle.lines.specs.Worked.{worked_file, worked_calls, IsNamed, names_lines, WorkedHold}
use Rattle.lines.specs.Parts.{field_read, values_read, call_read}
use Rattle.lines.specs.declared.reader.Line.{Line}
use Rattle.lines.proofs.Readings.{line_at, first_line}
use Rattle.lines.proofs.Scanned.{lines_from, has_lines}
use Rattle.lines.proofs.Files.{round_trip}

-- what holds of each case whose answer is the wanted one holds of all, where their answers are
all_from : {A B : Type 0} (P : A → Type 0) (answer wanted : A → B) → ((case : A) → answer case ≡ wanted case → P case)
    → (cases : List A) → map answer cases ≡ map wanted cases → AllByRecursion P cases
all_from P answer wanted each [] e = tt
all_from P answer wanted each (case ∷ cases) e = (each case (cc), all_from P answer wanted each cases (cc))

-- a line that the reader reads so is read so
read_so : (text : List ℕ) (line : Option Line) → first_line text ≡ line → IsFirstLine text line
read_so [] line e = subst (IsFirstLine []) e refl
read_so (byte ∷ bytes) line e = subst (IsFirstLine (byte ∷ bytes)) e (_, line_at (byte ∷ bytes) 0 (omega arith))

-- a text starts so or doesn't
named_so : (text : List ℕ) (named : Bool) → starts_with nat_eq text names_line ≡ named
    → MatchBool named ((rest : List ℕ) × (text ≡ names_line ++ rest)) (HasNoNames text)
named_so text true e = (drop (length names_line) text, (starts_is Decides-eqb text names_line true (sym e)).0 refl)
named_so text false e = λ rest whole.
    let same : false ≡ true = (starts_is Decides-eqb text names_line false (sym e)).1 rest whole in absurd (cc)

pub worked_lines : WorkedHold
unfolding has_lines lines_from call_read values_read field_read
worked_lines =
    let rest = drop (length names_line) worked_file in
    let file : ReadsAs worked_file worked_calls = record { rest = rest; named = refl; lines = (has_lines rest 0).1 } in
    record {
      correct = all_from IsRead _ _ (λ case. read_so (codes case.text) case.line) correct_lines refl;
      wrong = all_from IsRead _ _ (λ case. read_so (codes case.text) case.line) wrong_lines refl;
      none = (refl, tt);
      lines = (has_lines several_lines 0).1;
      last = (has_lines unended_lines 0).1;
      end = (omega arith, omega arith);
      file = (file, sym ((round_trip worked_file worked_calls).same_bytes.0 file).1);
      named = all_from IsNamed _ _ (λ case. named_so (codes case.text) case.named) names_lines refl;
      columns = refl;
    }
