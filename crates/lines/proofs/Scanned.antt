-- A text read by computation, for the worked lines, and so that each text has lines.
use Rattle.std.specs.Prelude.{◌≡◌, ℕ, zero, suc, ◌+◌, ◌-◌, ◌<◌, ◌≤◌, List, [], ◌∷◌, Bool, true, false, length, drop}
use Rattle.std.proofs.Common.{refl, nat_lt, arith}
use Rattle.std.proofs.lemmas.Bool.{ltb-true, ltb-false}
use Rattle.lines.specs.declared.reader.Line.{Line}
use Rattle.lines.specs.Parts.{line_read}
use Rattle.lines.specs.Reading.{AreLines}
use Rattle.lines.proofs.Readings.{line_at}

-- the line at a place, and the place where the next one starts
abbrev pub read_at : List ℕ → ℕ → Line × ℕ
read_at text at = let read = line_read (drop at text) in (read.0, at + (length (drop at text) - length read.1))

-- one, where a byte is left, and those behind it
abbrev one_more : (text : List ℕ) (at : ℕ) (left : Bool) → nat_lt at (length text) ≡ left
    → (at < length text → (lines : List Line) × AreLines text (read_at text at).1 lines) → (lines : List Line) × AreLines text at lines
one_more text at true some behind =
    let inside : at < length text = ltb-true at (length text) some in
    ((read_at text at).0 ∷ (behind inside).0, ((read_at text at).1, line_at text at inside, (behind inside).1))
one_more text at false none behind = ([], ltb-false at (length text) none)

unfoldable pub lines_from : (most : ℕ) (text : List ℕ) (at : ℕ) → length text ≤ at + most → (lines : List Line) × AreLines text at lines
lines_from zero text at enough = ([], omega arith)
lines_from (suc most) text at enough =
    one_more text at (nat_lt at (length text)) refl
    (λ inside. lines_from most text (read_at text at).1 (let line = line_at text at inside in omega (arith, line.later)))

unfoldable pub has_lines : (text : List ℕ) (at : ℕ) → (lines : List Line) × AreLines text at lines
has_lines text at = lines_from (length text) text at (omega arith)
