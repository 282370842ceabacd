-- A file's text is known from as much of it as is read.
use Rattle.std.proofs.Common.{◌≡◌, ◌+◌, ◌≤◌, ℕ, List, take, length, subst, ap, ◌∙◌, sym, arith, inl, inr, Option, None, Some}
use Rattle.std.proofs.Common.{IfSome, take_all, length-take}
use Rattle.lines.specs.declared.reader.Line.{Line}
use Rattle.monitor.specs.Replay.{file_limit, IsSound}
use Rattle.monitor.specs.Texts.{IsTextOf}
use Rattle.console.specs.declared.text.Text.{Text}
use Rattle.console.specs.Texts.{text_for, WritesText}

of_cut : (text : List Line → List ℕ) (input bytes : List ℕ) → IsTextOf text (take (file_limit + 1) input) bytes → IsTextOf text input bytes
of_cut text input bytes (inl given) =
    let short : length input ≤ file_limit + 1 = omega (arith, given.1.1.short, length-take (file_limit + 1) input) in
    subst (λ file. IsTextOf text file bytes) (take_all (file_limit + 1) input short) (inl given)
of_cut text input bytes (inr faulty) = inr (λ rest sound. faulty.0 rest (whole rest sound), faulty.1) where
  whole : (rest : List ℕ) → IsSound input rest → IsSound (take (file_limit + 1) input) rest
  whole rest sound = subst (λ file. IsSound file rest) (sym (take_all (file_limit + 1) input (omega (arith, sound.short)))) sound

pub of_known : (asked : Text) (known old new : Option (List ℕ)) (file : List ℕ) (room : ℕ) → room ≡ file_limit + 1
    → IfSome known (λ input. file ≡ take room input)
    → WritesText asked file old new → IfSome known (λ input. WritesText asked input old new)
of_known asked None old new file room is cut text = tt
of_known asked (Some input) old new file room is cut text =
    let read = subst (λ f. IsTextOf (text_for asked) f text.0) (cut ∙ ap (λ n. take n input) is) text.1 in
    (text.0, of_cut (text_for asked) input text.0 read, text.2)
