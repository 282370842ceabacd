-- Lines of numbers and lent buffers worked by hand.
use Rattle.std.specs.Prelude.{◌≡◌, [], ◌∷◌, codes, None, Some}
use Rattle.texts.specs.Lines.{line_text, written}

-- numbers, none, 0, and the largest of 64 bits, each as a field; and texts put at a buffer's start
pub record WorkedLines : Type 0 where
  pub fields : line_text (Some 12 ∷ None ∷ Some 0 ∷ Some 305 ∷ []) ≡ codes "12,-,0,305\n"
  pub largest : line_text (None ∷ Some 18446744073709551615 ∷ []) ≡ codes "-,18446744073709551615\n"
  pub alone : line_text (Some 7 ∷ []) ≡ codes "7\n"
  pub empty : line_text [] ≡ codes "\n"
  -- what stands behind the text stays
  pub short : written (codes "7,-\n") (codes "......") ≡ codes "7,-\n.."
  -- as much as there is room for
  pub cut_off : written (codes "12,-,0\n") (codes "....") ≡ codes "12,-"
  pub no_room : written (codes "7\n") (codes "") ≡ codes ""
