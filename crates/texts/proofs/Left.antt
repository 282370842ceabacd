-- A line written field by field: the page, with the line of the fields that are left, is what was there and the whole line.
use Rattle.std.proofs.Common.{◌≡◌, ◌++◌, ◌+◌, ◌≤◌, ℕ, List, ◌∷◌, [], Option, length, refl, ap, ◌∙◌, arith}
use Rattle.std.proofs.Common.{append_assoc, length-append, sum_by}
use Rattle.std.proofs.lemmas.List.Sums.{sum_by-cons}
use Rattle.texts.specs.Lines.{field_text, line_text}

-- what stands behind a field: the line's end, or a comma and the line of the others
behind : List (Option ℕ) → List ℕ
behind [] = line_text []
behind (field ∷ fields) = 44 ∷ line_text (field ∷ fields)

line_text-cons : (field : Option ℕ) (others : List (Option ℕ)) → line_text (field ∷ others) ≡ field_text field ++ behind others
unfolding behind
line_text-cons field [] = refl
line_text-cons field (next ∷ others) = append_assoc (field_text field) _ _

-- a field, and the byte behind it
abbrev pub width : Option ℕ → ℕ
width field = length (field_text field) + 1

length-behind : (fields : List (Option ℕ)) → length (behind fields) ≡ sum_by width fields + 1
unfolding behind
length-behind [] = omega arith
length-behind (f ∷ fields) = omega (arith, ap length (line_text-cons f fields), length-append {A = ℕ}, length-behind fields, sum_by-cons width)

pub length-line_text : (fields : List (Option ℕ)) → 1 ≤ length fields → length (line_text fields) ≡ sum_by width fields
length-line_text [] some = absurd (omega arith)
length-line_text (f ∷ fields) some = omega (arith, ap length (line_text-cons f fields), length-append {A = ℕ}, length-behind, sum_by-cons width)

-- the next field, and a byte behind it, have room where the whole line has
pub has_room : (old now : List ℕ) (field : Option ℕ) (left others fields : List (Option ℕ)) (room : ℕ)
    → now ++ line_text left ≡ old ++ line_text fields
    → left ≡ field ∷ others → length old + length (line_text fields) ≤ room → length now + width field ≤ room
has_room old now field left others fields room is cut fits =
    let cut_off = ap length (ap line_text cut) ∙ length-line_text (field ∷ others) (omega arith) in
    omega (arith, ap length is, length-append {A = ℕ}, cut_off, sum_by-cons width)
