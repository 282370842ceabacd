-- Numbers in decimal: of 1 to 11 digits, no leading zero except 0 itself. docs/RULES.md, 'The calls as text'.
use Rattle.std.specs.Prelude.{◌≡◌, ℕ, ◌<◌, ◌≤◌, ◌↔◌, List, length, slice_index_or}
use Rattle.std.specs.Fmt.{decimal}
use Rattle.std.specs.Str.Parse.{IsNumeral, digits_value}
use Rattle.lines.specs.Table.{short_limit}

-- digits, at least one, no leading zero except 0 itself, that stand for a number
pub record StandFor (digits : List ℕ) (number : ℕ) : Type 0 where
  pub numeral : IsNumeral 10 digits
  -- where the first digit is 0, it is the only one
  pub no_zero : slice_index_or digits 0 0 ≡ 48 → length digits ≡ 1
  pub value : digits_value 10 digits ≡ number

-- The decimal of a number is the one text that stands for it, and it has at most 11 digits exactly where the number is below
-- the limit of a field's number.
pub record IsDecimal (number : ℕ) : Type 0 where
  pub one_text : (digits : List ℕ) → StandFor digits number ↔ (digits ≡ decimal number)
  pub short : (length (decimal number) ≤ 11) ↔ (number < short_limit)
