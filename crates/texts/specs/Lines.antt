-- A line of numbers as text: what every line of a call file and of a table is. docs/RULES.md, 'The calls as text'.
use Rattle.std.specs.Prelude.{ℕ, List, [], ◌∷◌, ◌++◌, map, length, take, drop, min, Option, None, Some}
use Rattle.std.specs.List.{join_with_byte}
use Rattle.std.specs.Fmt.{decimal}

-- a field: a number in decimal, and `-` where there is none
abbrev pub field_text : Option ℕ → List ℕ
field_text None = 45 ∷ []
field_text (Some number) = decimal number

-- a line: its fields with commas between them, and LF
abbrev pub line_text : List (Option ℕ) → List ℕ
line_text fields = join_with_byte 44 (map field_text fields) ++ 10 ∷ []

-- as much of a text as a buffer has room for, at its start; the bytes behind it stay
abbrev pub written : List ℕ → List ℕ → List ℕ
written text buffer = let count = min (length text) (length buffer) in take count text ++ drop count buffer
