-- A line as the reader's own functions read it, from left to right, byte by byte. No public contract cites this page: what it
-- answers is proved to be what `Grammar` says.
use Rattle.std.specs.Prelude.{ℕ, ◌+◌, ◌-◌, ◌*◌, ◌==◌, List, [], ◌∷◌, length, drop, Bool, true, false, ◌&&◌, ◌||◌, not, nat_le, nat_lt, Result, Ok, Err, if◌then◌else◌}
use Rattle.std.specs.Char.{is_ascii_digit}
use Rattle.std.specs.List.{after_first}
use Rattle.book.specs.declared.calls.Call.{Call}
use Rattle.lines.specs.declared.reader.Line.{Line}
use Rattle.lines.specs.declared.reader.Line.TheVariants.{Correct, Wrong}
use Rattle.lines.specs.Table.{call_count, call_made, highest_of}
use Rattle.lines.specs.Reading.{is_line_feed}

-- what a text is read as: something and what is left behind it, or what is left from the first wrong byte on
abbrev pub Parsed : Type 0 → Type 0
Parsed A = Result (A × List ℕ) (List ℕ)

-- ---- a field

-- behind some digits the byte ends the field
abbrev pub ends : ℕ → Bool → ℕ → Bool
ends end empty byte = not empty && (byte == end)

-- Behind the digits of this value the byte is one that may follow: a digit, no 0 leads, and the number is within its bounds.
abbrev pub continues : ℕ → ℕ → Bool → ℕ → ℕ → Bool
continues lowest highest empty value byte =
    let next = value * 10 + (byte - 48) in
    is_ascii_digit byte && ((empty || nat_lt 0 value) && (nat_le lowest next && nat_le next highest))

-- a number within bounds and the byte that ends it, where digits of a value were read, or none yet
unfoldable pub field_read : (lowest highest end : ℕ) → List ℕ → Bool → ℕ → Parsed ℕ
field_read lowest highest end [] empty value = Err []
field_read lowest highest end (byte ∷ bytes) empty value =
    let more = field_read lowest highest end bytes false (value * 10 + (byte - 48)) in
    if ends end empty byte then Ok (value, bytes) else (if continues lowest highest empty value byte then more else Err (byte ∷ bytes))

-- ---- values

-- a part, and then the one behind it
abbrev pub and_then : {A B : Type 0} → Parsed A → (A × List ℕ → Parsed B) → Parsed B
and_then (Err left) next = Err left
and_then (Ok read) next = next read

-- a part, the one behind it that the first one picks, and what both make
abbrev pub both_read : {A B C : Type 0} → (List ℕ → Parsed A) → (A → List ℕ → Parsed B) → (A → B → C) → List ℕ → Parsed C
both_read first second join text = and_then (first text) (λ read. and_then (second read.0 read.1) (λ more. Ok (join read.0 more.0, more.1)))

-- what ends a field: a comma where more follow, and else LF
abbrev pub end_of : {A : Type 0} → List A → ℕ
end_of [] = 10
end_of (x ∷ xs) = 44

-- values up to these highest ones
unfoldable pub values_read : List ℕ → List ℕ → Parsed (List ℕ)
values_read [] text = Ok ([], text)
values_read (highest ∷ others) text =
    both_read (λ bytes. field_read 0 highest (end_of others) bytes true 0) (λ _ bytes. values_read others bytes) (λ value values. value ∷ values) text

-- ---- a line

-- a call's line: its number, and the values that it picks
unfoldable pub call_read : List ℕ → Parsed Call
call_read = both_read (λ text. field_read 1 call_count 44 text true 0) (λ number. values_read (drop 1 (highest_of number))) call_made

-- a line, and what is left behind it: behind a wrong one's LF, the first one from its wrong byte on
abbrev pub line_or_place : List ℕ → Parsed Call → Line × List ℕ
line_or_place text (Ok read) = (Correct read.0, read.1)
line_or_place text (Err left) = (Wrong (length text - length left), after_first is_line_feed left)

abbrev pub line_read : List ℕ → Line × List ℕ
line_read text = line_or_place text (call_read text)
