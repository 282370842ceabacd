-- What a correct line is, and which byte of a wrong one is the first wrong one. docs/RULES.md, 'The calls as text'.
use Rattle.std.specs.Prelude.{◌≡◌, ℕ, suc, ◌≤◌, ◌<◌, List, ◌++◌, length, take, map, Some}
use Rattle.std.specs.List.{AllByRecursion}
use Rattle.book.specs.declared.calls.Call.{Call}
use Rattle.texts.specs.Lines.{line_text}
use Rattle.lines.specs.Table.{short_limit, numbers_of}

-- a call that a line can hold: no number has more than 11 digits
abbrev pub HasShortFields : Call → Type 0
HasShortFields call = AllByRecursion (λ n. n < short_limit) (numbers_of call)

-- the line of a call: its numbers in decimal with commas between them, and LF
abbrev pub line_of : Call → List ℕ
line_of call = line_text (map (λ number. Some number) (numbers_of call))

-- a correct line: that of some call
abbrev pub IsLine : List ℕ → Type 0
IsLine word = (call : Call) × HasShortFields call × (word ≡ line_of call)

-- the bytes begin a word of a language, as a correct line
abbrev pub Begins : (List ℕ → Type 0) → List ℕ → Type 0
Begins L front = (more : List ℕ) × L (front ++ more)

-- The first wrong byte of a text that has no correct line at its start is the first one up to and including which the bytes
-- begin no correct line; where the text ends inside a line that could still become correct, it is the place after the last
-- byte.
pub record IsFirstWrongPlace (L : List ℕ → Type 0) (text : List ℕ) (place : ℕ) : Type 0 where
  -- a place of the text, or the one after its last byte
  pub within : place ≤ length text
  -- up to and including each earlier byte they begin a correct line
  pub before : (earlier : ℕ) → earlier < place → Begins L (take (suc earlier) text)
  -- and up to and including this one, where there is one, they begin none
  pub here : place < length text → Begins L (take (suc place) text) → ⊥
  -- and the text has no correct line at its start
  pub unread : (word rest : List ℕ) → L word → text ≡ word ++ rest → ⊥
