-- A text as its lines, and a file of calls, written and read back. docs/RULES.md, 'The calls as text' and 'A call file'.
use Rattle.std.specs.Prelude.{◌≡◌, ℕ, ◌↔◌, List, [], ◌∷◌, ◌++◌, length, map, if◌then◌else◌}
use Rattle.std.specs.List.{AllByRecursion, AllZip, flat_map, onto_first}
use Rattle.book.specs.declared.calls.Call.{Call}
use Rattle.lines.specs.declared.reader.Line.{Line}
use Rattle.lines.specs.declared.reader.Line.TheVariants.{Correct}
use Rattle.lines.specs.Grammar.{HasShortFields, line_of}
use Rattle.lines.specs.Reading.{AreLines, IsLineAt, is_line_feed}
use Rattle.lines.specs.Written.{names_line}

-- a text cut behind each LF; its last piece may have none
abbrev pub cut : List ℕ → List (List ℕ)
cut [] = []
cut (byte ∷ bytes) = if is_line_feed byte then (byte ∷ []) ∷ cut bytes else onto_first byte (cut bytes)

-- a piece, read by itself, is one line
abbrev pub IsReadAlone : List ℕ → Line → Type 0
IsReadAlone piece line = IsLineAt piece 0 line (length piece)

-- The lines of a text are its pieces, each read by itself, and as many.
pub record ArePieces (text : List ℕ) (lines : List Line) : Type 0 where
  pub alone : AllZip IsReadAlone (cut text) lines
  pub count : length lines ≡ length (cut text)

-- a call file: the names line, then one line a call
abbrev pub file_of : List Call → List ℕ
file_of calls = names_line ++ flat_map line_of calls

-- a text is a call file with no wrong line, of whatever length, and these are its calls
pub record ReadsAs (text : List ℕ) (calls : List Call) : Type 0 where
  pub rest : List ℕ
  pub named : text ≡ names_line ++ rest
  pub lines : AreLines rest 0 (map (λ call. Correct call) calls)

-- A text reads as some calls exactly where it is the file that is written of them, none with a field of more than 11 digits.
-- So a file that is written reads as the same calls, equal calls mean equal bytes, and equal bytes equal calls.
pub record RoundTrip (text : List ℕ) (calls : List Call) : Type 0 where
  pub same_bytes : ReadsAs text calls ↔ (AllByRecursion HasShortFields calls × (text ≡ file_of calls))
  pub same_calls : (others : List Call) → ReadsAs text calls → ReadsAs text others → calls ≡ others
