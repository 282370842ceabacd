-- What a line is read as, and where reading goes on. docs/RULES.md, 'The calls as text'.
use Rattle.std.specs.Prelude.{◌≡◌, ℕ, ◌+◌, ◌==◌, ◌<◌, ◌≤◌, ◌↔◌, List, [], ◌∷◌, ◌++◌, Bool, length, drop, Option, Some, None, MatchOption}
use Rattle.std.specs.List.{after_first}
use Rattle.book.specs.declared.calls.Call.{Call}
use Rattle.lines.specs.declared.reader.Line.{Line}
use Rattle.lines.specs.declared.reader.Line.TheVariants.{Correct, Wrong}
use Rattle.lines.specs.declared.reader.Lines.{Lines}
use Rattle.lines.specs.Grammar.{IsFirstWrongPlace, IsLine, HasShortFields, line_of}

-- the LF byte
abbrev pub is_line_feed : ℕ → Bool
is_line_feed byte = byte == 10

-- A line read is a call, whose line stands there, or the place of its first wrong byte, counted from 0 at the line's start.
-- Reading goes on behind the call's line, or behind the wrong line's LF, the first one from its wrong byte on.
abbrev pub IsReadAt : List ℕ → ℕ → Line → ℕ → Type 0
IsReadAt text at (Correct call) next = HasShortFields call × (drop at text ≡ line_of call ++ drop next text)
IsReadAt text at (Wrong place) next =
    IsFirstWrongPlace IsLine (drop at text) place × (drop next text ≡ after_first is_line_feed (drop (at + place) text))

-- the line at a place, and the place where the next one starts
pub record IsLineAt (text : List ℕ) (at : ℕ) (line : Line) (next : ℕ) : Type 0 where
  pub is_read : IsReadAt text at line next
  pub later : at < next
  pub within : next ≤ length text

-- what is read at a place: with no byte left there is no line
abbrev pub IsReading : List ℕ → ℕ → Option (Line × ℕ) → Type 0
IsReading text at read = MatchOption read (length text ≤ at) (λ (line, next). IsLineAt text at line next)

-- the reader's next line: where no byte is left there is none, and the reader stays
abbrev pub GivesLine : Lines → Option Line → Lines → Type 0
GivesLine before None after = (length before.text.now ≤ before.at) × (after ≡ before)
GivesLine before (Some line) after = IsLineAt before.text.now before.at line after.at × (after.text ≡ before.text)

-- the lines of a text from a place on
abbrev pub AreLines : List ℕ → ℕ → List Line → Type 0
AreLines text at [] = length text ≤ at
AreLines text at (line ∷ lines) = (next : ℕ) × IsLineAt text at line next × AreLines text next lines

-- ---- what follows, each with its function in `theorems`

-- the line of this call stands at the start of a text
abbrev pub LineStands : Call → List ℕ → Type 0
LineStands call text = HasShortFields call × ((rest : List ℕ) × (text ≡ line_of call ++ rest))

-- What comes back for a text is a call exactly where that call's line stands, a place exactly where that is the first wrong
-- byte's, and no line exactly where there is no byte.
pub record IsRight (text : List ℕ) (line : Option Line) : Type 0 where
  pub call : (call : Call) → (line ≡ Some (Correct call)) ↔ LineStands call text
  pub wrong : (place : ℕ) → (line ≡ Some (Wrong place)) ↔ ((0 < length text) × IsFirstWrongPlace IsLine text place)
  pub none : (line ≡ None) ↔ (text ≡ [])

-- Where reading goes on: behind a correct line, and behind the first LF from a wrong line's first wrong byte on. Either way
-- that is behind the first LF from the line's start on.
pub record GoesOn (text : List ℕ) (at : ℕ) (line : Line) (next : ℕ) : Type 0 where
  pub correct : (call : Call) → line ≡ Correct call → next ≡ at + length (line_of call)
  pub wrong : (place : ℕ) → line ≡ Wrong place → drop next text ≡ after_first is_line_feed (drop (at + place) text)
  pub either : drop next text ≡ after_first is_line_feed (drop at text)
