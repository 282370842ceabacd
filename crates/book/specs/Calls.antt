-- The calls, and the numbers of refusals. docs/RULES.md, 'The calls' and 'Numbers given back'.
use Rattle.std.specs.Prelude.{ℕ, Result, Ok, Err}
pub use Rattle.book.specs.declared.calls.Call.{Call}
pub use Rattle.book.specs.declared.calls.Refusal.{Refusal}
use Rattle.book.specs.declared.calls.Refusal.TheVariants.{Finished, OutOfRange, IdSpent, BookFull, NotOpen, NotDue, OnHold, WrongPart, NotClosed, FaultyFile, ShortBuffer}

-- what comes back from a call
abbrev pub Answer : Type 0
Answer = Result (Unit {0}) Refusal

-- the number of a refusal
abbrev pub refusal_number : Refusal → ℕ
refusal_number Finished = 1
refusal_number OutOfRange = 2
refusal_number IdSpent = 3
refusal_number BookFull = 4
refusal_number NotOpen = 5
refusal_number NotDue = 6
refusal_number OnHold = 7
refusal_number WrongPart = 8
refusal_number NotClosed = 9
refusal_number FaultyFile = 10
refusal_number ShortBuffer = 11

-- the number that comes back, 0 where none does
abbrev pub answer_number : Answer → ℕ
answer_number (Ok u) = 0
answer_number (Err refusal) = refusal_number refusal
