-- A call file replayed on a fresh book: its lines, what comes of each, and what they leave.
use Rattle.std.specs.Prelude.{◌≡◌, ℕ, ◌≤◌, Bool, false, not, List, [], ◌∷◌, ◌++◌, length, Result, Ok, Err, is_ok}
use Rattle.std.specs.List.{count_by}
use Rattle.book.specs.declared.calls.Call.{Call}
use Rattle.book.specs.declared.calls.Refusal.{Refusal}
use Rattle.book.specs.declared.calls.Refusal.TheVariants.{FaultyFile}
use Rattle.book.specs.declared.book.Book.{Book}
use Rattle.book.specs.Answers.{answer_to}
use Rattle.book.specs.Book.{book_after, fresh_book}
use Rattle.history.specs.History.{book_of, history_of}
use Rattle.balance.specs.DailyBalance.{BalancesOnClosedDays}
use Rattle.lines.specs.declared.reader.Line.{Line}
use Rattle.lines.specs.declared.reader.Line.TheVariants.{Correct, Wrong}
use Rattle.lines.specs.Reading.{AreLines}
use Rattle.lines.specs.Written.{names_line}
use Rattle.monitor.specs.declared.replay.LineAnswer.{LineAnswer}
use Rattle.monitor.specs.declared.replay.LineAnswer.TheVariants.{Made, WrongByte}
use Rattle.monitor.specs.declared.replay.Replayed.{Replayed}

-- ---- the file

-- as many bytes as a file may have
abbrev pub file_limit : ℕ
file_limit = 65536

-- the names line, and so much behind it, of no more bytes together
pub record IsSound (file rest : List ℕ) : Type 0 where
  pub named : file ≡ names_line ++ rest
  pub short : length file ≤ file_limit

-- any other file
abbrev pub IsFaulty : List ℕ → Type 0
IsFaulty file = (rest : List ℕ) → IsSound file rest → ⊥

-- the lines behind the names line
abbrev pub HasLines : List ℕ → List Line → Type 0
HasLines file lines = (rest : List ℕ) × IsSound file rest × AreLines rest 0 lines

-- ---- a line

-- A correct line's call is made.
abbrev pub answer_to_line : Book → Line → LineAnswer
answer_to_line b (Correct call) = Made (answer_to call b)
answer_to_line b (Wrong place) = WrongByte place

-- A wrong line leaves the book the same.
abbrev pub after_line : Book → Line → Book
after_line b (Correct call) = book_after call b
after_line b (Wrong place) = b

-- A wrong line is refused.
abbrev pub is_accepted : LineAnswer → Bool
is_accepted (Made answer) = is_ok answer
is_accepted (WrongByte place) = false

-- ---- line after line

-- the calls of the correct lines, in their order
abbrev pub calls_in : List Line → List Call
calls_in [] = []
calls_in (Correct call ∷ lines) = call ∷ calls_in lines
calls_in (Wrong place ∷ lines) = calls_in lines

-- what comes of each line, from a book on
abbrev pub answers_from : Book → List Line → List LineAnswer
answers_from b [] = []
answers_from b (line ∷ lines) = answer_to_line b line ∷ answers_from (after_line b line) lines

-- and from a fresh one
abbrev pub answers_of : List Line → List LineAnswer
answers_of lines = answers_from fresh_book lines

-- the book of their calls, how many lines were accepted, and how many refused, wrong ones included
abbrev pub replayed : List Line → Replayed
replayed lines = record {
  book = book_of (calls_in lines);
  accepted = count_by is_accepted (answers_of lines);
  refused = count_by (λ answer. not (is_accepted answer)) (answers_of lines);
}

-- ---- what comes back

-- what a file leaves that is not faulty
abbrev pub IsReplayed : List ℕ → Replayed → Type 0
IsReplayed file r = (lines : List Line) × HasLines file lines × (r ≡ replayed lines)

-- 10: a faulty file is refused by it
abbrev pub IsRefused : List ℕ → Refusal → Type 0
IsRefused file refusal = IsFaulty file × (refusal ≡ FaultyFile)

-- what comes back for a file
abbrev pub IsReplayOf : List ℕ → Result Replayed Refusal → Type 0
IsReplayOf file (Ok r) = IsReplayed file r
IsReplayOf file (Err refusal) = IsRefused file refusal

-- The rows of a book balance against the calls of a file and their answers.
abbrev pub BalancesFor : List ℕ → Book → Type 0
BalancesFor file b = (lines : List Line) → HasLines file lines → BalancesOnClosedDays (history_of (calls_in lines)) b
