-- What is read off a list of calls and their answers, and never off a book. docs/RULES.md, 'The daily balance'.
use Rattle.std.specs.Prelude.{ℕ, ◌+◌, Bool, true, false, ◌&&◌, ◌||◌, ◌==◌, nat_lt, List, [], ◌∷◌, is_ok, if◌then◌else◌}
use Rattle.book.specs.declared.pairs.Entry.{Entry}
use Rattle.book.specs.declared.calls.Call.{Call}
use Rattle.book.specs.declared.calls.Call.TheVariants.{Enter, Settle, Cancel, Close}
use Rattle.book.specs.declared.book.Book.{Book}
use Rattle.book.specs.Calls.{Answer}
use Rattle.book.specs.Answers.{answer_to}
use Rattle.book.specs.Book.{book_after, book_after_all, fresh_book}

-- ---- a list of calls

-- what comes back from each call, on the book that the call before left
abbrev pub answers : List Call → Book → List Answer
answers [] b = []
answers (call ∷ calls) b = answer_to call b ∷ answers calls (book_after call b)

-- A call is accepted when no number comes back: the accepted ones, the latest first, before those accepted earlier.
abbrev pub accepted_onto : List Call → List Call → List Answer → List Call
accepted_onto h [] given = h
accepted_onto h (call ∷ calls) [] = h
accepted_onto h (call ∷ calls) (answer ∷ given) = accepted_onto (if is_ok answer then call ∷ h else h) calls given

-- The list starts at a fresh book: the book after it,
abbrev pub book_of : List Call → Book
book_of calls = book_after_all calls fresh_book

-- and its history, by the calls and their answers.
abbrev pub history_of : List Call → List Call
history_of calls = accepted_onto [] calls (answers calls fresh_book)

-- ---- of a history h: the accepted calls, the latest first, so that what came before a call stands behind it

-- a close
abbrev pub is_close : Call → Bool
is_close Close = true
is_close _ = false

-- A call falls on the day that equals the count of closes before it: here the day of a call that follows h.
abbrev pub day_of : List Call → ℕ
day_of [] = 0
day_of (call ∷ h) = if is_close call then day_of h + 1 else day_of h

-- A day is closed when a close falls on it.
abbrev pub closed : ℕ → List Call → Bool
closed d [] = false
closed d (call ∷ h) = (is_close call && day_of h == d) || closed d h

-- one pair more, where the call is an enter
abbrev pub with_enter : Call → List Entry → List Entry
with_enter (Enter e) es = e ∷ es
with_enter _ es = es

-- A pair is an accepted enter.
abbrev pub entries : List Call → List Entry
entries [] = []
entries (call ∷ h) = with_enter call (entries h)

-- a settle of id i
abbrev pub settles : ℕ → Call → Bool
settles i (Settle id part) = id == i
settles i _ = false

-- the part of a settle, 0 of another call
abbrev pub part_of : Call → ℕ
part_of (Settle id part) = part
part_of _ = 0

-- the parts that settled of id i
abbrev pub parts : ℕ → List Call → ℕ
parts i [] = 0
parts i (call ∷ h) = if settles i call then parts i h + part_of call else parts i h

-- a part of id i settled on day d
abbrev pub settled_on : ℕ → ℕ → List Call → Bool
settled_on i d [] = false
settled_on i d (call ∷ h) = (settles i call && day_of h == d) || settled_on i d h

-- a cancel of id i
abbrev pub cancels : ℕ → Call → Bool
cancels i (Cancel id) = id == i
cancels i _ = false

-- It falls on day d.
abbrev pub cancelled_on : ℕ → ℕ → List Call → Bool
cancelled_on i d [] = false
cancelled_on i d (call ∷ h) = (cancels i call && day_of h == d) || cancelled_on i d h

-- a cancel of id i falls on a day before d
abbrev pub cancelled_before : ℕ → ℕ → List Call → Bool
cancelled_before i d [] = false
cancelled_before i d (call ∷ h) = (cancels i call && nat_lt (day_of h) d) || cancelled_before i d h
