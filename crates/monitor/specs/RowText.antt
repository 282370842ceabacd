-- A row as text: one line of the table with its LF.
use Rattle.std.specs.Prelude.{◌≡◌, ℕ, ◌≤◌, List, [], ◌∷◌, ◌++◌, length, drop, min, nat_lt, Option, Some, Result, Ok, Err, if◌then◌else◌}
use Rattle.book.specs.declared.calls.Call.{Call}
use Rattle.book.specs.declared.calls.Refusal.{Refusal}
use Rattle.book.specs.declared.calls.Refusal.TheVariants.{ShortBuffer}
use Rattle.book.specs.declared.rows.Row.{Row}
use Rattle.book.specs.Rows.{row_answer}
use Rattle.history.specs.History.{book_of}
use Rattle.texts.specs.Lines.{line_text, written}

-- the columns of the table: day,total_n,settled_n,sec_n,cash_n,total_v,settled_v,sec_v,cash_v,isd_v
unfoldable pub row_fields : ℕ → Row → List (Option ℕ)
row_fields day r =
    Some day
    ∷ Some r.total.number
    ∷ Some r.settled.number
    ∷ Some r.securities.number
    ∷ Some r.cash.number
    ∷ Some r.total.value
    ∷ Some r.settled.value
    ∷ Some r.securities.value
    ∷ Some r.cash.value
    ∷ Some r.isd_value
    ∷ []

abbrev pub row_line : ℕ → Row → List ℕ
row_line day r = line_text (row_fields day r)

-- a shorter buffer is refused
abbrev pub shortest_buffer : ℕ
shortest_buffer = 128

-- What comes back, and the buffer. Refused, it is the same: the row's own refusals, 2 and 9, come first; then a buffer under
-- 128 bytes is 11.
abbrev pub row_text : ℕ → List ℕ → Result Row Refusal → Result ℕ Refusal × List ℕ
row_text day buffer (Err refusal) = (Err refusal, buffer)
row_text day buffer (Ok r) =
    if nat_lt (length buffer) shortest_buffer then (Err ShortBuffer, buffer)
    else (Ok (min (length (row_line day r)) (length buffer)), written (row_line day r) buffer)

-- a bound on the bytes of a line: 2 digits of the day, 6 of each number, 16 of each value, and 10
-- bytes between and behind them
abbrev pub line_bound : ℕ
line_bound = 116

-- After every list of calls a line has no more.
abbrev pub LinesAreShort : Type 0
LinesAreShort = (calls : List Call) (day category : ℕ) (r : Row) → row_answer day category (book_of calls) ≡ Ok r → length (row_line day r) ≤ line_bound

-- So the bytes written are the whole line, and those behind it stay.
abbrev pub WholeLines : Type 0
WholeLines =
    (calls : List Call) (day category n : ℕ) (buffer : List ℕ) (r : Row)
    → row_answer day category (book_of calls) ≡ Ok r
    → (row_text day buffer (Ok r)).0 ≡ Ok n
    → (n ≡ length (row_line day r)) × ((row_text day buffer (Ok r)).1 ≡ row_line day r ++ drop n buffer)
