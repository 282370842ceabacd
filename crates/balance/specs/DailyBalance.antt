-- The daily balance, of the rows as they are given. docs/RULES.md, 'The daily balance'.
use Rattle.std.specs.Prelude.{◌≡◌, ℕ, zero, suc, ◌+◌, ◌≤◌, ◌<◌, true, List, [], ◌∷◌, map, if◌then◌else◌, Result, Ok, Err}
use Rattle.book.specs.declared.calls.Refusal.{Refusal}
use Rattle.book.specs.declared.calls.Refusal.TheVariants.{NotClosed}
use Rattle.book.specs.declared.calls.Call.{Call}
use Rattle.book.specs.declared.book.Book.{Book}
use Rattle.book.specs.declared.book.Outcome.{Outcome}
use Rattle.book.specs.declared.rows.Row.{Row}
use Rattle.book.specs.Limits.{day_limit, category_count}
use Rattle.book.specs.Calls.{Answer}
use Rattle.book.specs.Answers.{answer_to}
use Rattle.book.specs.Book.{book_after, fresh_book}
use Rattle.book.specs.Rows.{row_answer}
use Rattle.history.specs.History.{accepted_onto, closed, book_of, history_of}
use Rattle.book.specs.declared.figures.Measure.{Measure}
use Rattle.book.specs.Figures.{in_measure}
use Rattle.history.specs.Sums.{over_pairs, counts}
use Rattle.counted.specs.Counted.{row_at}
use Rattle.selections.specs.Readings.{due_of, cancelled_of, part_settled_of}

-- ---- the rows

-- what comes back for the row of each day and category
abbrev pub Rows : Type 0
Rows = ℕ → ℕ → Result Row Refusal

-- from a book
abbrev pub rows_of : Book → Rows
rows_of b d c = row_answer d c b

-- A row is given for each closed day, and for no other day.
abbrev pub ClosedDaysAreGiven : Type 0
ClosedDaysAreGiven =
    (calls : List Call) (c d : ℕ) → c ≤ category_count
    → rows_of (book_of calls) d c ≡ (if closed d (history_of calls) then Ok (row_at (book_of calls) d c) else Err NotClosed)

-- securities and cash fails together
abbrev pub fails_together : Measure → Row → ℕ
fails_together m row = in_measure m row.securities + in_measure m row.cash

-- The previous day's fails are those of the row given for the day before, same category; before day 0 there are none.
abbrev pub ArePrevious : Measure → ℕ → ℕ → Rows → ℕ → Type 0
ArePrevious m c zero rows n = n ≡ 0
ArePrevious m c (suc d) rows n = (row : Row) × (rows d c ≡ Ok row) × (fails_together m row ≡ n)

-- ---- the readings of the calls h, over the pairs that the category counts

-- the pairs with that ISD and no cancel on an earlier day
abbrev pub newly_due : Measure → ℕ → ℕ → List Call → ℕ
newly_due m c d h = over_pairs (counts c) (due_of m d h) h

-- the pairs with ISD ≤ that day and a cancel on it
abbrev pub cancelled : Measure → ℕ → ℕ → List Call → ℕ
cancelled m c d h = over_pairs (counts c) (cancelled_of m d h) h

-- the pairs with a settle on that day and a rest above 0 at its close
abbrev pub part_settled : Measure → ℕ → ℕ → List Call → ℕ
part_settled m c d h = over_pairs (counts c) (part_settled_of m d h) h

-- ---- the balance

-- settled + securities fails + cash fails + cancelled = previous day's fails + newly due, and in number 2 more on the right for
-- each part-settled pair
pub record Balances (m : Measure) (c d : ℕ) (h : List Call) (rows : Rows) : Type 0 where
  pub row : Row
  pub given : rows d c ≡ Ok row
  pub previous : ℕ
  pub are_previous : ArePrevious m c d rows previous
  pub balance : in_measure m row.settled + fails_together m row + cancelled m c d h ≡ previous + newly_due m c d h + part_settled m c d h

-- on each closed day and for each category, 0 to 9
abbrev pub RowsBalance : List Call → Rows → Type 0
RowsBalance h rows = (m : Measure) (c d : ℕ) → c ≤ category_count → closed d h ≡ true → Balances m c d h rows

-- of the rows of a book
abbrev pub BalancesOnClosedDays : List Call → Book → Type 0
BalancesOnClosedDays h b = RowsBalance h (rows_of b)

-- After every list of calls the rows balance against these calls and their answers.
abbrev pub DailyBalance : Type 0
DailyBalance = (calls : List Call) → BalancesOnClosedDays (history_of calls) (book_of calls)

-- ---- the same of whatever meets the contracts of the calls and of the row

-- the contract of a call: what comes back, and what the book then holds
abbrev pub Meets : Book → Call → Outcome → Type 0
Meets b call outcome = (outcome.answer ≡ answer_to call b) × (outcome.book ≡ book_after call b)

-- One outcome meets it, and no other does.
abbrev pub OneOutcome : Type 0
OneOutcome = (b : Book) (call : Call) → (one : Outcome) × Meets b call one × ((other : Outcome) → Meets b call other → other ≡ one)

-- a call, and what it handed back
pub record Made : Type 0 where
  pub call : Call
  pub outcome : Outcome

-- Each call gets the book that the call before handed back, and meets its contract.
abbrev pub Follow : Book → List Made → Type 0
Follow b [] = Unit {0}
Follow b (x ∷ made) = Meets b x.call x.outcome × Follow x.outcome.book made

-- the book that was handed back last
abbrev pub last_book : Book → List Made → Book
last_book b [] = b
last_book b (x ∷ made) = last_book x.outcome.book made

-- the calls of the list
abbrev pub calls_made : List Made → List Call
calls_made made = map (λ (x : Made). x.call) made

-- and their answers
abbrev pub answers_made : List Made → List Answer
answers_made made = map (λ (x : Made). x.outcome.answer) made

-- the accepted calls, by the answers that were handed back
abbrev pub history_made : List Made → List Call
history_made made = accepted_onto [] (calls_made made) (answers_made made)

-- the answers to every row call on a book meet its contract
abbrev pub GivesRows : Book → Rows → Type 0
GivesRows b rows = (d c : ℕ) → d < day_limit → c ≤ category_count → rows d c ≡ row_answer d c b

-- Calls are made one after another from a fresh book: the rows that are then given balance.
abbrev pub DailyBalanceOfCode : Type 0
DailyBalanceOfCode =
    (fresh : Book) → fresh ≡ fresh_book
    → (made : List Made) → Follow fresh made
    → (rows : Rows) → GivesRows (last_book fresh made) rows
    → RowsBalance (history_made made) rows

-- every call of a list made by a function, from a book on
abbrev pub made_by : (Book → Call → Outcome) → Book → List Call → List Made
made_by apply b [] = []
made_by apply b (call ∷ calls) = record { call = call; outcome = apply b call } ∷ made_by apply (apply b call).book calls

-- So it is of every function that meets the contract of the calls, folded over every list of calls.
abbrev pub DailyBalanceOfFunction : Type 0
DailyBalanceOfFunction =
    (fresh : Book) → fresh ≡ fresh_book
    → (apply : Book → Call → Outcome) → ((b : Book) (call : Call) → Meets b call (apply b call))
    → (rows : Book → Rows) → ((b : Book) → GivesRows b (rows b))
    → (calls : List Call)
    → RowsBalance (history_made (made_by apply fresh calls)) (rows (last_book fresh (made_by apply fresh calls)))
