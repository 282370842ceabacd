-- The sums of a book are plain sums, and bounded, over runs of days too. docs/RULES.md, 'A row'.
use Rattle.std.specs.Prelude.{◌≡◌, ℕ, ◌+◌, ◌*◌, ◌<◌, ◌≤◌, List, Ok}
use Rattle.std.specs.List.{range_with_len}
use Rattle.book.specs.declared.calls.Call.{Call}
use Rattle.book.specs.declared.book.Book.{Book}
use Rattle.book.specs.declared.rows.Row.{Row}
use Rattle.book.specs.Limits.{day_limit, category_count, largest_code}
use Rattle.book.specs.Rows.{summary_at, row_answer}
use Rattle.book.specs.declared.figures.Measure.{Measure}
use Rattle.book.specs.declared.figures.Measure.TheVariants.{Number, Value}
use Rattle.book.specs.Figures.{in_measure}
use Rattle.history.specs.Sums.{sum_of}
use Rattle.history.specs.History.{book_of}
use Rattle.counted.specs.PairCalls.{Column}
use Rattle.counted.specs.Counted.{row_at, column, most, measure_of}

-- ---- the figures of a day

-- each figure of a row is a part of its total, and no total passes the bound
pub record IsBounded (r : Row) : Type 0 where
  pub number : r.total.number ≤ most Number
  pub value : r.total.value ≤ most Value
  pub parts : (k : Column) → column k r ≤ in_measure (measure_of k) r.total

-- its total
abbrev pub total_on : Measure → Book → ℕ → ℕ → ℕ
total_on m b c d = in_measure m (row_at b d c).total

-- a participant's total
abbrev pub participant_on : Measure → Book → ℕ → ℕ → ℕ
participant_on m b p d = in_measure m (summary_at b.summaries d p).total

-- ---- the sums of a book

-- They are plain sums, and bounded.
pub record Plain (b : Book) : Type 0 where
  -- total is settled + securities fails + cash fails
  pub totals : (m : Measure) (c d : ℕ) → c ≤ category_count → d < day_limit
      → total_on m b c d ≡ in_measure m (row_at b d c).settled + (in_measure m (row_at b d c).securities + in_measure m (row_at b d c).cash)
  -- category 0 is the sum of categories 1 to 9
  pub categories : (k : Column) (d : ℕ) → d < day_limit → column k (row_at b d 0) ≡ sum_of (λ c. column k (row_at b d c)) (range_with_len 1 category_count)
  -- a row's bounds
  pub rows : (c d : ℕ) → c ≤ category_count → d < day_limit → IsBounded (row_at b d c)
  -- ISD value is a part of the fails
  pub isd_values : (c d : ℕ) → c ≤ category_count → d < day_limit → (row_at b d c).isd_value ≤ (row_at b d c).securities.value + (row_at b d c).cash.value
  -- the totals of n days
  pub runs : (m : Measure) (c first n : ℕ) → c ≤ category_count → first + n ≤ day_limit → sum_of (total_on m b c) (range_with_len first n) ≤ n * most m
  -- the same for participants
  pub participant_fails : (m : Measure) (p d : ℕ) → 1 ≤ p → p ≤ largest_code → d < day_limit → in_measure m (summary_at b.summaries d p).fails ≤ participant_on m b p d
  pub participant_runs : (m : Measure) (p first n : ℕ) → 1 ≤ p → p ≤ largest_code → first + n ≤ day_limit
      → sum_of (participant_on m b p) (range_with_len first n) ≤ n * most m

-- after every list of calls
abbrev pub SumsArePlain : Type 0
SumsArePlain = (calls : List Call) → Plain (book_of calls)

-- So every row that is given is bounded: 262,140 SIs and 1,310,700,000,000,000 cents at the most.
abbrev pub RowsAreBounded : Type 0
RowsAreBounded = (calls : List Call) (d c : ℕ) (r : Row) → row_answer d c (book_of calls) ≡ Ok r → IsBounded r
