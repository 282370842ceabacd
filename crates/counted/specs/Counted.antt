-- Each figure is the plain sum of what the pairs' own calls give, and none reaches its cap. docs/RULES.md, 'A row'.
use Rattle.std.specs.Prelude.{◌≡◌, ℕ, ◌+◌, ◌*◌, ◌<◌, ◌≤◌, Bool, ◌||◌, ◌==◌, List}
use Rattle.rates.specs.Stored.{largest_stored}
use Rattle.book.specs.declared.calls.Call.{Call}
use Rattle.book.specs.declared.pairs.Entry.{Entry}
use Rattle.book.specs.declared.book.Book.{Book}
use Rattle.book.specs.declared.rows.Row.{Row}
use Rattle.book.specs.Limits.{day_limit, category_count, largest_id, largest_amount, largest_code}
use Rattle.book.specs.Figures.{in_measure}
use Rattle.book.specs.Rows.{row_of, figures_of, summary_at}
use Rattle.history.specs.History.{book_of, history_of}
use Rattle.book.specs.declared.figures.Measure.{Measure}
use Rattle.book.specs.declared.figures.Measure.TheVariants.{Number, Value}
use Rattle.history.specs.Sums.{counts}
use Rattle.counted.specs.PairCalls.{Column, settled, securities, cash, fails, total, isd_value, counted}

-- ---- rows

-- the row of a day and category, closed or not
abbrev pub row_at : Book → ℕ → ℕ → Row
row_at b d c = row_of (figures_of b.cells d c)

-- that figure of a row
abbrev pub column : Column → Row → ℕ
column (settled m) r = in_measure m r.settled
column (securities m) r = in_measure m r.securities
column (cash m) r = in_measure m r.cash
column (fails m) r = in_measure m r.securities + in_measure m r.cash
column (total m) r = in_measure m r.total
column isd_value r = r.isd_value

-- Each figure of each row is the sum, over the pairs that the category counts, of what each pair's own calls give that day.
abbrev pub RowsAreSums : Type 0
RowsAreSums =
    (calls : List Call) (k : Column) (c d : ℕ) → c ≤ category_count → d < day_limit
    → column k (row_at (book_of calls) d c) ≡ counted k (counts c) d (history_of calls)

-- ---- participants

-- the pair names the participant at either end; at both ends it is one pair, and counts one time
abbrev pub names_participant : ℕ → Entry → Bool
names_participant p e = e.deliverer == p || e.receiver == p

-- The same of each participant's summary, over the pairs that name it.
abbrev pub SummariesAreSums : Type 0
SummariesAreSums =
    (calls : List Call) (m : Measure) (p d : ℕ) → 1 ≤ p → p ≤ largest_code → d < day_limit
    → (in_measure m (summary_at (book_of calls).summaries d p).total ≡ counted (total m) (names_participant p) d (history_of calls))
    × (in_measure m (summary_at (book_of calls).summaries d p).fails ≡ counted (fails m) (names_participant p) d (history_of calls))

-- ---- no cap

-- what one pair gives on a day at the most: 2 SIs settled and 2 failing; settled and failing value together twice its amount
abbrev pub most_of_pair : Measure → ℕ
most_of_pair Number = 4
most_of_pair Value = 2 * largest_amount

-- what all pairs do, since ids end at 65,535: 262,140 SIs, and 1,310,700,000,000,000 cents
abbrev pub most : Measure → ℕ
most m = most_of_pair m * largest_id

-- the measure that a figure is in
abbrev pub measure_of : Column → Measure
measure_of (settled m) = m
measure_of (securities m) = m
measure_of (cash m) = m
measure_of (fails m) = m
measure_of (total m) = m
measure_of isd_value = Value

-- Of any pairs on any day no figure passes it; and all 64 days added up, 83,884,800,000,000,000 cents, stay below the largest
-- number of 64 bits.
pub record NoneIsCapped : Type 0 where
  pub bounds : (calls : List Call) (k : Column) (selects : Entry → Bool) (d : ℕ) → counted k selects d (history_of calls) ≤ most (measure_of k)
  pub in_number : most Number ≡ 262140
  pub in_value : most Value ≡ 1310700000000000
  pub all_days : day_limit * most Value < largest_stored
