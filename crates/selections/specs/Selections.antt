-- The daily balance of any selection of pairs: of one pair alone, of a category, of a participant. docs/RULES.md, 'The daily
-- balance'.
use Rattle.std.specs.Prelude.{◌≡◌, ℕ, zero, suc, ◌+◌, Bool, true, List}
use Rattle.book.specs.declared.calls.Call.{Call}
use Rattle.book.specs.declared.pairs.Entry.{Entry}
use Rattle.history.specs.History.{closed, history_of}
use Rattle.book.specs.declared.figures.Measure.{Measure}
use Rattle.history.specs.Sums.{over_pairs}
use Rattle.counted.specs.PairCalls.{settled, fails, counted}
use Rattle.selections.specs.Readings.{due_of, cancelled_of, part_settled_of}

-- the fails of the day before; before day 0 there are none
abbrev pub failed_before : Measure → (Entry → Bool) → ℕ → List Call → ℕ
failed_before m selects zero h = 0
failed_before m selects (suc d) h = counted (fails m) selects d h

-- settled + fails + cancelled = the previous day's fails + newly due, and in number 2 more on the right for each part-settled
abbrev pub Balances : Measure → (Entry → Bool) → ℕ → List Call → Type 0
Balances m selects d h =
    counted (settled m) selects d h + counted (fails m) selects d h + over_pairs selects (cancelled_of m d h) h
    ≡ failed_before m selects d h + over_pairs selects (due_of m d h) h + over_pairs selects (part_settled_of m d h) h

-- After every list of calls, on each closed day.
abbrev pub SelectionsBalance : Type 0
SelectionsBalance = (calls : List Call) (m : Measure) (selects : Entry → Bool) (d : ℕ) → closed d (history_of calls) ≡ true → Balances m selects d (history_of calls)
