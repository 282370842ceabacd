-- Plain sums over a run of days, counted from the calls, and which runs are closed.
use Rattle.std.specs.Prelude.{ℕ, Bool, ◌&&◌, nat_le, List, sum_by}
use Rattle.book.specs.declared.calls.Call.{Call}
use Rattle.book.specs.declared.pairs.Entry.{Entry}
use Rattle.history.specs.History.{closed}
use Rattle.counted.specs.PairCalls.{Column, counted}
use Rattle.reports.specs.Sums.{days}

-- what the own calls of the selected pairs give on the days of a run, added up
abbrev pub counted_over : Column → (Entry → Bool) → ℕ → ℕ → List Call → ℕ
counted_over k selects first last h = sum_by (λ d. counted k selects d h) (days first last)

-- the first day is not after the last, and an accepted close falls on the last
abbrev pub is_closed_run : ℕ → ℕ → List Call → Bool
is_closed_run first last h = nat_le first last && closed last h
