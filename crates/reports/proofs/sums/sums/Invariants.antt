use Rattle.history.proofs.Words.{◌≡◌, ◌-◌, map, range_with_len}
use Rattle.reports.specs.Sums.{sums_of}
use Rattle.counted.specs.Counted.{row_at}
use Rattle.reports.proofs.sums.sums.Given as goal

abbrev pub invariant-loop-day : goal.invariant-loop-day
invariant-loop-day l =
    l.sums ≡ sums_of (map (λ day. row_at l.book day l.category) (range_with_len l.fn.run.first (l.day - l.fn.run.first)))
