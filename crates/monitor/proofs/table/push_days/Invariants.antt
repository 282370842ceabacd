use Rattle.monitor.proofs.Words.{◌≡◌, ◌++◌, range_with_len, flat_map, day_line}
use Rattle.monitor.proofs.table.push_days.Given as goal

abbrev pub invariant-loop-day : goal.invariant-loop-day
invariant-loop-day g l = l.page.items ≡ l.fn.page.items ++ flat_map (day_line l.book) (range_with_len 0 l.day)
