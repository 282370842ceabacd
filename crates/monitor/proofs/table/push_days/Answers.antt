use Rattle.monitor.proofs.Words.{arith, rules, day_line}
use Rattle.monitor.proofs.Joined.{numbers_room}
use Rattle.monitor.proofs.table.push_days.Goals as goal

pub push_day-requires : goal.push_day-requires
push_day-requires g c =
    (search rules, numbers_room (day_line c.args.book.now) c.loop-day.day _ _ _ _ (omega arith) c.loop-day.invariant c.requires)
