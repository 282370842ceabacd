use Rattle.history.proofs.Words.{◌≡◌, ◌≤◌, drop, day_limit}
use Rattle.monitor.specs.Days.{day_from}
use Rattle.monitor.proofs.days.parse_day.Given as goal

abbrev pub invariant-loop-byte : goal.invariant-loop-byte
invariant-loop-byte l = record {
  within : l.day ≤ day_limit;
  same : day_from l.day (drop l.byte-index l.digits) ≡ day_from 0 l.digits;
}
