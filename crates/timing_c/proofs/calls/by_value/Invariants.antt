use Rattle.std.proofs.Common.{◌≤◌}
use Rattle.timing_c.proofs.calls.by_value.Given as goal

-- no more are accepted than were made
abbrev pub invariant-loop-n : goal.invariant-loop-n
invariant-loop-n g l = l.count ≤ l.n
