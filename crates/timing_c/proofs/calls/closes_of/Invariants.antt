use Rattle.std.proofs.Common.{◌≡◌}
use Rattle.timing_c.proofs.calls.closes_of.Given as goal

-- nothing failed where no close was asked for
abbrev pub invariant-loop : goal.invariant-loop
invariant-loop g l = l.fn.times ≡ 0 → l.last ≡ 0
