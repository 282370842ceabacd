use Rattle.std.proofs.Common.{◌≡◌}
use Rattle.timing_c.proofs.lines_read.reads.Given as goal

-- nothing is summed where no reading was asked for
abbrev pub invariant-loop-n : goal.invariant-loop-n
invariant-loop-n l = l.fn.times ≡ 0 → l.sum ≡ 0
