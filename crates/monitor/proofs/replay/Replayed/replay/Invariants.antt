use Rattle.monitor.proofs.Replays.{Counts}
use Rattle.monitor.proofs.replay.Replayed.replay.Given as goal

abbrev pub invariant-loop-line : goal.invariant-loop-line
invariant-loop-line l = Counts l.fn.file l.line-iterator l.self
