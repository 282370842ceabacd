use Rattle.monitor.proofs.Replays.{counts_of_lines}
use Rattle.monitor.proofs.theorems.counts_are_lines.Goals as goal

pub returns : goal.returns
returns c = counts_of_lines
