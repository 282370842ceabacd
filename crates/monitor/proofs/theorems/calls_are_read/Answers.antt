use Rattle.monitor.proofs.Replays.{files_are_read, calls_are_read}
use Rattle.monitor.proofs.theorems.calls_are_read.Goals as goal

pub returns : goal.returns
returns c = record { lines = files_are_read; calls = calls_are_read }
