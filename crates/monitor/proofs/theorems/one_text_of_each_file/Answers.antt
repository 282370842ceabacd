use Rattle.monitor.proofs.Replays.{one_list, one_text}
use Rattle.monitor.proofs.theorems.one_text_of_each_file.Goals as goal

pub returns : goal.returns
returns c = record { lines = one_list; text = one_text }
