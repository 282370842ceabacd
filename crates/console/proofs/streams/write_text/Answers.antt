use Rattle.std.proofs.Common.{rules, take, length}
use Rattle.console.proofs.Whole.{of_known}
use Rattle.console.proofs.streams.write_text.Goals as goal

pub returns-clause-written : goal.returns-clause-written
returns-clause-written g c =
    let buffer = c.read_all.new.buffer in
    of_known c.args.asked _ _ _ (take c.in-Ok.count buffer) (length buffer) (search rules) c.in-Ok.ensures.read (search rules)
