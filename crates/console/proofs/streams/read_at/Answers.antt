use Rattle.std.proofs.Common.{arith, length-take-le}
use borrow.Rule.Slice.PartMut.{take_put}
use Rattle.console.proofs.Reading.{read_behind}
use Rattle.console.proofs.streams.read_at.Goals as goal

pub returns-clause-front : goal.returns-clause-front
returns-clause-front g c = take_put _ _ c.args.buffer.now _ (omega (arith, c.requires))

pub returns-clause-read : goal.returns-clause-read
returns-clause-read g c =
    read_behind _ _ c.read.result _ c.read.new.buf _ c.args.at (length-take-le _ c.args.buffer.now (omega (arith, c.requires)))
    c.read.ensures.bound c.read.ensures.bytes
