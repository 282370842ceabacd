use Rattle.book.proofs.Places.{taken_out}
use Rattle.book.proofs.book.take_out.Goals as goal

pub returns : goal.returns
returns c = search (taken_out)
