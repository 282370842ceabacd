use Rattle.from_calls.proofs.Lists.{codes}
use Rattle.from_calls.proofs.lists_from_calls.Goals as goal

pub returns-clause-codes : goal.returns-clause-codes
returns-clause-codes c = codes
