use Rattle.ranking.proofs.Sums.{codes}
use Rattle.ranking.proofs.codes_rise.Goals as goal

pub returns : goal.returns
returns c = codes
