use Rattle.ranking.specs.Ranking.{stands_before, highest}
use Rattle.ranking.proofs.worked_lists_hold.Goals as goal

pub returns : goal.returns
unfolding stands_before highest
returns c = assumption
