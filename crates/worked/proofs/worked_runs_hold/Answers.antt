use Rattle.ranking.specs.Ranking.{stands_before, highest}
use Rattle.ranking.specs.Runs.{summaries_over, participants_of}
use Rattle.worked.proofs.worked_runs_hold.Goals as goal

pub returns : goal.returns
unfolding stands_before highest summaries_over participants_of
returns c = assumption
