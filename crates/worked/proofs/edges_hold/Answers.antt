use Rattle.worked.proofs.Edges.{all_edges}
use Rattle.worked.proofs.edges_hold.Goals as goal

pub returns : goal.returns
returns c = all_edges
