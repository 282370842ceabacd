use Rattle.ranking.proofs.Lists.{who, once, order, at_most, only}
use Rattle.ranking.proofs.lists_mean.Goals as goal

pub returns : goal.returns
returns c = record { who = who; once = once; order = order; most = at_most; only = only }
