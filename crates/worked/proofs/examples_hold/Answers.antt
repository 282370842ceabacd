use Rattle.std.proofs.Common.{refl}
use Rattle.reports.specs.Sums.{sums_of}
use Rattle.reports.specs.Nine.{one_of_nine}
use Rattle.worked.proofs.examples_hold.Goals as goal

pub returns : goal.returns
unfolding sums_of one_of_nine
returns c = record { example = refl; worked = refl; nine = refl; refused_nine = refl }
