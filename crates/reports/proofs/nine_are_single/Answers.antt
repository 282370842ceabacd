use Rattle.reports.proofs.Meaning.{single, carry_one, refused_empty}
use Rattle.reports.proofs.nine_are_single.Goals as goal

pub returns : goal.returns
returns c = record { single = single; one = carry_one; empty = refused_empty }
