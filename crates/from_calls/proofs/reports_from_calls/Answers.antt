use Rattle.from_calls.proofs.Reports.{plain}
use Rattle.from_calls.proofs.reports_from_calls.Goals as goal

pub returns-clause-plain : goal.returns-clause-plain
returns-clause-plain c = plain
