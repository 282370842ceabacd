use Rattle.reports.proofs.Meaning.{days_of_run, of_rows}
use Rattle.reports.proofs.reports_are_of_rows.Goals as goal

pub returns-clause-days : goal.returns-clause-days
returns-clause-days c = days_of_run

pub returns-clause-sums : goal.returns-clause-sums
returns-clause-sums c = of_rows
