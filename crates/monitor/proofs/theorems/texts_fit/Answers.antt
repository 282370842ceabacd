use Rattle.monitor.proofs.Lengths.{tables_fit, reports_fit, lists_fit, answers_fit}
use Rattle.monitor.proofs.theorems.texts_fit.Goals as goal

pub returns : goal.returns
returns c = record { tables = tables_fit; reports = reports_fit; lists = lists_fit; answers = answers_fit }
