use Rattle.monitor.proofs.Words.{rules, arith, row_fields}
use Rattle.texts.proofs.Lengths.{any_line}
use Rattle.monitor.proofs.row_text.row_fields.Goals as goal

pub returns-clause-short : goal.returns-clause-short
unfolding row_fields
returns-clause-short c = any_line (row_fields c.args.day c.args.row) (omega arith) (search rules)
