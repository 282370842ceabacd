use Rattle.monitor.proofs.Words.{rules, report_names, category_lines}
use Rattle.monitor.proofs.Lengths.{has_room, reports_short}
use Rattle.monitor.proofs.report_table.push_reports.Goals as goal

pub push_categories-requires : goal.push_categories-requires
push_categories-requires c =
    let run = c.in-Some.ensures in
    let short = reports_short c.args.days c.args.book.now in
    (search rules, has_room report_names category_lines c.args.days c.args.book.now _ _ _ _ run.given run.days run.text short)
