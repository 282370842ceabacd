use Rattle.monitor.proofs.Words.{rules, list_names, both_lists}
use Rattle.monitor.proofs.Lengths.{has_room, lists_short}
use Rattle.monitor.proofs.list_table.push_lists.Goals as goal

pub push_both-requires : goal.push_both-requires
push_both-requires c =
    let run = c.in-Some.ensures in
    let short = lists_short c.args.days c.args.book.now in
    (search rules, has_room list_names both_lists c.args.days c.args.book.now _ _ _ _ run.given run.days run.text short)
