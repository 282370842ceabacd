use Rattle.monitor.proofs.Words.{rules, sym}
use Rattle.monitor.proofs.Lengths.{table_of_short}
use Rattle.monitor.proofs.table.write_table.Goals as goal

pub push_table-requires : goal.push_table-requires
push_table-requires c = record {
  empty = search rules;
  short = table_of_short _ _ (rw (sym c.in-Ok.ensures.given) at c.replay.ensures.replays);
}
