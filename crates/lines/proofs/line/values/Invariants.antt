use Rattle.std.proofs.Common.{◌≡◌, ◌-◌, length, take, drop}
use Rattle.lines.specs.Table.{column_count}
use Rattle.lines.specs.Parts.{values_read}
use Rattle.lines.proofs.Fields.{behind}
use Rattle.lines.proofs.line.values.Given as goal

abbrev pub invariant-loop-i : goal.invariant-loop-i
invariant-loop-i l = record {
  count : length l.values ≡ column_count - 1;
  same : values_read l.highest l.fn.text ≡ behind (take l.i l.values) (values_read (drop l.i l.highest) l.left);
}
