use Rattle.std.proofs.Common.{◌≡◌, ◌++◌, length}
use Rattle.texts.specs.Lines.{line_text}
use Rattle.texts.proofs.page.push_line.Given as goal

abbrev pub invariant-loop-field : goal.invariant-loop-field
invariant-loop-field g l = l.page.items ++ line_text l.left ≡ l.fn.page.items ++ line_text l.fn.fields

abbrev pub decreases-loop-field : goal.decreases-loop-field
decreases-loop-field g l = length l.left
