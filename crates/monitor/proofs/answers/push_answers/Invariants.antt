use Rattle.monitor.proofs.Answered.{Writes}
use Rattle.monitor.proofs.answers.push_answers.Given as goal

abbrev pub invariant-loop-number : goal.invariant-loop-number
invariant-loop-number l = Writes l.fn.lines.text.now l.number-iterator.b l.book l.number-iterator.a.start l.page.items
