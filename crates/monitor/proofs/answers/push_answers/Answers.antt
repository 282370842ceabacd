use Rattle.monitor.proofs.Words.{⊎_elim, sym, arith, rules}
use Rattle.monitor.proofs.Answered.{none_written, has_room, written_more, all_written}
use Rattle.monitor.proofs.answers.push_answers.Goals as goal

pub loop-number-init : goal.loop-number-init
loop-number-init c = none_written _ _ _ _ _ c.requires.short (search rules) (search rules) (search rules) (search rules) (search rules)

pub push_answer-requires : goal.push_answer-requires
push_answer-requires c =
    let steps = c.in-Some.ensures.steps in
    (search rules, has_room _ _ _ _ _ _ _ _ (rw (sym steps.0.0) at c.loop-number.invariant) steps.1 c.make.ensures.answer)

pub loop-number-preserved : goal.loop-number-preserved
loop-number-preserved c =
    let steps = c.in-Some.ensures.steps in
    let writes = rw (sym steps.0.0) at c.loop-number.invariant in
    rw steps.0.1 (written_more _ _ _ _ _ _ _ _ writes steps.1 c.make.ensures.answer _ _ c.make.ensures.book c.push_answer.ensures)

pub returns : goal.returns
returns c =
    let writes = c.loop-number.invariant in
    ⊎_elim
    (λ over. absurd (omega (arith, over.1, writes.few, writes.reads.within, writes.reads.short)))
    (λ past. all_written _ _ _ _ _ writes past.1.0)
    c.in-None.ensures.steps
