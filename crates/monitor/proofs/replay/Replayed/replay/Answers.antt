use Rattle.monitor.proofs.Words.{arith, rules, ap}
use Rattle.monitor.proofs.Replays.{counts_start, counted_more, replays, balances_for}
use Rattle.monitor.proofs.replay.Replayed.replay.Goals as goal

pub loop-line-init : goal.loop-line-init
loop-line-init c = counts_start _ _ _ _ c.in_ok-lines.ensures.sound (search rules) (search rules) c.requires.fresh

pub loop-line-preserved-then-is_accepted : goal.loop-line-preserved-then-is_accepted
loop-line-preserved-then-is_accepted c = counted_more _ _ _ _ _ _ _ _ c.loop-line.invariant c.in-Some.ensures.steps
    c.make.ensures.answer c.make.ensures.book c.if-is_accepted.ensures (omega arith) (omega arith)

pub loop-line-preserved : goal.loop-line-preserved
loop-line-preserved c = counted_more _ _ _ _ _ _ _ _ c.loop-line.invariant c.in-Some.ensures.steps
    c.make.ensures.answer c.make.ensures.book c.if-is_accepted.ensures (omega arith) (omega arith)

pub returns-clause-replays : goal.returns-clause-replays
returns-clause-replays c = replays _ _ _ c.loop-line.invariant c.in-None.ensures.steps.0

pub returns-clause-balances : goal.returns-clause-balances
returns-clause-balances c =
    let made = replays _ _ _ c.loop-line.invariant c.in-None.ensures.steps.0 in
    balances_for _ _ made.0 made.1 (ap (λ r. r.book) made.2)
