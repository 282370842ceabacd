use Rattle.std.proofs.Common.{Ok, ap, arith}
use Rattle.ranking.proofs.Sums.{all_participants}
use Rattle.ranking.proofs.runs.participants.Goals as goal

pub returns : goal.returns
returns c =
    ap (λ all. Ok all)
    (all_participants _ _ c.args.measure c.args.book.now _ c.loop-place.invariant.0 (λ k d below. c.loop-place.invariant.1 k d (omega arith)))
