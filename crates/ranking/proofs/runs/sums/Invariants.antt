use Rattle.history.proofs.Words.{◌≡◌, ◌-◌, map, range_with_len, summary_at}
use Rattle.ranking.specs.Runs.{summaries_over}
use Rattle.ranking.proofs.runs.sums.Given as goal

abbrev pub invariant-loop-day : goal.invariant-loop-day
invariant-loop-day l =
    l.sums ≡ summaries_over (map (λ day. summary_at l.book.summaries day l.code) (range_with_len l.fn.run.first (l.day - l.fn.run.first)))
