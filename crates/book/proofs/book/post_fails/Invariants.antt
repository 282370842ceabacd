use Rattle.std.proofs.Common.{◌≡◌, drop}
use Rattle.std.specs.List.{fold}
use Rattle.book.specs.Figures.{post, post_summary}
use Rattle.book.specs.Postings.{fails_of}
use Rattle.book.proofs.book.post_fails.Given as goal

-- the fails that are left make of the figures what all made of them
abbrev pub invariant-loop-pair : goal.invariant-loop-pair
invariant-loop-pair l =
    record {
      cells : fold post l.cells (fails_of l.today (drop l.pair-index l.pairs)) ≡ fold post l.fn.cells (fails_of l.today l.pairs);
      summaries : fold post_summary l.summaries (fails_of l.today (drop l.pair-index l.pairs)) ≡ fold post_summary l.fn.summaries
          (fails_of l.today l.pairs);
    }
