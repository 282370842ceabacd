use Rattle.std.proofs.Common.{◌≡◌, ◌-◌, map}
use Rattle.std.specs.List.{fold, range_with_len}
use Rattle.book.specs.Figures.{post, post_summary}
use Rattle.book.specs.Postings.{late_fail, late_fails}
use Rattle.book.proofs.book.post_late.Given as goal

-- the fails that are left make of the figures what all made of them
abbrev pub invariant-loop-day : goal.invariant-loop-day
invariant-loop-day l =
    let left = map (late_fail l.pair) (range_with_len l.day (l.today - l.day)) in
    record {
      cells : fold post l.cells left ≡ fold post l.fn.cells (late_fails l.today l.pair);
      summaries : fold post_summary l.summaries left ≡ fold post_summary l.fn.summaries (late_fails l.today l.pair);
    }
