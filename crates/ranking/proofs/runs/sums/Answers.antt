use Rattle.std.proofs.Common.{◌≡◌, sym, ap, ◌∙◌, arith, rules}
use Rattle.history.proofs.Words.{add_summary, no_summary, summary_at}
use Rattle.ranking.proofs.Sums.{summary_given, summaries_none, summaries_next}
use Rattle.ranking.proofs.runs.sums.Goals as goal

pub loop-day-init : goal.loop-day-init
loop-day-init c =
    let none : c.default-sums.result ≡ no_summary = search rules in
    none ∙ summaries_none (λ day. summary_at c.args.book.now.summaries day c.args.code) c.args.run.first

pub loop-day-preserved : goal.loop-day-preserved
loop-day-preserved c =
    let given = summary_given c.args.book.now c.loop-day.day c.args.code c.in_ok-summary.field-0 (sym c.summary.ensures ∙ c.in_ok-summary.was) in
    summaries_next (λ day. summary_at c.args.book.now.summaries day c.args.code) c.args.run.first c.loop-day.day _ _ (omega arith)
    c.loop-day.invariant (c.saturating_add-sums.ensures ∙ ap (add_summary c.loop-day.sums) given)
