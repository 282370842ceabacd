use Rattle.std.proofs.Common.{◌≡◌, sym, ap, ◌∙◌, arith, rules}
use Rattle.reports.specs.Sums.{no_row, add_row}
use Rattle.counted.specs.Counted.{row_at}
use Rattle.reports.proofs.Meaning.{row_given}
use Rattle.reports.proofs.Steps.{rows_none, rows_next}
use Rattle.reports.proofs.sums.sums.Goals as goal

pub loop-day-init : goal.loop-day-init
loop-day-init c =
    let none : c.default-sums.result ≡ no_row = search rules in
    none ∙ rows_none (λ day. row_at c.args.book.now day c.args.category) c.args.run.first

pub loop-day-preserved : goal.loop-day-preserved
loop-day-preserved c =
    let row = row_given c.args.book.now c.loop-day.day c.args.category c.in_ok-row.field-0 (sym c.row.ensures ∙ c.in_ok-row.was) in
    rows_next (λ day. row_at c.args.book.now day c.args.category) c.args.run.first c.loop-day.day _ _ (omega arith) c.loop-day.invariant
    (c.add-sums.ensures ∙ ap (add_row c.loop-day.sums) row)
