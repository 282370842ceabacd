use Rattle.monitor.proofs.Words.{◌≡◌, ◌++◌, range_with_len, flat_map, category_line}
use Rattle.monitor.proofs.report_table.push_categories.Given as goal

abbrev pub invariant-loop-category : goal.invariant-loop-category
invariant-loop-category g l =
    l.page.items ≡ l.fn.page.items ++ flat_map (category_line l.fn.run.first l.fn.run.last l.book) (range_with_len 0 l.category)
