use Rattle.history.proofs.Words.{category_count}
use Rattle.monitor.proofs.Words.{◌≡◌, ◌+◌, arith, rules, category_line, category_lines}
use Rattle.monitor.proofs.Joined.{numbers_room}
use Rattle.monitor.proofs.report_table.push_categories.Goals as goal

pub push_category-requires : goal.push_category-requires
unfolding category_lines
push_category-requires g c =
    let line = category_line c.args.run.first c.args.run.last c.args.book.now in
    (search rules, numbers_room line c.loop-category.category _ _ _ _ c.loop-category-test.true c.loop-category.invariant c.requires)

pub returns : goal.returns
unfolding category_lines
returns g c = let all : c.loop-category.category ≡ category_count + 1 = omega arith in rw all at c.loop-category.invariant
