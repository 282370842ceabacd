use Rattle.lines.proofs.Readings.{line_at}
use Rattle.lines.proofs.reader.read_line.Goals as goal

pub returns-then-at-text : goal.returns-then-at-text
returns-then-at-text c =
    rw (c.place_of.ensures, c.first_line-line.ensures.line, c.first_line-line.ensures.left, c.split_at.ensures.back)
    (line_at c.args.text.now c.args.at c.if-at-text.true)
