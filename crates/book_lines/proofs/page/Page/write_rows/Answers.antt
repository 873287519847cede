-- One line more; the book's numbers are the same.
use Rattle.book_lines.specs.Lines.{row_line}
use Rattle.book_lines.proofs.Numbering.{line_more}
use Rattle.book_lines.proofs.page.Page.write_rows.Goals as goal

pub loop-r-preserved : goal.loop-r-preserved
loop-r-preserved g c =
    line_more (row_line g.K.Number.kind c.args.self.now.numbers.now) c.args.self.now c.loop-r.self c.write_row.new.self c.loop-r.r c.args.rows.now _
    c.loop-r-test.true c.loop-r.invariant ((rw c.loop-r.invariant.1 at c.in_ok-write_row.ensures).0, c.in_ok-write_row.ensures.1)
