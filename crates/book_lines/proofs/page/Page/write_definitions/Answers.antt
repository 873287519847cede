-- One line more.
use Rattle.std.proofs.Common.{◌≡◌, length, arith}
use Rattle.book_lines.specs.Lines.{definition_line, own_count}
use Rattle.book_lines.proofs.Numbering.{line_more}
use Rattle.book_lines.proofs.page.Page.write_definitions.Goals as goal

pub loop-k-preserved : goal.loop-k-preserved
loop-k-preserved g c =
    let half : c.div_ceil-own.result ≡ own_count (length c.args.definitions.now) = omega arith in
    line_more (definition_line (own_count (length c.args.definitions.now))) c.args.self.now c.loop-k.self c.write_definition.new.self c.loop-k.k c.args.definitions.now 0
    c.loop-k-test.true c.loop-k.invariant (rw half at c.in_ok-write_definition.ensures)
