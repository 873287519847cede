-- The lines that stand there already.
use Rattle.std.proofs.Common.{take}
use Rattle.book_lines.specs.Lines.{row_line, numbered}
use Rattle.book_lines.specs.Pages.{Adds}
use Rattle.book_lines.proofs.page.Page.write_rows.Given as goal

abbrev pub invariant-loop-r : goal.invariant-loop-r
invariant-loop-r g l = Adds l.initial.self l.self (numbered (row_line g.K.Number.kind l.initial.self.numbers.now) 0 (take l.r l.rows))
