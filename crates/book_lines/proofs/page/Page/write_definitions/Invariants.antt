-- The lines that stand there already.
use Rattle.std.proofs.Common.{length, take}
use Rattle.book_lines.specs.Lines.{definition_line, own_count, numbered}
use Rattle.book_lines.specs.Pages.{Adds}
use Rattle.book_lines.proofs.page.Page.write_definitions.Given as goal

abbrev pub invariant-loop-k : goal.invariant-loop-k
invariant-loop-k g l = Adds l.initial.self l.self (numbered (definition_line (own_count (length l.definitions))) 0 (take l.k l.definitions))
