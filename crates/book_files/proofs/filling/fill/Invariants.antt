-- Some fields are filled in, and the file goes on behind them.
use Rattle.std.proofs.Common.{length}
use Rattle.book_fields.specs.Fields.{tag_number}
use Rattle.book_files.specs.Drafts.{memory}
use Rattle.book_files.proofs.Growing.{lists, Begun}
use Rattle.book_files.proofs.filling.fill.Given as goal

abbrev pub invariant-loop-rest : goal.invariant-loop-rest
invariant-loop-rest g l =
    Begun g.K.Number.kind l.patterns l.bytes (memory l.fn.numbers l.fn.rows l.fn.definitions) (lists l.initial.numbers l.initial.rows l.initial.definitions)
    (lists l.numbers l.rows l.definitions) (tag_number l.last) l.rest

abbrev pub decreases-loop-rest : goal.decreases-loop-rest
decreases-loop-rest g l = length l.rest
