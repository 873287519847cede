-- The rows that are left decide.
use Rattle.std.proofs.Common.{◌+◌, ◌*◌}
use Rattle.books.specs.Tests.{variable_test}
use Rattle.books.proofs.Passing.{Decide}
use Rattle.book_files.proofs.ending.test_variables_from.Given as goal

abbrev pub invariant-loop-r : goal.invariant-loop-r
invariant-loop-r l = Decide (λ i row. variable_test l.definitions (l.place + 13 * i) row) l.rows l.r
