-- The items that are left decide.
use Rattle.std.proofs.Common.{ℕ}
use Rattle.books.specs.Tests.{Tested, Agrees}
use Rattle.books.proofs.Passing.{Decide}
use Rattle.books.proofs.parts.test_each.Given as goal

abbrev pub invariant-loop-i : goal.invariant-loop-i
invariant-loop-i g l = (test : ℕ → _ → Tested) → Agrees (goal.F-post g l.test) l.items test → Decide test l.items l.i
