-- The book that accepts nothing is sealed.
use Rattle.std.proofs.Common.{refl}
use Rattle.books.proofs.Cycles.{false_guarded}
use Rattle.books.proofs.book.Book.accepting_nothing.Goals as goal

pub invariant_of-result : goal.invariant_of-result
invariant_of-result c = record { passed = refl; guarded = false_guarded }
