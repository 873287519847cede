-- Each kind of row needs what the code lists.
use Rattle.std.proofs.Common.{refl, ⊎_elim, arith}
use Rattle.books.specs.Guard.{book_of}
use Rattle.books.proofs.Needing.{needs_nothing}
use Rattle.books.proofs.guard.direct_needs.Goals as goal

pub bounds-definitions-from : goal.bounds-definitions-from
bounds-definitions-from c = let h = rw c.in-Variable.is at c.requires in omega (arith, h.0)

pub returns-in-Not : goal.returns-in-Not
returns-in-Not c = λ rows. rw c.in-Not.is refl

pub returns-in-Variable : goal.returns-in-Variable
returns-in-Variable c = λ rows. rw (c.in-Variable.is, c.from.ensures) refl

pub returns-in_default : goal.returns-in_default
returns-in_default c = λ rows. needs_nothing (book_of rows c.args.definitions.now) c.args.row c.in_default.not-And c.in_default.not-Or c.in_default.not-Not c.in_default.not-Variable

pub returns-in-And : goal.returns-in-And
returns-in-And c = λ rows. ⊎_elim (λ e. rw e refl) (λ e. rw e refl) c.in-And.is
