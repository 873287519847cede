-- What the theorems need of a sealed book.
use Rattle.std.proofs.Common.{ℕ, ◌<◌, length}
use Rattle.std.specs.List.{AllByRecursion}
use Rattle.rules.specs.Book.{Book, row_at, body_at, operands, variables, Guarded, Limits, Sealed}

-- the rules on rows and definitions that name each other
pub record WellFounded (book : Book) : Type 0 where
  pub lower : (r : ℕ) → r < length book.rows → AllByRecursion (λ o. o < r) (operands (row_at book r))
  pub defined : (r : ℕ) → r < length book.rows → AllByRecursion (λ v. v < length book.definitions) (variables (row_at book r))
  pub bodies : (v : ℕ) → v < length book.definitions → body_at book v < length book.rows
  pub guarded : Guarded book

pub founded : {limits : Limits} {book : Book} → Sealed limits book → WellFounded book
founded sealed = record { lower = sealed.lower; defined = sealed.defined; bodies = sealed.bodies; guarded = sealed.guarded }
