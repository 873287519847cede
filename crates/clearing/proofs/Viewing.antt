-- Clearing what a sealed view looks at.
use Rattle.std.proofs.Common.{◌≡◌, ℕ, List, Ok, Err, Result, subst, ap₂}
use Rattle.rules.specs.declared.row.Row.{Row}
use Rattle.rules.specs.Book.{Book, Limits, Sealed}
use Rattle.books.specs.declared.book.Book.{Book as View}
use Rattle.books.specs.Guard.{book_of}
use Rattle.books.proofs.Keeping.{view_sealed}
use Rattle.clearing.specs.declared.fault.ClearFault.{ClearFault}
use Rattle.clearing.specs.declared.fault.ClearFault.TheVariants.{TooManyRows, TooManyDefinitions}
use Rattle.clearing.specs.Outcomes.{Outcome, SealedOutcome, Seals}
use Rattle.clearing.specs.Views.{viewed, view_limits}
use Rattle.clearing.specs.Sealed.{ViewOutcome, MakesCleared}
use Rattle.clearing.proofs.Sealing.{clearable}

-- what a view looks at is sealed
pub viewed_sealed : (view : View) → Sealed (view_limits view) (viewed view)
viewed_sealed view = view_sealed (view_limits view) (viewed view) view.passed view.guarded

-- a sealed book is refused only where it does not fit
fits_or_not : (limits : Limits) (book before after : Book) (r : Result ℕ ClearFault) → Sealed limits book → Outcome book before after r → ViewOutcome book before after r
fits_or_not limits book before after (Ok n) sealed o = o
fits_or_not limits book before after (Err TooManyRows) sealed (no_fit, same) = (no_fit (clearable limits book sealed), same)
fits_or_not limits book before after (Err TooManyDefinitions) sealed (_, rows, no_fit, same) = (rows, no_fit, same)

makes : (limits : Limits) (book before after : Book) (r : Result ℕ ClearFault) → SealedOutcome limits book before after r → MakesCleared limits book after r
makes limits book before after (Ok n) o = o
makes limits book before after (Err e) o = tt

-- what clearing the parts of a view comes to is so of the view
module _ (view : View) (rows : List Row) (definitions : List ℕ) (before after : Book) (r : Result ℕ ClearFault)
    (of_rows : rows ≡ view.draft.rows.now) (of_definitions : definitions ≡ view.draft.definitions.now) where
  pub view_outcome : Outcome (book_of rows definitions) before after r → ViewOutcome (viewed view) before after r
  view_outcome o = fits_or_not (view_limits view) (viewed view) before after r (viewed_sealed view)
      (subst (λ book. Outcome book before after r) (ap₂ book_of of_rows of_definitions) o)

  pub view_makes : Seals (book_of rows definitions) before after r → (limits : Limits) → Sealed limits (viewed view) → MakesCleared limits (viewed view) after r
  view_makes seals limits sealed =
      makes limits (viewed view) before after r (subst (λ book. Seals book before after r) (ap₂ book_of of_rows of_definitions) seals limits sealed)
