-- What rows directly need.
use Rattle.std.proofs.Common.{◌≡◌, ℕ, ◌<◌, List, [], length, get_or, refl, ap, ◌∙◌, subst, arith}
use Rattle.std.specs.List.{AllByRecursion}
use Rattle.std.proofs.lemmas.List.{get_or_default}
use Rattle.rules.specs.Book.{Book, row_at, body_at, Reach, nothing, inner, both, negated, body, reach, named, called, needed, variables, needs}
use Rattle.rules.specs.declared.row.Row.{Row}
use Rattle.rules.specs.declared.row.Row.TheVariants.{True, False, OfType, BooleanIs, Pattern, NotPattern, Length, Between, StrictlyBetween, Multiple, NotMultiple, EveryMember, SomeMember, Members, EveryElement, SomeElement, Count, And, Or, Not, Variable}
use Rattle.books.specs.Guard.{Joined}

-- a row of no other kind needs nothing
pub needs_nothing : (book : Book) (row : Row) → ((a b : ℕ) → row ≡ And a b → ⊥) → ((a b : ℕ) → row ≡ Or a b → ⊥) → ((o : ℕ) → row ≡ Not o → ⊥) →
    ((v : ℕ) → row ≡ Variable v → ⊥) → [] ≡ needs book row
needs_nothing book True a o n v = refl
needs_nothing book False a o n v = refl
needs_nothing book (OfType t) a o n v = refl
needs_nothing book (BooleanIs b) a o n v = refl
needs_nothing book (Pattern p) a o n v = refl
needs_nothing book (NotPattern p) a o n v = refl
needs_nothing book (Length range) a o n v = refl
needs_nothing book (Between bounds) a o n v = refl
needs_nothing book (StrictlyBetween bounds) a o n v = refl
needs_nothing book (Multiple q) a o n v = refl
needs_nothing book (NotMultiple q) a o n v = refl
needs_nothing book (EveryMember p i) a o n v = refl
needs_nothing book (SomeMember p i) a o n v = refl
needs_nothing book (Members range) a o n v = refl
needs_nothing book (EveryElement i) a o n v = refl
needs_nothing book (SomeElement i) a o n v = refl
needs_nothing book (Count i range) a o n v = refl
needs_nothing book (And x y) a o n v = absurd (a x y refl)
needs_nothing book (Or x y) a o n v = absurd (o x y refl)
needs_nothing book (Not x) a o n v = absurd (n x refl)
needs_nothing book (Variable x) a o n v = absurd (v x refl)

needed_inside : (book : Book) (to : Reach) (r : ℕ) → r < length book.rows → AllByRecursion (λ o. o < r) (named to) → AllByRecursion (λ v. v < length book.definitions) (called to) →
    ((v : ℕ) → v < length book.definitions → body_at book v < length book.rows) → AllByRecursion (λ o. o < length book.rows) (needed book to)
needed_inside book nothing r h lower defined bodies = tt
needed_inside book (inner o) r h lower defined bodies = tt
needed_inside book (both a b) r h lower defined bodies = (omega (arith, lower.0), (omega (arith, lower.1.0), tt))
needed_inside book (negated o) r h lower defined bodies = (omega (arith, lower.0), tt)
needed_inside book (body v) r h lower defined bodies = (bodies v defined.0, tt)

-- what a row needs is there
pub needs_inside : (book : Book) → Joined book → (r : ℕ) → r < length book.rows → AllByRecursion (λ o. o < length book.rows) (needs book (row_at book r))
needs_inside book joined r h = needed_inside book (reach (row_at book r)) r h (joined.lower r h) (joined.defined r h) joined.bodies

-- a row as the code reads it
pub defined_at : (book : Book) → Joined book → (i : ℕ) (d : Row) → i < length book.rows → AllByRecursion (λ v. v < length book.definitions) (variables (get_or book.rows i d))
defined_at book joined i d h = subst (λ row. AllByRecursion (λ v. v < length book.definitions) (variables row)) (get_or_default book.rows i False d h) (joined.defined i h)

pub needs_at : (book : Book) (i j : ℕ) (d : Row) (os : List ℕ) → i ≡ j → i < length book.rows → os ≡ needs book (get_or book.rows i d) → os ≡ needs book (row_at book j)
needs_at book i j d os e h is = is ∙ ap (needs book) (get_or_default book.rows i d False h ∙ ap (row_at book) e)
