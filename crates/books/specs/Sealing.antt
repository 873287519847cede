-- What testing a whole book comes to.
use Rattle.std.specs.Prelude.{◌≡◌, ℕ, true, not, ◌⊎◌, length, Ok, Err, ◌==◌, nat_le}
use Rattle.std.specs.Result.{result_and}
use Rattle.rules.specs.Book.{Book, Limits, Guarded, Sealed}
use Rattle.books.specs.declared.fault.BookFault.TheVariants.{NoDefinition, TooMany, Unguarded}
use Rattle.books.specs.Guard.{Lowest}
use Rattle.books.specs.Tests.{Tested, passes, ask, counted_row, definition_test, variable_test, first_refused}

-- In this order: the numbers are few enough, then row by row, then definition by definition, there is a definition,
-- and the variables' definitions are there, row by row.
abbrev pub plain_test : Limits → Book → Tested
plain_test limits book =
    result_and (ask (nat_le limits.numbers 1024) (TooMany 1024))
    (result_and (first_refused (counted_row limits) 0 book.rows)
    (result_and (first_refused (definition_test (length book.rows)) 0 book.definitions)
    (result_and (ask (not (length book.definitions == 0)) (NoDefinition 0))
    (first_refused (variable_test (length book.definitions)) 0 book.rows))))

-- what a view of a sealed book remembers of its limits: the counts
abbrev pub counts : (patterns numbers : ℕ) → Limits
counts patterns numbers = record { patterns = patterns; numbers = numbers; above_zero = λ _. true }

-- A book passes; or it is refused by the first of these tests that fails; or, if none does, at the lowest row that needs itself.
abbrev pub ComesTo : Limits → Book → Tested → Type 0
ComesTo limits book (Ok u) = (plain_test limits book ≡ passes) × Guarded book
ComesTo limits book (Err e) =
    (plain_test limits book ≡ Err e) ⊎ ((plain_test limits book ≡ passes) × ((r : ℕ) × (e ≡ Unguarded r) × Lowest book r))

-- nothing else comes of testing it
abbrev pub Only : Limits → Book → Tested → Type 0
Only limits book r = (other : Tested) → ComesTo limits book other → other ≡ r

-- the books that pass are those that keep all the rules of a sealed one
abbrev pub Seals : Limits → Book → Tested → Type 0
Seals limits book (Ok u) = Sealed limits book
Seals limits book (Err e) = Sealed limits book → ⊥
