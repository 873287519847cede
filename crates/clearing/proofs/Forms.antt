-- Books in the form that clearing gives.
use Rattle.std.proofs.Common.{◌≡◌, ◌≢◌, ℕ, zero, suc, ◌<◌, ◌≤◌, Bool, true, false, List, [], ◌∷◌, length, get_or, Ok, sym, refl, ap, ◌∙◌, subst, ap₂, arith}
use Rattle.std.specs.Bool.{MatchBool}
use Rattle.std.specs.List.{AllByRecursion, AllWithin, HoldsAt}
use Rattle.rules.specs.declared.row.Row.{Row}
use Rattle.rules.specs.declared.row.Row.TheVariants.{True, False, Not}
use Rattle.rules.specs.Book.{Book, row_at, body_at, Limits, limits_of, Allowed, operands, variables, needs, Needs, direct, through, Guarded, Sealed, WithoutNot, Cleared}
use Rattle.rules.specs.Value.{◌∈◌}
use Rattle.rules.specs.Meaning.{says}
use Rattle.rules.specs.Clear.{clear}
use Rattle.books.specs.declared.book.Book.{Book as View}
use Rattle.books.specs.Guard.{book_of}
use Rattle.books.specs.Views.{Views}
use Rattle.clearing.specs.declared.cleared.Cleared.{Cleared as Made}
use Rattle.clearing.specs.Views.{viewed, view_limits, ClearForm, Told}
use Rattle.clearing.specs.Cleared.{AcceptsNothing, ViewsClear}
use Rattle.clearing.proofs.Sealing.{seals}
use Rattle.clearing.proofs.Viewing.{viewed_sealed}

-- whether a row is no `not`, asked of all rows
abbrev pub NoNot : Row → Type 0
NoNot row = (o : ℕ) → row ≢ Not o

abbrev pub SomeNot : Row → Type 0
SomeNot row = (o : ℕ) × (row ≡ Not o)

pub told_of_all : (rows : List Row) (b : Bool) → MatchBool b (AllWithin NoNot rows 0 (length rows)) ((k : ℕ) × (k < length rows) × HoldsAt SomeNot rows k) →
    Told b (WithoutNot (book_of rows []))
told_of_all rows true all = λ r h. all r False (omega arith) h
told_of_all rows false (k, h, some) = λ none. none k h (some False).0 (some False).1

-- a sealed book in this form is a cleared one
pub view_cleared : (view : View) → ClearForm (viewed view) → Cleared (view_limits view) (viewed view)
view_cleared view form = record { sealed = viewed_sealed view; without_not = form.0; even = form.1 }

-- what a view of a cleared book looks at is one
pub made_cleared : (c : Made) → Cleared (view_limits c.book) (viewed c.book)
made_cleared c = view_cleared c.book (c.without, c.even)

-- a test of the form is one of clearedness
pub told_cleared : (view : View) (b : Bool) → Told b (ClearForm (viewed view)) → Told b (Cleared (view_limits view) (viewed view))
told_cleared view true form = view_cleared view form
told_cleared view false other = λ cleared. other (cleared.without_not, cleared.even)

-- the cleared book that accepts nothing
abbrev pub nothing : Book
nothing = book_of (False ∷ True ∷ []) (0 ∷ 1 ∷ [])

nothing_allowed : (limits : Limits) (r : ℕ) → r < 2 → Allowed limits (row_at nothing r)
nothing_allowed limits zero h = tt
nothing_allowed limits (suc zero) h = tt
nothing_allowed limits (suc (suc r)) h = absurd (omega arith)

nothing_lower : (r : ℕ) → r < 2 → AllByRecursion (λ o. o < r) (operands (row_at nothing r))
nothing_lower zero h = tt
nothing_lower (suc zero) h = tt
nothing_lower (suc (suc r)) h = absurd (omega arith)

nothing_defined : (r : ℕ) → r < 2 → AllByRecursion (λ v. v < 2) (variables (row_at nothing r))
nothing_defined zero h = tt
nothing_defined (suc zero) h = tt
nothing_defined (suc (suc r)) h = absurd (omega arith)

nothing_bodies : (v : ℕ) → v < 2 → body_at nothing v < 2
nothing_bodies zero h = omega arith
nothing_bodies (suc zero) h = omega arith
nothing_bodies (suc (suc v)) h = absurd (omega arith)

first_need : (book : Book) (r o : ℕ) → Needs book r o → (m : ℕ) × (m ∈ needs book (row_at book r))
first_need book r o (direct mem) = (o, mem)
first_need book r o (through {m = m} mem n) = (m, mem)

nothing_guarded : Guarded nothing
nothing_guarded zero h n = let s = first_need nothing 0 0 n in elim s.1 [ ]
nothing_guarded (suc zero) h n = let s = first_need nothing 1 1 n in elim s.1 [ ]
nothing_guarded (suc (suc r)) h n = absurd (omega arith)

pub nothing_sealed : (limits : Limits) → limits.numbers ≤ 1024 → Sealed limits nothing
nothing_sealed limits few = record {
  few_rows = omega arith;
  few_numbers = few;
  some_definition = omega arith;
  few_definitions = omega arith;
  allowed = nothing_allowed limits;
  lower = nothing_lower;
  defined = nothing_defined;
  bodies = nothing_bodies;
  guarded = nothing_guarded;
}

nothing_positive : (r : ℕ) → r < 2 → (o : ℕ) → row_at nothing r ≡ Not o → ⊥
nothing_positive zero h o e = let z : ◌≡◌ {A = ℕ} 0 1 = cc in omega arith
nothing_positive (suc zero) h o e = let z : ◌≡◌ {A = ℕ} 0 1 = cc in omega arith
nothing_positive (suc (suc r)) h o e = omega arith

pub nothing_form : (view : View) → Views view (False ∷ True ∷ []) (0 ∷ 1 ∷ []) 0 0 → ClearForm (viewed view)
nothing_form view (rows, definitions, _, _) = rw (rows, definitions) (nothing_positive, refl)

-- its first definition accepts nothing, the second everything
pub accepts_nothing : (K : Type 0) → AcceptsNothing K
accepts_nothing K world c V (rows, definitions, _, _) law n h = rw definitions (
  law 0 n (rw rows (omega arith)) h ∙ ap (λ row. says world (viewed c.book) V row n) (ap (λ xs. get_or xs 0 False) rows),
  law 1 n (rw rows (omega arith)) h ∙ ap (λ row. says world (viewed c.book) V row n) (ap (λ xs. get_or xs 1 False) rows),
)

-- the view of a book that was cleared into memory
pub views_clear : (K : Type 0) → ViewsClear K
views_clear K kind patterns numbers book before after n view c sealed outcome same kept =
    let limits = limits_of kind patterns numbers in
    let is = seals book before after (Ok n) outcome limits sealed in
    let cleared = is.cleared in
    let viewing = subst (λ b. Views view b.rows b.definitions (length numbers) patterns) is.is_clear (same (subst (Sealed limits) (sym is.is_clear) cleared.sealed)) in
    let the_same = kept (subst ClearForm (sym (ap₂ book_of viewing.0 viewing.1)) (cleared.without_not, cleared.even)) in
    subst (λ b. Views b (clear book).rows (clear book).definitions (length numbers) patterns) (sym the_same) viewing
