-- What a view of a sealed book looks at.
use Rattle.std.specs.Prelude.{◌≡◌, ℕ, List, [], ◌∷◌}
use Rattle.rules.specs.declared.row.Row.{Row}
use Rattle.rules.specs.declared.row.Row.TheVariants.{False}
use Rattle.books.specs.declared.book.Book.{Book}

abbrev pub Views : Book → List Row → List ℕ → (numbers patterns : ℕ) → Type 0
Views b rows definitions numbers patterns =
    (b.draft.rows.now ≡ rows) × (b.draft.definitions.now ≡ definitions) × (b.numbers ≡ numbers) × (b.patterns ≡ patterns)

-- the book that accepts nothing: one definition, whose body is a row that is false
abbrev pub Nothing : Book → Type 0
Nothing b = Views b (False ∷ []) (0 ∷ []) 0 0
