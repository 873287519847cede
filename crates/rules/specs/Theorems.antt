-- The theorems, as statements. K is the type that a number kind holds its values in.
use Rattle.std.specs.Prelude.{◌≡◌, ℕ, ◌+◌, ◌*◌, ◌<◌, ◌≤◌, not, length, slice_index_or, slice_set}
use Rattle.rules.specs.declared.row.Row.TheVariants.{False}
use Rattle.numbers.specs.Kinds.{Turns}
use Rattle.rules.specs.Value.{Shape, PartsAfter, HoldsNode}
use Rattle.rules.specs.Book.{Book, row_at, body_at, Guarded, Limits, Sealed, WithoutNot, Cleared}
use Rattle.rules.specs.Meaning.{World, Verdicts, says, Lawful}
use Rattle.rules.specs.Clear.{fixed, adds, clear, place_of, positive_row, complement_row}

-- two lawful tables of a sealed book agree
abbrev pub OneTable : Type 0 → Type 0
OneTable K = (world : World K) (limits : Limits) (book : Book) (V W : Verdicts) →
    PartsAfter world.doc → Sealed limits book → Lawful world book V → Lawful world book W →
    (r n : ℕ) → r < length book.rows → n < length world.doc → V r n ≡ W r n

-- and there is one
abbrev pub SomeTable : Type 0 → Type 0
SomeTable K = (world : World K) (limits : Limits) (book : Book) →
    PartsAfter world.doc → Sealed limits book → (V : Verdicts) × Lawful world book V

-- the world with another value at node x
abbrev pub put : {K : Type 0} → World K → ℕ → Shape K → World K
put world x s = record { kind = world.kind; matches = world.matches; numbers = world.numbers; doc = slice_set world.doc x s }

-- another value at node x leaves the verdicts at every node but x and those above it
abbrev pub StaysElsewhere : Type 0 → Type 0
StaysElsewhere K = (world : World K) (limits : Limits) (book : Book) (V W : Verdicts) (x : ℕ) (leaf : Shape K) →
    PartsAfter world.doc → Sealed limits book → Lawful world book V → Lawful (put world x leaf) book W →
    (r n : ℕ) → r < length book.rows → n < length world.doc → (HoldsNode world.doc n x → ⊥) → V r n ≡ W r n

-- after another value came to node x, a table is lawful that was renewed at x and above, and elsewhere is as it was
abbrev pub Renews : Type 0 → Type 0
Renews K = (world : World K) (limits : Limits) (book : Book) (V W : Verdicts) (x : ℕ) (leaf : Shape K) →
    PartsAfter world.doc → Sealed limits book → Lawful world book V →
    ((r n : ℕ) → r < length book.rows → n < length world.doc → (HoldsNode world.doc n x → ⊥) → W r n ≡ V r n) →
    ((r n : ℕ) → r < length book.rows → n < length world.doc → HoldsNode world.doc n x → W r n ≡ says (put world x leaf) book W (row_at book r) n) →
    Lawful (put world x leaf) book W

-- a lawful table of the cleared book is, at the positive rows, one of the book, and at the complements its opposite
pub record Complements {K : Type 0} (world : World K) (book : Book) (V : Verdicts) : Type 0 where
  pub kept : Lawful world book (λ r n. V (positive_row book r) n)
  pub turned_round : (r n : ℕ) → r < length book.rows → n < length world.doc → V (complement_row book r) n ≡ not (V (positive_row book r) n)

abbrev pub Complement : Type 0 → Type 0
Complement K = (world : World K) (limits : Limits) (book : Book) (V : Verdicts) →
    Turns world.kind → PartsAfter world.doc → Sealed limits book → Lawful world (clear book) V → Complements world book V

-- What the cleared book's table says of its definitions k and d + k is what the book says of definition k, and the opposite.
abbrev pub Judges : Type 0 → Type 0
Judges K = (world : World K) (limits : Limits) (book : Book) (V W : Verdicts) →
    Turns world.kind → PartsAfter world.doc → Sealed limits book → Lawful world (clear book) V → Lawful world book W →
    (k n : ℕ) → k < length book.definitions → n < length world.doc →
    (V (body_at (clear book) k) n ≡ W (body_at book k) n) × (V (body_at (clear book) (length book.definitions + k)) n ≡ not (W (body_at book k) n))

-- What clearing makes of a sealed book; where it fits, that is a cleared one, under the same limits.
pub record ClearsWell (limits : Limits) (book : Book) : Type 0 where
  pub without_not : WithoutNot (clear book)
  pub guarded : Guarded (clear book)
  pub short : length (clear book).rows ≤ 8 + 5 * length book.rows
  pub doubled : length (clear book).definitions ≡ 2 * length book.definitions
  pub cleared : length (clear book).rows ≤ 2048 → length book.definitions ≤ 64 → Cleared limits (clear book)

abbrev pub Clears : Type 0
Clears = (limits : Limits) (book : Book) → Sealed limits book → ClearsWell limits book

-- The cleared book, row by row: eight fixed rows, then for each row in turn what it adds, by the places where its operands stand in the
-- whole; a row stands where its own rows say. The definitions go to where their bodies stand.
pub record LaidOut (book : Book) (start : ℕ → ℕ) : Type 0 where
  pub begins : (k : ℕ) → k < 8 → row_at (clear book) k ≡ slice_index_or fixed k False
  pub first : start 0 ≡ 8
  pub each : (r : ℕ) → r < length book.rows →
      let own = adds (place_of book) (length book.definitions) (start r) (row_at book r) in
      (place_of book r ≡ own.stands) × (start (r + 1) ≡ start r + length own.rows)
      × ((j : ℕ) → j < length own.rows → row_at (clear book) (start r + j) ≡ slice_index_or own.rows j False)
  pub ends : start (length book.rows) ≡ length (clear book).rows
  pub bodies : (k : ℕ) → k < length book.definitions →
      (body_at (clear book) k ≡ positive_row book (body_at book k)) × (body_at (clear book) (length book.definitions + k) ≡ complement_row book (body_at book k))

abbrev pub LaysOut : Type 0
LaysOut = (limits : Limits) (book : Book) → Sealed limits book → (start : ℕ → ℕ) × LaidOut book start
