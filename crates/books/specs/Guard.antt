-- The lowest row that needs itself, and what the search for it rests on.
use Rattle.std.specs.Prelude.{◌≡◌, ℕ, ◌<◌, ◌≤◌, min, Bool, true, false, ◌⊎◌, List, [], ◌∷◌, ◌++◌, length, Some, None, Option, ◌==◌, slice_index_or}
use Rattle.std.specs.List.{AllByRecursion}
use Rattle.rules.specs.Book.{Book, Reach, nothing, inner, both, negated, body, reach, row_at, body_at, operands, variables, Needs, Guarded}
use Rattle.rules.specs.declared.row.Row.{Row}
use Rattle.rules.specs.declared.row.Row.TheVariants.{False}

abbrev pub book_of : List Row → List ℕ → Book
book_of rows definitions = record { rows = rows; definitions = definitions }

-- Rows and definitions name what is there, and a row only rows below it: all of a sealed book but the fields and the guard.
pub record Joined (book : Book) : Type 0 where
  pub few : length book.rows ≤ 2048
  pub lower : (r : ℕ) → r < length book.rows → AllByRecursion (λ o. o < r) (operands (row_at book r))
  pub defined : (r : ℕ) → r < length book.rows → AllByRecursion (λ v. v < length book.definitions) (variables (row_at book r))
  pub bodies : (v : ℕ) → v < length book.definitions → body_at book v < length book.rows

-- row r needs itself, and no row below it does
pub record Lowest (book : Book) (r : ℕ) : Type 0 where
  pub there : r < length book.rows
  pub itself : Needs book r r
  pub before : (s : ℕ) → s < r → Needs book s s → ⊥

-- the lowest of n numbers that P holds of, if it holds of one
abbrev pub LowestOf : ℕ → (ℕ → Type 0) → Option ℕ → Type 0
LowestOf n P None = (s : ℕ) → s < n → P s → ⊥
LowestOf n P (Some r) = (r < n) × P r × ((s : ℕ) → s < r → P s → ⊥)

-- the lower of two numbers that may be there
abbrev pub lower_of : Option ℕ → Option ℕ → Option ℕ
lower_of None b = b
lower_of (Some x) None = Some x
lower_of (Some x) (Some y) = Some (min x y)

-- the lowest row that needs itself, if one does
abbrev pub Finds : Book → Option ℕ → Type 0
Finds book None = Guarded book
Finds book (Some r) = Lowest book r

-- the rows that are needed, in a list
abbrev pub if_there : Option ℕ → List ℕ
if_there None = []
if_there (Some o) = o ∷ []

abbrev pub listed : List (Option ℕ) → List ℕ
listed two = if_there (slice_index_or two 0 None) ++ if_there (slice_index_or two 1 None)

-- row o is r, or r needs it
abbrev pub Reaches : Book → ℕ → ℕ → Type 0
Reaches book r o = (o ≡ r) ⊎ Needs book r o

-- marked are the rows that r reaches, and no others
abbrev pub Marked : Book → ℕ → List Bool → Type 0
Marked book r marks = (o : ℕ) → (slice_index_or marks o false ≡ true → Reaches book r o) × (Reaches book r o → slice_index_or marks o false ≡ true)

-- a row names definition v
abbrev pub names : Reach → ℕ → Bool
names nothing v = false
names (inner o) v = false
names (both a b) v = false
names (negated o) v = false
names (body u) v = u == v

abbrev pub calls : Row → ℕ → Bool
calls row v = names (reach row) v

-- the lowest marked row that names definition v
abbrev pub FirstCall : List Row → ℕ → List Bool → Option ℕ → Type 0
FirstCall rows v marks r = LowestOf (length rows) (λ s. (slice_index_or marks s false ≡ true) × (calls (slice_index_or rows s False) v ≡ true)) r

-- the lowest row that names definition v and needs itself
abbrev pub FirstCycle : Book → ℕ → Option ℕ → Type 0
FirstCycle book v r = LowestOf (length book.rows) (λ s. (calls (row_at book s) v ≡ true) × Needs book s s) r
