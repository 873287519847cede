-- How marks spread from a row to what it needs: rows that are marked and not yet looked at wait on a stack.
use Rattle.std.specs.Prelude.{◌≡◌, ℕ, ◌+◌, ◌-◌, ◌<◌, ◌≤◌, Bool, true, false, cond, ◌⊎◌, List, [], ◌∷◌, length, Some, None, sum_by, Option, slice_index, slice_index_or, slice_set}
use Rattle.rules.specs.Book.{Book, row_at, needs}
use Rattle.rules.specs.Value.{◌∈◌}
use Rattle.books.specs.declared.guard.Search.{Search}
use Rattle.books.specs.Guard.{Reaches}

pub record Work : Type 0 where
  pub marks : List Bool
  pub stack : List ℕ
  pub height : ℕ

abbrev pub work : List Bool → List ℕ → ℕ → Work
work marks stack height = record { marks = marks; stack = stack; height = height }

-- how far a search has come
abbrev pub seen : Search → Work
seen s = work s.marks s.stack s.height

abbrev pub IsMarked : Work → ℕ → Type 0
IsMarked w o = slice_index_or w.marks o false ≡ true

-- a row that is not marked yet is marked and put on the stack
abbrev pub visit : ℕ → Work → Work
visit o w = cond (slice_index_or w.marks o false) w (work (slice_set w.marks o true) (slice_set w.stack w.height o) (w.height + 1))

abbrev pub visit_all : List ℕ → Work → Work
visit_all [] w = w
visit_all (o ∷ os) w = visit_all os (visit o w)

-- the stack without its uppermost row
abbrev pub pop : Work → Work
pop w = work w.marks w.stack (w.height - 1)

abbrev pub top : Work → ℕ
top w = slice_index w.stack (w.height - 1)

-- there is room to visit a row
abbrev pub Room : ℕ → Work → Type 0
Room o w = (o < length w.marks) × (slice_index_or w.marks o false ≡ false → w.height < length w.stack)

-- there is room for a row that may be there
abbrev pub EveryRoom : Option ℕ → Work → Type 0
EveryRoom None w = Unit {0}
EveryRoom (Some o) w = Room o w

-- how many rows are not marked
abbrev pub unmarked : List Bool → ℕ
unmarked marks = sum_by (λ b. cond b 0 1) marks

-- how many rows wait or are not marked: each turn takes one away
abbrev pub left : Work → ℕ
left w = w.height + unmarked w.marks

-- a row waits on the stack
abbrev pub Waits : Work → ℕ → Type 0
Waits w i = (k : ℕ) × (k < w.height) × (slice_index w.stack k ≡ i)

-- Marked are rows that the start reaches. What a marked row needs is marked, or still to be visited, or the row itself waits.
pub record Spreading (book : Book) (start : ℕ) (todo : List ℕ) (w : Work) : Type 0 where
  pub long : length book.rows ≤ length w.marks
  pub room : left w ≤ length w.stack
  pub begun : IsMarked w start
  pub within : (o : ℕ) → IsMarked w o → (o < length book.rows) × Reaches book start o
  pub stacked : (k : ℕ) → k < w.height → IsMarked w (slice_index w.stack k)
  pub closed : (i : ℕ) → IsMarked w i → Waits w i ⊎ ((o : ℕ) → o ∈ needs book (row_at book i) → IsMarked w o ⊎ (o ∈ todo))

-- no row is marked, and there is room for so many
abbrev pub Fresh : ℕ → Work → Type 0
Fresh n w = (length w.marks ≡ n) × (length w.stack ≡ n) × (w.height ≡ 0) × ((o : ℕ) → slice_index_or w.marks o false ≡ false)

-- the uppermost row is taken off, if one waits
abbrev pub Pops : (before after : Work) → Option ℕ → Type 0
Pops before after None = (before.height ≡ 0) × (after ≡ before)
Pops before after (Some r) = (0 < before.height) × (r ≡ top before) × (after ≡ pop before)
