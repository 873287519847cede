-- What clearing answers, and what it leaves in memory.
use Rattle.std.specs.Prelude.{◌≡◌, ℕ, ◌+◌, ◌*◌, ◌<◌, ◌≤◌, not, length, take, Ok, Err, Result}
use Rattle.numbers.specs.Kinds.{Turns}
use Rattle.rules.specs.Book.{Book, body_at, Limits, Sealed, Cleared}
use Rattle.rules.specs.Value.{PartsAfter}
use Rattle.rules.specs.Meaning.{World, Verdicts, Lawful}
use Rattle.rules.specs.Clear.{clear}
use Rattle.books.specs.Guard.{book_of}
use Rattle.clearing.specs.declared.fault.ClearFault.{ClearFault}
use Rattle.clearing.specs.declared.fault.ClearFault.TheVariants.{TooManyRows, TooManyDefinitions}
use Rattle.clearing.specs.declared.memory.ClearedMemory.{ClearedMemory}
use Rattle.clearing.specs.Counting.{AllPlain}
use Rattle.clearing.specs.Writing.{written_over}

-- what stands in memory for a book, as a book
abbrev pub memory_of : ClearedMemory → Book
memory_of memory = book_of memory.rows.now memory.definitions.now

-- the same memory is lent as before
pub record SameLent (before after : ClearedMemory) : Type 0 where
  pub rows : after.rows.ghost_name ≡ before.rows.ghost_name
  pub definitions : after.definitions.ghost_name ≡ before.definitions.ghost_name

-- a book whose complements can be written down, as those of each sealed book can
abbrev pub Clearable : Book → Type 0
Clearable book = AllPlain (length book.definitions) book.rows

-- the cleared book fits into the memory, and within the most that a book may have
abbrev pub RowsFit : Book → Book → Type 0
RowsFit book memory = (length (clear book).rows ≤ length memory.rows) × (length (clear book).rows ≤ 2048)

abbrev pub DefinitionsFit : Book → Book → Type 0
DefinitionsFit book memory = (length (clear book).definitions ≤ length memory.definitions) × (length (clear book).definitions ≤ 128)

-- the cleared book fits, is written over the front of the memory, and has n rows
pub record Writes (book before after : Book) (n : ℕ) : Type 0 where
  pub clearable : Clearable book
  pub rows_fit : RowsFit book before
  pub definitions_fit : DefinitionsFit book before
  pub counted : n ≡ length (clear book).rows
  pub rows : after.rows ≡ written_over (clear book).rows before.rows
  pub definitions : after.definitions ≡ written_over (clear book).definitions before.definitions

-- The cleared book is written and its rows are counted; or it does not fit, and nothing is changed.
abbrev pub Outcome : Book → Book → Book → Result ℕ ClearFault → Type 0
Outcome book before after (Ok n) = Writes book before after n
Outcome book before after (Err TooManyRows) = (Clearable book → RowsFit book before → ⊥) × (after ≡ before)
Outcome book before after (Err TooManyDefinitions) = Clearable book × RowsFit book before × (DefinitionsFit book before → ⊥) × (after ≡ before)

-- the book of n rows and d definitions that stands in front of the memory
abbrev pub front_book : ℕ → ℕ → Book → Book
front_book n d memory = book_of (take n memory.rows) (take d memory.definitions)

-- what is written is the cleared book, which is one under the same limits, of not much more rows and twice the definitions
pub record WritesCleared (limits : Limits) (book after : Book) (n : ℕ) : Type 0 where
  pub is_clear : front_book n (2 * length book.definitions) after ≡ clear book
  pub cleared : Cleared limits (clear book)
  pub short : n ≤ 8 + 5 * length book.rows
  pub doubled : length (clear book).definitions ≡ 2 * length book.definitions

-- For a sealed book a refusal says just that the rows don't fit, or that they do and the definitions don't.
abbrev pub SealedOutcome : Limits → Book → Book → Book → Result ℕ ClearFault → Type 0
SealedOutcome limits book before after (Ok n) = WritesCleared limits book after n
SealedOutcome limits book before after (Err TooManyRows) = RowsFit book before → ⊥
SealedOutcome limits book before after (Err TooManyDefinitions) = RowsFit book before × (DefinitionsFit book before → ⊥)

abbrev pub Seals : Book → Book → Book → Result ℕ ClearFault → Type 0
Seals book before after r = (limits : Limits) → Sealed limits book → SealedOutcome limits book before after r

-- The verdicts of the book that is written are those of the book: by its lawful table definition k is accepted where the book accepts it,
-- and definition d + k where the book does not.
abbrev pub VerdictsKept : Type 0 → Type 0
VerdictsKept K = (world : World K) (limits : Limits) (book before after : Book) (n : ℕ) (V W : Verdicts) →
    Turns world.kind → PartsAfter world.doc → Sealed limits book → Outcome book before after (Ok n) →
    Lawful world (front_book n (2 * length book.definitions) after) V → Lawful world book W →
    (k m : ℕ) → k < length book.definitions → m < length world.doc →
    (V (body_at (front_book n (2 * length book.definitions) after) k) m ≡ W (body_at book k) m)
    × (V (body_at (front_book n (2 * length book.definitions) after) (length book.definitions + k)) m ≡ not (W (body_at book k) m))
