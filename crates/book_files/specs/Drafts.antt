-- What a book's file is: the fields of its numbers, then those of its rows, then those of its definitions.
use Rattle.std.specs.Prelude.{◌≡◌, ℕ, ◌+◌, ◌*◌, ◌/◌, ◌%◌, min, List, [], ◌∷◌, ◌++◌, map, length}
use Rattle.fields.specs.Fields.{field_bytes}
use Rattle.rules.specs.Book.{Book}
use Rattle.rules.specs.declared.row.Row.{Row}
use Rattle.rows.specs.Rows.{row_bytes}
use Rattle.books.specs.Guard.{book_of}
use Rattle.book_files.specs.declared.memory.BookMemory.{BookMemory}
use Rattle.book_files.specs.declared.reading.BookCounts.{BookCounts}

-- a number token of a file, and the value that it stands for
pub record Numeral (K : Type 0) : Type 0 where
  pub token : List ℕ
  pub value : K

-- a draft: what a file stands for, or the front of one, tested field by field but not yet as a whole
pub record Draft (K : Type 0) : Type 0 where
  pub numerals : List (Numeral K)
  pub rows : List Row
  pub bodies : List ℕ

abbrev pub drafted : {K : Type 0} → List (Numeral K) → List Row → List ℕ → Draft K
drafted numerals rows bodies = record { numerals = numerals; rows = rows; bodies = bodies }

-- the fields of some items, all of one tag
abbrev pub fields : {A : Type 0} → ℕ → (A → List ℕ) → List A → List ℕ
fields tag body [] = []
fields tag body (x ∷ xs) = field_bytes tag (body x) ++ fields tag body xs

-- the number of a body row, the high byte first
abbrev pub body_bytes : ℕ → List ℕ
body_bytes row = row / 256 ∷ row % 256 ∷ []

abbrev pub row_fields : List Row → List ℕ
row_fields rows = fields 2 row_bytes rows

abbrev pub definition_fields : List ℕ → List ℕ
definition_fields bodies = fields 3 body_bytes bodies

module _ {K : Type 0} where
  abbrev pub number_fields : List (Numeral K) → List ℕ
  number_fields numerals = fields 1 (λ n. n.token) numerals

  abbrev pub file : Draft K → List ℕ
  file draft = number_fields draft.numerals ++ (row_fields draft.rows ++ definition_fields draft.bodies)

  -- where the field of row r stands: the field of each row has 13 bytes
  abbrev pub row_place : Draft K → ℕ → ℕ
  row_place draft r = length (number_fields draft.numerals) + 13 * r

  abbrev pub numbers : Draft K → List K
  numbers draft = map (λ n. n.value) draft.numerals

  abbrev pub book : Draft K → Book
  book draft = book_of draft.rows draft.bodies

  abbrev pub counts_of : Draft K → BookCounts
  counts_of draft = record { numbers = length draft.numerals; rows = length draft.rows; definitions = length draft.bodies }

-- the memory that a book is read into
pub record Memory (K : Type 0) : Type 0 where
  pub numbers : List K
  pub rows : List Row
  pub definitions : List ℕ

abbrev pub memory : {K : Type 0} → List K → List Row → List ℕ → Memory K
memory numbers rows definitions = record { numbers = numbers; rows = rows; definitions = definitions }

-- what stands in memory that is lent
abbrev pub held : {K : Type 0} → BookMemory K → Memory K
held lent = memory lent.numbers.now lent.rows.now lent.definitions.now

-- the same memory is lent as before
pub record SameLent {K : Type 0} (before after : BookMemory K) : Type 0 where
  pub numbers : after.numbers.ghost_name ≡ before.numbers.ghost_name
  pub rows : after.rows.ghost_name ≡ before.rows.ghost_name
  pub definitions : after.definitions.ghost_name ≡ before.definitions.ghost_name

-- how many of each it takes: no more than a book may have
pub record Room : Type 0 where
  pub numbers : ℕ
  pub rows : ℕ
  pub definitions : ℕ

abbrev pub room_of : {K : Type 0} → Memory K → Room
room_of memory = record {
  numbers = min (length memory.numbers) 1024;
  rows = min (length memory.rows) 2048;
  definitions = min (length memory.definitions) 128;
}
