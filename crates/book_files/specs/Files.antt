-- What reading a book's file comes to.
use Rattle.std.specs.Prelude.{◌≡◌, ℕ, ◌+◌, ◌<◌, ◌≤◌, cond, not, ◌⊎◌, List, [], ◌∷◌, ◌++◌, length, take, drop, replicate, Ok, Err, Result, ◌==◌, nat_le}
use Rattle.std.specs.Result.{result_and}
use Rattle.std.specs.List.{AllByRecursion}
use Rattle.fields.specs.Fields.{tag_of, stated_length}
use Rattle.numbers.specs.Kinds.{Kind}
use Rattle.kinds.specs.Causes.{outcome}
use Rattle.rules.specs.Book.{Limits, limits_of, Allowed, operands, Guarded, Sealed}
use Rattle.rules.specs.declared.row.Row.{Row}
use Rattle.rules.specs.declared.row.Row.TheVariants.{False}
use Rattle.books.specs.Guard.{Lowest}
use Rattle.books.specs.Tests.{Tested, passes, ask, variable_test, first_refused}
use Rattle.books.specs.declared.fault.BookFault.{BookFault}
use Rattle.books.specs.declared.fault.BookFault.TheVariants.{FileTooLong, NoDefinition, Unguarded}
use Rattle.book_fields.specs.Fields.{field_test}
use Rattle.book_fields.specs.Items.{number_from, row_from, definition_from}
use Rattle.book_files.specs.declared.reading.BookCounts.{BookCounts}
use Rattle.book_files.specs.Drafts.{Numeral, Draft, Memory, Room, room_of, file, row_place, numbers, book, counts_of}

-- each item is as it should be, by how many come before it
abbrev pub Each : {A : Type 0} → (ℕ → A → Type 0) → ℕ → List A → Type 0
Each P n [] = Unit {0}
Each P n (x ∷ xs) = P n x × Each P (n + 1) xs

-- the tag of the last field: 1 for a number, 2 for a row, 3 for a definition; before the first field it is 1 too
abbrev pub last_tag : List Row → List ℕ → ℕ
last_tag [] [] = 1
last_tag (row ∷ rows) [] = 2
last_tag rows (body ∷ bodies) = 3

-- there is room for the row, its fields are allowed, and it names only rows before it
abbrev pub RowFits : Room → Limits → ℕ → Row → Type 0
RowFits room within r row = (r < room.rows) × Allowed within row × AllByRecursion (λ o. o < r) (operands row)

-- there is room for the definition, and its body is one of so many rows
abbrev pub BodyFits : Room → (rows : ℕ) → ℕ → ℕ → Type 0
BodyFits room rows k body = (k < room.definitions) × (body < rows)

module _ {K : Type 0} (kind : Kind K) where
  -- there is room for the number, and its token stands for it
  abbrev pub NumberFits : Room → ℕ → Numeral K → Type 0
  NumberFits room n numeral = (n < room.numbers) × (outcome kind numeral.token ≡ Ok numeral.value)

  -- what a book of these numbers is sealed for
  abbrev pub limits : (patterns : ℕ) → Draft K → Limits
  limits patterns draft = limits_of kind patterns (numbers draft)

module _ {K : Type 0} where
  -- at the end of the file there is a definition, and the variables' definitions are there, row by row
  abbrev pub end_test : Draft K → Tested
  end_test draft =
      result_and (ask (not (length draft.bodies == 0)) (NoDefinition (length (file draft))))
      (first_refused (λ r row. variable_test (length draft.bodies) (row_place draft r) row) 0 draft.rows)

  -- At the end of a file: it is refused by the test of the end; or, if that passes, at the lowest row that needs itself; or else it
  -- stands for what was read.
  abbrev pub Ends : Draft K → Result (Draft K) BookFault → Type 0
  Ends draft (Ok whole) = (whole ≡ draft) × (end_test draft ≡ passes) × Guarded (book draft)
  Ends draft (Err e) = (end_test draft ≡ Err e) ⊎ ((end_test draft ≡ passes) × ((r : ℕ) × (e ≡ Unguarded r) × Lowest (book draft) r))

module _ {K : Type 0} (kind : Kind K) (patterns : ℕ) (room : Room) where
  -- all that a field is tested for by itself
  pub record Fits (draft : Draft K) : Type 0 where
    pub numerals : Each (NumberFits kind room) 0 draft.numerals
    pub rows : Each (RowFits room (limits kind patterns draft)) 0 draft.rows
    pub bodies : Each (BodyFits room (length draft.rows)) 0 draft.bodies

  -- what the body of the next field is tested for, by its tag
  abbrev pub body_test : Draft K → (place tag : ℕ) → List ℕ → Tested
  body_test draft place tag body =
      cond (tag == 1) (result_and (number_from kind (nat_le room.numbers (length draft.numerals)) place body) passes)
      (cond (tag == 2) (result_and (row_from (limits kind patterns draft) (nat_le room.rows (length draft.rows)) (length draft.rows) place body) passes)
      (result_and (definition_from (nat_le room.definitions (length draft.bodies)) place (length draft.rows) body) passes))

  -- the next field, which bytes begin with: first the field, then what its body stands for
  abbrev pub next_test : Draft K → List ℕ → Tested
  next_test draft bytes =
      result_and (field_test (last_tag draft.rows draft.bodies) (length (file draft)) bytes)
      (body_test draft (length (file draft)) (tag_of bytes) (take (stated_length bytes) (drop 3 bytes)))

  -- reading ends here: nothing is left, or the next field is refused
  abbrev pub Stops : Draft K → List ℕ → Result (Draft K) BookFault → Type 0
  Stops draft rest (Ok whole) = (rest ≡ []) × Ends draft (Ok whole)
  Stops draft rest (Err e) = ((rest ≡ []) × Ends draft (Err e)) ⊎ ((0 < length rest) × (next_test draft rest ≡ Err e))

  -- a file is read from the left, field by field, up to its end or the first field that is refused
  pub record ReadsTo (bytes : List ℕ) (o : Result (Draft K) BookFault) : Type 0 where
    pub draft : Draft K
    pub rest : List ℕ
    pub cut : bytes ≡ file draft ++ rest
    pub fits : Fits draft
    pub stop : Stops draft rest o

  -- what a file comes to: what it stands for, or a fault
  abbrev pub ComesTo : List ℕ → Result (Draft K) BookFault → Type 0
  ComesTo bytes o = (65535 < length bytes → o ≡ Err FileTooLong) × (length bytes ≤ 65535 → ReadsTo bytes o)

  -- The bytes are the file of a sealed book, whose numbers stand for what the tokens say and which there is room for.
  pub record IsFile (bytes : List ℕ) (draft : Draft K) : Type 0 where
    pub short : length bytes ≤ 65535
    pub written : bytes ≡ file draft
    pub read : AllByRecursion (λ n. outcome kind n.token ≡ Ok n.value) draft.numerals
    pub numbers_fit : length draft.numerals ≤ room.numbers
    pub rows_fit : length draft.rows ≤ room.rows
    pub bodies_fit : length draft.bodies ≤ room.definitions
    pub sealed : Sealed (limits kind patterns draft) (book draft)

-- the numbers, rows and definitions of a draft stand in front of what was there
abbrev pub Filled : {K : Type 0} → Draft K → Memory K → Memory K → Type 0
Filled draft before after =
    (after.numbers ≡ numbers draft ++ drop (length draft.numerals) before.numbers)
    × (after.rows ≡ draft.rows ++ drop (length draft.rows) before.rows)
    × (after.definitions ≡ draft.bodies ++ drop (length draft.bodies) before.definitions)

-- nothing is left but zeros; a zero row is one that accepts nothing
abbrev pub Erased : {K : Type 0} → Kind K → Memory K → Memory K → Type 0
Erased kind before after =
    (after.numbers ≡ replicate (length before.numbers) kind.zero)
    × (after.rows ≡ replicate (length before.rows) False)
    × (after.definitions ≡ replicate (length before.definitions) 0)

-- what is answered, and left in memory
abbrev pub Leaves : {K : Type 0} → Kind K → Memory K → Memory K → Result (Draft K) BookFault → Result BookCounts BookFault → Type 0
Leaves kind before after (Ok draft) r = (r ≡ Ok (counts_of draft)) × Filled draft before after
Leaves kind before after (Err e) r = (r ≡ Err e) × Erased kind before after

-- Reading a file: it comes to one thing and to nothing else, and that is what is answered and left in memory.
pub record Reads {K : Type 0} (kind : Kind K) (patterns : ℕ) (bytes : List ℕ) (before after : Memory K) (r : Result BookCounts BookFault) : Type 0 where
  pub outcome : Result (Draft K) BookFault
  pub comes : ComesTo kind patterns (room_of before) bytes outcome
  pub only : (other : Result (Draft K) BookFault) → ComesTo kind patterns (room_of before) bytes other → other ≡ outcome
  pub leaves : Leaves kind before after outcome r

-- A book is read exactly if the bytes are the file of a sealed one.
abbrev pub Granted : {K : Type 0} → Kind K → ℕ → Room → List ℕ → Result BookCounts BookFault → Type 0
Granted {K} kind patterns room bytes (Ok counts) = (draft : Draft K) × IsFile kind patterns room bytes draft × (counts ≡ counts_of draft)
Granted {K} kind patterns room bytes (Err e) = (draft : Draft K) → IsFile kind patterns room bytes draft → ⊥
