-- Rule books: which rows a row names and which it needs, and what a sealed book is.
use Rattle.std.specs.Prelude.{◌≡◌, ℕ, ◌%◌, ◌<◌, ◌≤◌, Bool, true, List, [], ◌∷◌, length, Some, None, Option, ◌≢◌, slice_index, slice_index_or}
use Rattle.std.specs.List.{AllByRecursion}
use Rattle.numbers.specs.Kinds.{Kind, above_zero as is_above_zero}
use Rattle.rules.specs.Value.{◌∈◌}
use Rattle.rules.specs.declared.row.Range.{Range}
use Rattle.rules.specs.declared.row.Bounds.{Bounds}
use Rattle.rules.specs.declared.row.Row.{Row}
use Rattle.rules.specs.declared.row.Row.TheVariants.{True, False, OfType, BooleanIs, Pattern, NotPattern, Length, Between, StrictlyBetween, Multiple, NotMultiple, EveryMember, SomeMember, Members, EveryElement, SomeElement, Count, And, Or, Not, Variable}

-- the rows of a book, and the body row of each definition
pub record Book : Type 0 where
  pub rows : List Row
  pub definitions : List ℕ

abbrev pub row_at : Book → ℕ → Row
row_at book r = slice_index_or book.rows r False

abbrev pub body_at : Book → ℕ → ℕ
body_at book v = slice_index book.definitions v

-- What a row looks at besides the value: nothing, a row at the value's parts, two rows or a negated one at the value itself,
-- or a definition's body there.
pub data Reach : Type 0 where
  nothing : Reach
  inner : ℕ → Reach
  both : ℕ → ℕ → Reach
  negated : ℕ → Reach
  body : ℕ → Reach

abbrev pub reach : Row → Reach
reach True = nothing
reach False = nothing
reach (OfType t) = nothing
reach (BooleanIs b) = nothing
reach (Pattern p) = nothing
reach (NotPattern p) = nothing
reach (Length range) = nothing
reach (Between bounds) = nothing
reach (StrictlyBetween bounds) = nothing
reach (Multiple q) = nothing
reach (NotMultiple q) = nothing
reach (EveryMember p o) = inner o
reach (SomeMember p o) = inner o
reach (Members range) = nothing
reach (EveryElement o) = inner o
reach (SomeElement o) = inner o
reach (Count o range) = inner o
reach (And a b) = both a b
reach (Or a b) = both a b
reach (Not o) = negated o
reach (Variable v) = body v

-- the rows that a row names
abbrev pub named : Reach → List ℕ
named nothing = []
named (inner o) = o ∷ []
named (both a b) = a ∷ b ∷ []
named (negated o) = o ∷ []
named (body v) = []

-- the definitions that it names
abbrev pub called : Reach → List ℕ
called nothing = []
called (inner o) = []
called (both a b) = []
called (negated o) = []
called (body v) = v ∷ []

-- the rows that it directly needs, to be judged at the same value
abbrev pub needed : Book → Reach → List ℕ
needed book nothing = []
needed book (inner o) = []
needed book (both a b) = a ∷ b ∷ []
needed book (negated o) = o ∷ []
needed book (body v) = body_at book v ∷ []

abbrev pub operands : Row → List ℕ
operands row = named (reach row)

abbrev pub variables : Row → List ℕ
variables row = called (reach row)

abbrev pub needs : Book → Row → List ℕ
needs book row = needed book (reach row)

-- row r needs row o through one or more direct needs
pub data Needs (book : Book) : ℕ → ℕ → Type 0 where
  direct : {r o : ℕ} → o ∈ needs book (row_at book r) → Needs book r o
  through : {r m o : ℕ} → m ∈ needs book (row_at book r) → Needs book m o → Needs book r o

-- no row needs itself
abbrev pub Guarded : Book → Type 0
Guarded book = (r : ℕ) → r < length book.rows → Needs book r r → ⊥

-- What a book is sealed for: the dialect's count of patterns, the count of the book's numbers, and which of these are above zero.
pub record Limits : Type 0 where
  pub patterns : ℕ
  pub numbers : ℕ
  pub above_zero : ℕ → Bool

-- a number of the book's list
abbrev pub number_at : {K : Type 0} → Kind K → List K → ℕ → K
number_at kind numbers i = slice_index_or numbers i kind.zero

-- the limits that a count of patterns and a list of numbers set
abbrev pub limits_of : {K : Type 0} → Kind K → ℕ → List K → Limits
limits_of kind patterns numbers = record {
  patterns = patterns;
  numbers = length numbers;
  above_zero = λ i. is_above_zero kind (number_at kind numbers i);
}

abbrev pub IfThere : {A : Type 0} → Option A → (A → Type 0) → Type 0
IfThere None P = Unit {0}
IfThere (Some x) P = P x

-- a lower end is at most 65,535, an upper end below that
abbrev pub Ended : Range → Type 0
Ended range = (range.lower ≤ 65535) × IfThere range.upper (λ u. u ≤ 65534)

-- the bounds that are there are numbers of the book
abbrev pub Numbered : Limits → Bounds → Type 0
Numbered limits bounds = IfThere bounds.lower (λ i. i < limits.numbers) × IfThere bounds.upper (λ i. i < limits.numbers)

-- a row's patterns and numbers are there, its ends are in range, and what it counts multiples of is above zero
abbrev pub Allowed : Limits → Row → Type 0
Allowed limits True = Unit {0}
Allowed limits False = Unit {0}
Allowed limits (OfType t) = Unit {0}
Allowed limits (BooleanIs b) = Unit {0}
Allowed limits (Pattern p) = p < limits.patterns
Allowed limits (NotPattern p) = p < limits.patterns
Allowed limits (Length range) = Ended range
Allowed limits (Between bounds) = Numbered limits bounds
Allowed limits (StrictlyBetween bounds) = Numbered limits bounds
Allowed limits (Multiple q) = (q < limits.numbers) × (limits.above_zero q ≡ true)
Allowed limits (NotMultiple q) = (q < limits.numbers) × (limits.above_zero q ≡ true)
Allowed limits (EveryMember p o) = p < limits.patterns
Allowed limits (SomeMember p o) = p < limits.patterns
Allowed limits (Members range) = Ended range
Allowed limits (EveryElement o) = Unit {0}
Allowed limits (SomeElement o) = Unit {0}
Allowed limits (Count o range) = Ended range
Allowed limits (And a b) = Unit {0}
Allowed limits (Or a b) = Unit {0}
Allowed limits (Not o) = Unit {0}
Allowed limits (Variable v) = Unit {0}

-- All the rules that a sealed book keeps: the counts, each row's fields, row operands lower than their row, the variables' definitions
-- and the definitions' bodies there, and no row that needs itself.
pub record Sealed (limits : Limits) (book : Book) : Type 0 where
  pub few_rows : length book.rows ≤ 2048
  pub few_numbers : limits.numbers ≤ 1024
  pub some_definition : 1 ≤ length book.definitions
  pub few_definitions : length book.definitions ≤ 128
  pub allowed : (r : ℕ) → r < length book.rows → Allowed limits (row_at book r)
  pub lower : (r : ℕ) → r < length book.rows → AllByRecursion (λ o. o < r) (operands (row_at book r))
  pub defined : (r : ℕ) → r < length book.rows → AllByRecursion (λ v. v < length book.definitions) (variables (row_at book r))
  pub bodies : (v : ℕ) → v < length book.definitions → body_at book v < length book.rows
  pub guarded : Guarded book

-- no row is a `not`
abbrev pub WithoutNot : Book → Type 0
WithoutNot book = (r : ℕ) → r < length book.rows → (o : ℕ) → row_at book r ≢ Not o

-- A cleared book is sealed, has no `not` and an even count of definitions: each has its complement.
pub record Cleared (limits : Limits) (book : Book) : Type 0 where
  pub sealed : Sealed limits book
  pub without_not : WithoutNot book
  pub even : length book.definitions % 2 ≡ 0
