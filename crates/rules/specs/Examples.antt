-- A small book, what it clears to, and what it says of three documents.
use Rattle.std.specs.Prelude.{◌≡◌, ℕ, ◌≤◌, Bool, List, [], ◌∷◌, ◌++◌}
use Rattle.rules.specs.declared.row.Row.TheVariants.{EveryElement, SomeElement, And, Not, Variable}
use Rattle.numbers.specs.Kinds.{Kind}
use Rattle.rules.specs.Value.{Shape, number, list}
use Rattle.rules.specs.Book.{Book, Limits, Sealed}
use Rattle.rules.specs.Meaning.{Verdicts, Lawful}
use Rattle.rules.specs.Clear.{clear, fixed}

-- a list of values that this book does not accept
abbrev pub book_e : Book
book_e = record { rows = Variable 0 ∷ Not 0 ∷ EveryElement 1 ∷ []; definitions = 2 ∷ [] }

-- it is sealed, whatever the patterns and numbers are
abbrev pub SealsE : Type 0
SealsE = (limits : Limits) → limits.numbers ≤ 1024 → Sealed limits book_e

-- what it clears to: 13 rows and two definitions
abbrev pub ClearsE : Type 0
ClearsE = clear book_e ≡ record {
  rows = fixed ++ (Variable 0 ∷ Variable 1 ∷ EveryElement 9 ∷ SomeElement 8 ∷ And 4 11 ∷ []);
  definitions = 10 ∷ 12 ∷ [];
}

-- every lawful table gives definition 0 of book E this verdict at the root of the document
abbrev pub JudgesE : {K : Type 0} → Kind K → (ℕ → List ℕ → Bool) → List (Shape K) → Bool → Type 0
JudgesE kind matches doc verdict =
    (V : Verdicts) → Lawful (record { kind = kind; matches = matches; numbers = []; doc = doc }) book_e V → V 2 0 ≡ verdict

-- the verdicts on `[]`, `[1]` and `[[1]]`
abbrev pub ExampleE : Type 0 → Bool → Bool → Bool → Type 0
ExampleE K empty one nested = (kind : Kind K) (matches : ℕ → List ℕ → Bool) (x : K) →
    JudgesE kind matches (list [] ∷ []) empty
    × JudgesE kind matches (list (1 ∷ []) ∷ number x ∷ []) one
    × JudgesE kind matches (list (1 ∷ []) ∷ list (2 ∷ []) ∷ number x ∷ []) nested
