-- What a book says of a document: the definition that all the rest rests on.
use Rattle.std.specs.Prelude.{◌≡◌, ℕ, suc, ◌<◌, Bool, true, false, cond, not, ◌&&◌, ◌||◌, List, [], ◌∷◌, length, Some, None, Option, ◌==◌, nat_le}
use Rattle.std.specs.declared.cmp.Ordering.TheVariants.{Less, Equal, Greater}
use Rattle.std.specs.declared.cmp.Ordering.{Ordering}
use Rattle.std.specs.Bool.{beq}
use Rattle.rules.specs.declared.row.ValueType.{ValueType}
use Rattle.rules.specs.declared.row.Range.{Range}
use Rattle.rules.specs.declared.row.Bounds.{Bounds}
use Rattle.rules.specs.declared.row.Row.{Row}
use Rattle.rules.specs.declared.row.Row.TheVariants.{True, False, OfType, BooleanIs, Pattern, NotPattern, Length, Between, StrictlyBetween, Multiple, NotMultiple, EveryMember, SomeMember, Members, EveryElement, SomeElement, Count, And, Or, Not, Variable}
use Rattle.numbers.specs.Kinds.{Kind}
use Rattle.rules.specs.Value.{Shape, type_index, type_of, as_boolean, as_number, as_text, as_list, as_object, shape_at}
use Rattle.rules.specs.Book.{Book, row_at, body_at, number_at}

-- the answers that `strictly-between` asks for
abbrev pub is_before : Ordering → Bool
is_before Less = true
is_before Equal = false
is_before Greater = false

-- the answers that `between` asks for
abbrev pub not_after : Ordering → Bool
not_after Less = true
not_after Equal = true
not_after Greater = false

-- whether a value of type u is of type t
abbrev pub same_type : ValueType → ValueType → Bool
same_type t u = type_index t == type_index u

-- a test of what is there; where nothing is, it passes
abbrev pub passes : {A : Type 0} → Option A → (A → Bool) → Bool
passes None test = true
passes (Some x) test = test x

module _ {A : Type 0} where
  abbrev pub all : (A → Bool) → List A → Bool
  all test [] = true
  all test (x ∷ xs) = test x && all test xs

  abbrev pub any : (A → Bool) → List A → Bool
  any test [] = false
  any test (x ∷ xs) = test x || any test xs

  abbrev pub count : (A → Bool) → List A → ℕ
  count test [] = 0
  count test (x ∷ xs) = cond (test x) (suc (count test xs)) (count test xs)

-- a count between the ends, both included
abbrev pub in_range : Range → ℕ → Bool
in_range range n = nat_le range.lower n && passes range.upper (λ u. nat_le n u)

-- the lower bound compares so with x, and x with the upper
abbrev pub in_bounds : {K : Type 0} → Kind K → List K → (Ordering → Bool) → Bounds → K → Bool
in_bounds kind numbers ok bounds x =
    passes bounds.lower (λ i. ok (kind.compare (number_at kind numbers i) x))
    && passes bounds.upper (λ i. ok (kind.compare x (number_at kind numbers i)))

-- What judging is over: the number kind, the dialect's answers, the book's numbers and the document.
pub record World (K : Type 0) : Type 0 where
  pub kind : Kind K
  pub matches : ℕ → List ℕ → Bool
  pub numbers : List K
  pub doc : List (Shape K)

-- a table: the verdict of each row at each node
abbrev pub Verdicts : Type 0
Verdicts = ℕ → ℕ → Bool

module _ {K : Type 0} (world : World K) where
  -- the value at a node
  abbrev pub value_at : ℕ → Shape K
  value_at n = shape_at world.doc n

  -- What a row says of node n, of shape s, by the verdicts of its operands. An operator on a type passes every value of another type.
  abbrev pub tells : Book → Verdicts → Row → ℕ → Shape K → Bool
  tells book V True n s = true
  tells book V False n s = false
  tells book V (OfType t) n s = same_type t (type_of s)
  tells book V (BooleanIs b) n s = passes (as_boolean s) (beq b)
  tells book V (Pattern p) n s = passes (as_text s) (world.matches p)
  tells book V (NotPattern p) n s = passes (as_text s) (λ x. not (world.matches p x))
  tells book V (Length range) n s = passes (as_text s) (λ x. in_range range (length x))
  tells book V (Between bounds) n s = passes (as_number s) (in_bounds world.kind world.numbers not_after bounds)
  tells book V (StrictlyBetween bounds) n s = passes (as_number s) (in_bounds world.kind world.numbers is_before bounds)
  tells book V (Multiple q) n s = passes (as_number s) (λ x. world.kind.multiple x (number_at world.kind world.numbers q))
  tells book V (NotMultiple q) n s = passes (as_number s) (λ x. not (world.kind.multiple x (number_at world.kind world.numbers q)))
  tells book V (EveryMember p o) n s = passes (as_object s) (all (λ m. not (world.matches p m.name) || V o m.node))
  tells book V (SomeMember p o) n s = passes (as_object s) (any (λ m. world.matches p m.name && V o m.node))
  tells book V (Members range) n s = passes (as_object s) (λ ms. in_range range (length ms))
  tells book V (EveryElement o) n s = passes (as_list s) (all (V o))
  tells book V (SomeElement o) n s = passes (as_list s) (any (V o))
  tells book V (Count o range) n s = passes (as_list s) (λ es. in_range range (count (V o) es))
  tells book V (And a b) n s = V a n && V b n
  tells book V (Or a b) n s = V a n || V b n
  tells book V (Not o) n s = not (V o n)
  tells book V (Variable v) n s = V (body_at book v) n

  -- what a row says of node n of the document
  abbrev pub says : Book → Verdicts → Row → ℕ → Bool
  says book V row n = tells book V row n (value_at n)

  -- a table that keeps every row's rule at every node
  abbrev pub Lawful : Book → Verdicts → Type 0
  Lawful book V = (r n : ℕ) → r < length book.rows → n < length world.doc → V r n ≡ says book V (row_at book r) n
