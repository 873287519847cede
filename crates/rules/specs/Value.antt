-- What a document is: its values by node number. A list holds the nodes of its elements, an object the names and nodes of its members.
use Rattle.std.specs.Prelude.{ℕ, ◌<◌, Bool, List, [], ◌∷◌, map, length, Some, None, Option, slice_index_or}
use Rattle.std.specs.List.{AllByRecursion}
use Rattle.rules.specs.declared.row.ValueType.{ValueType}
use Rattle.rules.specs.declared.row.ValueType.TheVariants.{Null, Boolean, Number, Text, List as Listed, Object}

-- the number of a type
abbrev pub type_index : ValueType → ℕ
type_index Null = 0
type_index Boolean = 1
type_index Number = 2
type_index Text = 3
type_index Listed = 4
type_index Object = 5

-- x stands in a list
infixl 20 ◌∈◌
pub data ◌∈◌ {A : Type 0} (x : A) : List A → Type 0 where
  first : {xs : List A} → x ∈ (x ∷ xs)
  later : {y : A} {xs : List A} → x ∈ xs → x ∈ (y ∷ xs)

-- a member of an object
pub record Member : Type 0 where
  pub name : List ℕ
  pub node : ℕ

-- the value at a node
pub data Shape (K : Type 0) : Type 0 where
  null : Shape K
  boolean : Bool → Shape K
  number : K → Shape K
  text : List ℕ → Shape K
  list : List ℕ → Shape K
  object : List Member → Shape K

module _ {K : Type 0} where
  -- the type of a value
  abbrev pub type_of : Shape K → ValueType
  type_of null = Null
  type_of (boolean b) = Boolean
  type_of (number x) = Number
  type_of (text s) = Text
  type_of (list es) = Listed
  type_of (object ms) = Object

  -- what a value of each type holds, and nothing for a value of another type
  abbrev pub as_boolean : Shape K → Option Bool
  as_boolean null = None
  as_boolean (boolean b) = Some b
  as_boolean (number x) = None
  as_boolean (text s) = None
  as_boolean (list es) = None
  as_boolean (object ms) = None

  abbrev pub as_number : Shape K → Option K
  as_number null = None
  as_number (boolean b) = None
  as_number (number x) = Some x
  as_number (text s) = None
  as_number (list es) = None
  as_number (object ms) = None

  abbrev pub as_text : Shape K → Option (List ℕ)
  as_text null = None
  as_text (boolean b) = None
  as_text (number x) = None
  as_text (text s) = Some s
  as_text (list es) = None
  as_text (object ms) = None

  abbrev pub as_list : Shape K → Option (List ℕ)
  as_list null = None
  as_list (boolean b) = None
  as_list (number x) = None
  as_list (text s) = None
  as_list (list es) = Some es
  as_list (object ms) = None

  abbrev pub as_object : Shape K → Option (List Member)
  as_object null = None
  as_object (boolean b) = None
  as_object (number x) = None
  as_object (text s) = None
  as_object (list es) = None
  as_object (object ms) = Some ms

  -- the nodes right below a node
  abbrev pub parts : Shape K → List ℕ
  parts null = []
  parts (boolean b) = []
  parts (number x) = []
  parts (text s) = []
  parts (list es) = es
  parts (object ms) = map (λ m. m.node) ms

  -- the value at node n
  abbrev pub shape_at : List (Shape K) → ℕ → Shape K
  shape_at doc n = slice_index_or doc n null

-- each node stands before its parts, and they are there
abbrev pub PartsAfter : {K : Type 0} → List (Shape K) → Type 0
PartsAfter doc = (n : ℕ) → n < length doc → AllByRecursion (λ m. (n < m) × (m < length doc)) (parts (shape_at doc n))

-- node n is x, or lies above it
pub data HoldsNode {K : Type 0} (doc : List (Shape K)) : ℕ → ℕ → Type 0 where
  itself : {x : ℕ} → HoldsNode doc x x
  within : {n m x : ℕ} → m ∈ parts (shape_at doc n) → HoldsNode doc m x → HoldsNode doc n x
