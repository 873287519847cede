-- What a number kind is, and the laws of every kind.
use Rattle.std.specs.Prelude.{◌≡◌, ℕ, ◌≤◌, Bool, ◌⊎◌, List, ◌∷◌, length, Some, None, codes, Option}
use Rattle.std.specs.Option.{option_map}
use Rattle.std.specs.Ordering.{ordering_reverse, is_gt}
use Rattle.std.specs.declared.cmp.Ordering.TheVariants.{Equal}
use Rattle.std.specs.declared.cmp.Ordering.{Ordering}
use Rattle.numbers.specs.Grammar.{Token}

-- A number kind: the longest token that it reads in bytes, the value that a token stands for, the token that a value is written as,
-- how two values compare, whether one is a multiple of another, and the zero.
pub record Kind (K : Type 0) : Type 0 where
  pub longest : ℕ
  pub read : List ℕ → Option K
  pub written : K → List ℕ
  pub compare : K → K → Ordering
  pub multiple : K → K → Bool
  pub zero : K

-- the answer to the comparison the other way round
abbrev pub turned : Ordering → Ordering
turned side = ordering_reverse side

module _ {K : Type 0} (kind : Kind K) where
  -- a value above zero
  abbrev pub above_zero : K → Bool
  above_zero x = is_gt (kind.compare x kind.zero)

  -- comparing the other way round gives the turned answer
  abbrev pub Turns : Type 0
  Turns = (x y : K) → kind.compare y x ≡ turned (kind.compare x y)

  -- level values compare alike with any third
  abbrev pub Levels : Type 0
  Levels = (x y z : K) → kind.compare x y ≡ Equal → kind.compare x z ≡ kind.compare y z

  -- only JSON number tokens are read
  abbrev pub ReadsTokens : Type 0
  ReadsTokens = (bs : List ℕ) (x : K) → kind.read bs ≡ Some x → Token bs

  -- the token `0` stands for the zero
  abbrev pub ReadsZero : Type 0
  ReadsZero = kind.read (codes "0") ≡ Some kind.zero

  -- written, a value is a JSON number token of at most the longest length and reads back as itself
  abbrev pub ComesBack : K → Type 0
  ComesBack x = Token (kind.written x) × (length (kind.written x) ≤ kind.longest) × (kind.read (kind.written x) ≡ Some x)

  -- a read value comes back
  abbrev pub WritesBack : Type 0
  WritesBack = (bs : List ℕ) (x : K) → kind.read bs ≡ Some x → ComesBack x

  -- what is read is written as the token that it was read from, but that a minus before zero is dropped
  abbrev pub Kept : List ℕ → Option K → Type 0
  Kept bs None = Unit {0}
  Kept bs (Some x) = (bs ≡ kind.written x) ⊎ ((bs ≡ 0x2D ∷ kind.written x) × (kind.compare x kind.zero ≡ Equal))

  -- reading a token means this of the value, and nothing else
  abbrev pub ReadsAs : (List ℕ → K → Type 0) → Type 0
  ReadsAs Means = (bs : List ℕ) (x : K) → (kind.read bs ≡ Some x → Means bs x) × (Means bs x → kind.read bs ≡ Some x)

-- the value that is answered is what the token stands for, or it stands for none
abbrev pub ReadsValue : {V K : Type 0} → (List ℕ → V → Type 0) → (K → V) → List ℕ → Option K → Type 0
ReadsValue Means value token (Some x) = Means token (value x)
ReadsValue {V} Means value token None = (v : V) → Means token v → ⊥

-- a kind whose values are held in another type
abbrev pub held : {V K : Type 0} → Kind V → (V → K) → (K → V) → Kind K
held kind hold value = record {
  longest = kind.longest;
  read = λ bs. option_map hold (kind.read bs);
  written = λ x. kind.written (value x);
  compare = λ x y. kind.compare (value x) (value y);
  multiple = λ x q. kind.multiple (value x) (value q);
  zero = hold kind.zero;
}
