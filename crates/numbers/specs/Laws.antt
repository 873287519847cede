-- What is proved of whole numbers and of decimals.
use Rattle.std.specs.Prelude.{◌≡◌, ℕ, List, ℤ, ◌*ℤ◌, Decides}
use Rattle.numbers.specs.Kinds.{Kind, Turns, Levels, ReadsTokens, ReadsZero, WritesBack, Kept, ReadsAs}
use Rattle.numbers.specs.Values.{MeansWhole, MeansDecimal}
use Rattle.numbers.specs.Reading.{whole, fixed, divides}

-- the laws of every kind
pub record Lawful {K : Type 0} (kind : Kind K) : Type 0 where
  pub turns : Turns kind
  pub levels : Levels kind
  pub reads_tokens : ReadsTokens kind
  pub reads_zero : ReadsZero kind
  pub writes_back : WritesBack kind

-- x is some whole number times q
abbrev pub Multiple : ℤ → ℤ → Type 0
Multiple x q = (k : ℤ) × (x ≡ k *ℤ q)

abbrev pub DividesTells : Type 0
DividesTells = (x q : ℤ) → Decides (divides x q) (Multiple x q)

-- each token that a kind reads is kept
abbrev pub Keeps : {K : Type 0} → Kind K → Type 0
Keeps kind = (bs : List ℕ) → Kept kind bs (kind.read bs)

abbrev pub WholeReads : Type 0
WholeReads = ReadsAs whole MeansWhole

abbrev pub DecimalReads : Type 0
DecimalReads = ReadsAs fixed MeansDecimal
