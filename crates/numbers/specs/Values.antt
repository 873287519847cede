-- What a JSON number token stands for: as a whole number, and as a decimal.
use Rattle.std.specs.Prelude.{◌≡◌, ℕ, ◌+◌, ◌-◌, ◌*◌, ◌^◌, ◌≤◌, List, [], ◌∷◌, length, drop, ℤ, pos, neg_ℤ, fold}
use Rattle.numbers.specs.Grammar.{Parts, Number}

-- the number that digits write
abbrev pub number : List ℕ → ℕ
number ds = fold (λ n d. n * 10 + (d - 0x30)) 0 ds

-- the digits after the point
abbrev pub places : List ℕ → List ℕ
places frac = drop 1 frac

-- a number with its sign
abbrev pub signed_by : List ℕ → ℕ → ℤ
signed_by [] n = pos n
signed_by (b ∷ bs) n = neg_ℤ (pos n)

-- A token stands for a whole number: no point, no exponent, and a magnitude of at most 10^15.
pub record MeansWhole (bs : List ℕ) (z : ℤ) : Type 0 where
  pub parts : Parts
  pub token : Number bs parts
  pub no_frac : parts.frac ≡ []
  pub no_exp : parts.exp ≡ []
  pub small : number parts.int ≤ 10 ^ 15
  pub value : z ≡ signed_by parts.minus (number parts.int)

-- A decimal, counted in millionths, and how many places its token has after the point.
pub record Fixed : Type 0 where
  pub millionths : ℤ
  pub places : ℕ

-- digits before and after the point, in millionths
abbrev pub in_millionths : List ℕ → List ℕ → ℕ
in_millionths int ds = number int * 10 ^ 6 + number ds * 10 ^ (6 - length ds)

-- A token stands for a decimal: no exponent, at most 12 digits in all, and at most 6 of them after the point.
pub record MeansDecimal (bs : List ℕ) (x : Fixed) : Type 0 where
  pub parts : Parts
  pub token : Number bs parts
  pub no_exp : parts.exp ≡ []
  pub few : length parts.int + length (places parts.frac) ≤ 12
  pub fine : length (places parts.frac) ≤ 6
  pub value : x.millionths ≡ signed_by parts.minus (in_millionths parts.int (places parts.frac))
  pub count : x.places ≡ length (places parts.frac)
