-- What a JSON number token is: `number` of RFC 8259, section 6, production by production, over bytes.
use Rattle.std.specs.Prelude.{◌≡◌, ℕ, ◌⊎◌, List, [], ◌∷◌, ◌++◌}
use Rattle.std.specs.Int.{IsInRange}
use Rattle.std.specs.List.{AllByRecursion}

-- DIGIT = %x30-39
abbrev pub Digit : ℕ → Type 0
Digit b = IsInRange 0x30 0x39 b

-- digit1-9 = %x31-39
abbrev pub DigitOneToNine : ℕ → Type 0
DigitOneToNine b = IsInRange 0x31 0x39 b

-- e = %x65 / %x45
abbrev pub E : ℕ → Type 0
E b = (b ≡ 0x65) ⊎ (b ≡ 0x45)

-- *DIGIT
abbrev pub Digits : List ℕ → Type 0
Digits bs = AllByRecursion Digit bs

-- 1*DIGIT
abbrev pub SomeDigits : List ℕ → Type 0
SomeDigits [] = ⊥
SomeDigits (b ∷ bs) = Digit b × Digits bs

-- [ .. ]
abbrev pub Optional : (List ℕ → Type 0) → List ℕ → Type 0
Optional P bs = (bs ≡ []) ⊎ P bs

-- minus = %x2D
abbrev pub Minus : List ℕ → Type 0
Minus bs = bs ≡ 0x2D ∷ []

-- plus = %x2B
abbrev pub Plus : List ℕ → Type 0
Plus bs = bs ≡ 0x2B ∷ []

-- int = zero / ( digit1-9 *DIGIT ), zero = %x30
abbrev pub Int : List ℕ → Type 0
Int [] = ⊥
Int (b ∷ bs) = ((b ≡ 0x30) × (bs ≡ [])) ⊎ (DigitOneToNine b × Digits bs)

-- frac = decimal-point 1*DIGIT, decimal-point = %x2E
abbrev pub Frac : List ℕ → Type 0
Frac [] = ⊥
Frac (b ∷ bs) = (b ≡ 0x2E) × SomeDigits bs

-- exp = e [ minus / plus ] 1*DIGIT
abbrev pub Exp : List ℕ → Type 0
Exp [] = ⊥
Exp (b ∷ bs) = E b × ((sign : List ℕ) × ((digits : List ℕ) × (bs ≡ sign ++ digits) × Optional (λ s. Minus s ⊎ Plus s) sign × SomeDigits digits))

-- the parts of a number, none of the bytes for one that is left out
pub record Parts : Type 0 where
  pub minus : List ℕ
  pub int : List ℕ
  pub frac : List ℕ
  pub exp : List ℕ

-- number = [ minus ] int [ frac ] [ exp ]
pub record Number (bs : List ℕ) (p : Parts) : Type 0 where
  pub joined : bs ≡ p.minus ++ (p.int ++ (p.frac ++ p.exp))
  pub minus : Optional Minus p.minus
  pub int : Int p.int
  pub frac : Optional Frac p.frac
  pub exp : Optional Exp p.exp

-- a JSON number token
abbrev pub Token : List ℕ → Type 0
Token bs = (p : Parts) × Number bs p
