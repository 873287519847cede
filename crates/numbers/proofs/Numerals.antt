-- What is written of a number: its sign, and its digits as an int of the grammar.
use Rattle.std.proofs.Common.{◌≡◌, ℕ, zero, suc, ◌^◌, ◌<◌, ◌≤◌, Bool, true, false, cond, eqb, ◌⊎◌, List, [], ◌∷◌, ◌++◌, length, get_or, ℤ, pos, negsuc, nat_abs, decimal, sym, refl, ap, ◌∙◌, subst, inl, inr, ⊎_elim, arith}
use Rattle.std.proofs.lemmas.Fmt.{decimal-digits_value, digits_decimal, first_decimal, decimal_digit}
use Rattle.std.proofs.lemmas.Bool.{or_left, lt-ltb, cases_lt}
use Rattle.std.specs.Fmt.{signed_decimal}
use Rattle.numbers.specs.Grammar.{DigitOneToNine, Int, Digits, Optional, Minus}
use Rattle.numbers.specs.Values.{number, signed_by}
use Rattle.numbers.specs.Reading.{well_begun, signed_if, minus_of}
use Rattle.numbers.proofs.Digits.{numerals}
use Rattle.numbers.proofs.Tokens.{is_some, begun_int, int_digits}

pub signed_some : (minus : List ℕ) (n : ℕ) → signed_by minus n ≡ signed_if (is_some minus) n
signed_some [] n = refl
signed_some (b ∷ bs) n = refl

pub signed_cond : (minus : Bool) (n : ℕ) → signed_by (cond minus (0x2D ∷ []) []) n ≡ signed_if minus n
signed_cond true n = refl
signed_cond false n = refl

pub nat_abs_signed : (minus : List ℕ) (n : ℕ) → nat_abs (signed_by minus n) ≡ n
nat_abs_signed [] n = refl
nat_abs_signed (b ∷ bs) zero = refl
nat_abs_signed (b ∷ bs) (suc n) = refl

-- the sign that is written
pub minus_written : (z : ℤ) → Optional Minus (minus_of z) × (z ≡ signed_by (minus_of z) (nat_abs z)) × (length (minus_of z) ≤ 1)
minus_written (pos n) = (inl refl, refl, omega arith)
minus_written (negsuc n) = (inr refl, refl, omega arith)

pub signed_is : (z : ℤ) → signed_decimal z ≡ minus_of z ++ decimal (nat_abs z)
signed_is (pos n) = refl
signed_is (negsuc n) = refl

begun_above : (ds : List ℕ) → 0x30 < get_or ds 0 0 → well_begun ds ≡ true
begun_above [] h = absurd (omega arith)
begun_above (d ∷ ds) h = or_left _ (eqb (length ds) 0) (lt-ltb 0x30 d h)

pub int_decimal : (n : ℕ) → n < 2 ^ 64 → Int (decimal n)
int_decimal n h =
    ⊎_elim
    (λ (l : 0 < n). begun_int (decimal n) (digits_decimal numerals n h) (begun_above (decimal n) (first_decimal n l h)))
    (λ (l : n ≤ 0). subst Int (sym (decimal_digit n (omega arith))) (inl (omega arith, refl)))
    (cases_lt 0 n)

-- an int is what is written of its number
pub int_again : (int : List ℕ) → Int int → number int < 2 ^ 64 → decimal (number int) ≡ int
int_again int i small = decimal-digits_value numerals int (int_digits int i) (some int i) (zero_alone int i) small
  where
    some : (int : List ℕ) → Int int → 0 < length int
    some [] i = absurd i
    some (b ∷ bs) i = omega arith

    zero_alone : (int : List ℕ) → Int int → get_or int 0 0 ≡ 0x30 → length int ≡ 1
    zero_alone [] i e = absurd i
    zero_alone (b ∷ bs) i e = ⊎_elim (λ (z : (b ≡ 0x30) × (bs ≡ [])). omega (arith, ap length z.1)) (λ (z : DigitOneToNine b × Digits bs). absurd (omega arith)) i

-- what stands after a sign, with the sign that is written
pub sign_kept : (minus : List ℕ) (n : ℕ) (rest bs : List ℕ) → Optional Minus minus → bs ≡ minus ++ rest
    → (bs ≡ minus_of (signed_by minus n) ++ rest) ⊎ ((bs ≡ 0x2D ∷ (minus_of (signed_by minus n) ++ rest)) × (signed_by minus n ≡ pos 0))
sign_kept [] n rest bs m e = inl e
sign_kept (b ∷ minus) n rest bs (inl m) e = absurd (omega (arith, ap length m))
sign_kept (b ∷ minus) zero rest bs (inr m) e = inr (e ∙ ap (λ s. s ++ rest) m, refl)
sign_kept (b ∷ minus) (suc n) rest bs (inr m) e = inl (e ∙ ap (λ s. s ++ rest) m)
