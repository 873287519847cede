-- What is read of a token that was taken apart, and what is written of its fraction.
use Rattle.std.proofs.Common.{◌≡◌, ℕ, ◌+◌, ◌-◌, ◌*◌, ◌/◌, ◌%◌, ◌^◌, ◌<◌, ◌≤◌, Bool, List, ◌∷◌, ◌++◌, length, take, nat_abs, Some, decimal, sym, ap, ◌∙◌, arith, length-append}
use Rattle.std.proofs.lemmas.List.{length-take-le}
use Rattle.std.proofs.lemmas.Str.Parse.{digits_value_short}
use Rattle.numbers.specs.Grammar.{Digits}
use Rattle.numbers.specs.Values.{number, Fixed}
use Rattle.numbers.specs.Reading.{plain, taken_apart, fraction, six_digits, minus_of, fixed_written}
use Rattle.numbers.proofs.Digits.{numerals}
use Rattle.numbers.proofs.Places.{millionths_of, six}
use Rattle.numbers.proofs.Tokens.{int_digits, plain_int, plain_places}

pub int_small : (int : List ℕ) → Digits int → length int ≤ 12 → number int < 10 ^ 12
int_small int h l = digits_value_short numerals int 12 h l

pub scaled : (ds : List ℕ) (n s : ℕ) → Digits ds → length ds ≤ 6 → n ≡ number ds → s ≡ 10 ^ (6 - length ds) → (n * s ≡ millionths_of ds) × (n * s < 10 ^ 6)
scaled ds n s h l n_is s_is =
    let is : n * s ≡ millionths_of ds = ap (λ k. k * s) n_is ∙ ap (λ k. number ds * k) s_is in
    (is, omega (arith, is, (six ds h l).less))

module _ (token : List ℕ) (minus : Bool) (int ds : List ℕ) (taken : Some (plain minus int ds) ≡ taken_apart token) where
  pub digits_taken : Digits int × Digits ds
  digits_taken = (int_digits int (plain_int token (plain minus int ds) (sym taken)), plain_places token (plain minus int ds) (sym taken))

-- how many bytes so many of a fraction's seven are
pub length_fraction : (count n m : ℕ) → fraction count m ≡ take n (0x2E ∷ six_digits m) → n ≤ 7 → length (fraction count m) ≡ n
length_fraction count n m is few = ap length is ∙ length-take-le n (0x2E ∷ six_digits m) (omega arith)

-- the three parts of a token
pub length_written : (x : Fixed)
    → length (fixed_written x) ≡ length (minus_of x.millionths) + (length (decimal (nat_abs x.millionths / 10 ^ 6)) + length (fraction x.places (nat_abs x.millionths % 10 ^ 6)))
length_written x =
    let z = x.millionths in
    let ones = decimal (nat_abs z / 10 ^ 6) in
    let part = fraction x.places (nat_abs z % 10 ^ 6) in
    length-append (minus_of z) (ones ++ part) ∙ ap (λ n. length (minus_of z) + n) (length-append ones part)
