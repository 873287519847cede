-- Rows of digits: how many bytes begin with, and the numbers they write.
use Rattle.std.proofs.Common.{◌≡◌, ℕ, zero, suc, ◌+◌, ◌-◌, ◌*◌, ◌^◌, ◌<◌, ◌≤◌, true, false, List, [], ◌∷◌, ◌++◌, length, get_or, take, fold, sym, refl, ◌∙◌, subst, ⊎_elim, one-add, arith, rules}
use Rattle.std.proofs.lemmas.List.{length-take}
use Rattle.std.proofs.lemmas.Str.Parse.{IsNumeralModel, numerals_by_fold, digits_value_short}
use Rattle.std.proofs.lemmas.List.Sums.{fold_more}
use Rattle.std.specs.List.{list_all}
use Rattle.std.proofs.lemmas.Bool.{cond-true, cond-false, cases_Bool, and_parts, and_from}
use Rattle.std.proofs.lemmas.Bool.Decides.{nat_tests}
use Rattle.numbers.specs.Grammar.{Digit, Digits}
use Rattle.numbers.specs.Values.{number}
use Rattle.numbers.specs.Reading.{is_digit, digit_count}

-- the shelf's lemmas on numerals hold of these digits and their number
pub numerals : IsNumeralModel Digits number
numerals = numerals_by_fold Digits (search rules) (λ n ds. fold (λ n d. n * 10 + (d - 0x30)) n ds) (search rules)

pub digit_yes : (b : ℕ) → Digit b → is_digit b ≡ true
digit_yes b h = grind (arith, nat_tests)

pub yes_digit : (b : ℕ) → is_digit b ≡ true → Digit b
yes_digit b h = (grind (arith, nat_tests), grind (arith, nat_tests))

-- no digit comes next
abbrev pub Stops : List ℕ → Type 0
Stops [] = Unit {0}
Stops (b ∷ bs) = is_digit b ≡ false

pub count_digits : (ds rest : List ℕ) → Digits ds → Stops rest → digit_count (ds ++ rest) ≡ length ds
count_digits [] [] h s = refl
count_digits [] (b ∷ bs) h s = cond-false (is_digit b) (1 + digit_count bs) 0 s
count_digits (d ∷ ds) rest h s =
    cond-true (is_digit d) (1 + digit_count (ds ++ rest)) 0 (digit_yes d h.0) ∙ omega (arith, count_digits ds rest h.1 s)

pub front_digits : (bs : List ℕ) → Digits (take (digit_count bs) bs)
front_digits [] = tt
front_digits (b ∷ bs) =
    ⊎_elim
    (λ (e : is_digit b ≡ true).
    subst (λ n. Digits (take n (b ∷ bs))) (sym (cond-true (is_digit b) (1 + digit_count bs) 0 e ∙ one-add (digit_count bs))) (yes_digit b e, front_digits bs))
    (λ (e : is_digit b ≡ false). subst (λ n. Digits (take n (b ∷ bs))) (sym (cond-false (is_digit b) (1 + digit_count bs) 0 e)) tt)
    (cases_Bool (is_digit b))

pub all_digits : (bs : List ℕ) → list_all is_digit bs ≡ true → Digits bs
all_digits [] e = tt
all_digits (b ∷ bs) e = let p = and_parts (is_digit b) (list_all is_digit bs) e in (yes_digit b p.0, all_digits bs p.1)

pub digits_all : (bs : List ℕ) → Digits bs → list_all is_digit bs ≡ true
digits_all [] h = refl
digits_all (b ∷ bs) h = and_from (is_digit b) (list_all is_digit bs) (digit_yes b h.0) (digits_all bs h.1)

pub digit_at : (ds : List ℕ) (i : ℕ) → Digits ds → i < length ds → Digit (get_or ds i 0)
digit_at [] i h l = absurd (omega arith)
digit_at (d ∷ ds) zero h l = h.0
digit_at (d ∷ ds) (suc i) h l = digit_at ds i h.1 (omega arith)

digits_take : (ds : List ℕ) (i : ℕ) → Digits ds → Digits (take i ds)
digits_take ds zero h = tt
digits_take [] (suc i) h = tt
digits_take (d ∷ ds) (suc i) h = (h.0, digits_take ds i h.1)

-- the steps of a reading from the left
pub number_more : (ds : List ℕ) (i : ℕ) → i < length ds → number (take (i + 1) ds) ≡ number (take i ds) * 10 + (get_or ds i 0 - 0x30)
number_more ds i l = fold_more (λ n d. n * 10 + (d - 0x30)) 0 ds i 0 l

pub number_small : (ds : List ℕ) (i k : ℕ) → Digits ds → length ds ≤ k → number (take i ds) < 10 ^ k
number_small ds i k h l = digits_value_short numerals (take i ds) k (digits_take ds i h) (omega (arith, length-take i ds))
