-- Texts of outcomes differ where the outcomes do.
use Rattle.std.proofs.Common.{◌≡◌, ℕ, zero, suc, ◌^◌, ◌<◌, List, [], ◌∷◌, ◌++◌, get_or, drop, Ok, Err, codes, decimal, Result, true, sym, refl, ap, ◌∙◌, arith}
use Rattle.std.specs.Str.{all_ascii_digits}
use Rattle.std.specs.Char.{is_ascii_digit}
use Rattle.std.proofs.lemmas.Bool.{and_parts, both_ways}
use Rattle.std.specs.Str.Parse.{digits_value}
use Rattle.std.proofs.lemmas.Str.Parse.{IsNumeralModel, numerals_by_value, tells_all_ascii_digits}
use Rattle.std.proofs.lemmas.Fmt.{digits_decimal, digits_value-decimal}
use Rattle.cases.specs.Outcomes.{refused_text}
use Rattle.cases.specs.Splits.{Free, split}
use Rattle.cases.specs.declared.outcome.Refused.{Refused}
use Rattle.cases.proofs.Splitting.{split_free, split_cut}
use Rattle.cases_dialects.specs.Expected.{outcome_text, Fitting}

own : IsNumeralModel (λ ds. all_ascii_digits ds ≡ true) (digits_value 10)
own = numerals_by_value _ tells_all_ascii_digits

decimal_same : (m n : ℕ) → m < 2 ^ 64 → n < 2 ^ 64 → decimal m ≡ decimal n → m ≡ n
decimal_same m n fits_m fits_n e = sym (digits_value-decimal own m fits_m) ∙ ap (digits_value 10) e ∙ digits_value-decimal own n fits_n

-- no blank stands in a number
digits_free : (ds : List ℕ) → all_ascii_digits ds ≡ true → Free 32 ds
digits_free [] h k within e = omega arith
digits_free (d ∷ ds) h zero within e =
    let first = rw e at (and_parts (is_ascii_digit d) (all_ascii_digits ds) h).0 in
    both_ways (is_ascii_digit 32) refl first
digits_free (d ∷ ds) h (suc k) within e = digits_free ds (and_parts (is_ascii_digit d) (all_ascii_digits ds) h).1 k (omega arith) e

free : (n : ℕ) → n < 2 ^ 64 → Free 32 (decimal n)
free n fits = digits_free (decimal n) (digits_decimal own n fits)

four :
    (a b c d : ℕ) → a < 2 ^ 64 → b < 2 ^ 64 → c < 2 ^ 64 → d < 2 ^ 64
    → split 32 (decimal a ++ (codes " " ++ (decimal b ++ (codes " " ++ (decimal c ++ (codes " " ++ decimal d))))))
    ≡ decimal a ∷ decimal b ∷ decimal c ∷ decimal d ∷ []
four a b c d fits_a fits_b fits_c fits_d =
    split_cut 32 (decimal a) _ (free a fits_a)
    ∙ ap (λ ws. decimal a ∷ ws) (split_cut 32 (decimal b) _ (free b fits_b)
    ∙ ap (λ ws. decimal b ∷ ws) (split_cut 32 (decimal c) _ (free c fits_c)
    ∙ ap (λ ws. decimal c ∷ ws) (split_free 32 (decimal d) (free d fits_d))))

four_same :
    (a b c d e f g h : List ℕ) → a ∷ b ∷ c ∷ d ∷ [] ≡ e ∷ f ∷ g ∷ h ∷ [] → (a ≡ e) × (b ≡ f) × (c ≡ g) × (d ≡ h)
four_same a b c d e f g h is = (cc, cc, cc, cc)

abbrev refusal : ℕ → ℕ → ℕ → ℕ → Refused
refusal n p c l = record { number = n; place = p; cause = c; layer = l }

same_fields : (a b c d e f g h : ℕ) → a ≡ e → b ≡ f → c ≡ g → d ≡ h → refusal a b c d ≡ refusal e f g h
same_fields a b c d e f g h one two three four = rw (one, two, three, four)

same_refused : (x y : Refused) → Fitting (Err x) → Fitting (Err y) → refused_text x ≡ refused_text y → x ≡ y
same_refused x y xs ys e =
    let words = sym (four x.number x.place x.cause x.layer xs.0 xs.1 xs.2 xs.3) ∙ ap (λ t. split 32 (drop 8 t)) e
    ∙ four y.number y.place y.cause y.layer ys.0 ys.1 ys.2 ys.3 in
    let same = four_same _ _ _ _ _ _ _ _ words in
    same_fields x.number x.place x.cause x.layer y.number y.place y.cause y.layer (decimal_same x.number y.number xs.0 ys.0 same.0)
    (decimal_same x.place y.place xs.1 ys.1 same.1) (decimal_same x.cause y.cause xs.2 ys.2 same.2) (decimal_same x.layer y.layer xs.3 ys.3 same.3)

pub apart : (a b : Result ℕ Refused) → Fitting a → Fitting b → outcome_text a ≡ outcome_text b → a ≡ b
apart (Ok m) (Ok n) fits_m fits_n e = ap Ok (decimal_same m n fits_m fits_n (ap (drop 3) e))
apart (Ok m) (Err y) fits_m fits_y e = absurd (let z : 111 ≡ 114 = ap (λ t. get_or t 0 0) e in omega arith)
apart (Err x) (Ok n) fits_x fits_n e = absurd (let z : 114 ≡ 111 = ap (λ t. get_or t 0 0) e in omega arith)
apart (Err x) (Err y) fits_x fits_y e = ap Err (same_refused x y fits_x fits_y e)
