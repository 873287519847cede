-- What `parse` reads of a word, in the words of the specification.
use Rattle.std.proofs.Common.{◌≡◌, ℕ, ◌^◌, ◌<◌, true, ◌&&◌, ltb, List, [], ◌∷◌, length, get_or, Some, None, Ok, Err, IsUtf8, Bor, MatchResult, Result, sym, refl, ap, ◌∙◌, inl, inr}
use Rattle.std.specs.Str.Parse.{digits_value, ParsesUnsigned}
use Rattle.std.specs.Result.{OkIff, result_ok}
use Rattle.std.specs.Str.{all_ascii_digits}
use Rattle.std.proofs.lemmas.Str.Parse.{IsNumeralModel, numerals_by_value, tells_all_ascii_digits, parse_plain}
use Rattle.std.proofs.lemmas.Fmt.{IsAscii-from_digits}
use Rattle.std.proofs.lemmas.Str.{IsUtf8-from_ascii}
use Rattle.std.proofs.lemmas.Bool.{and_parts, cases_Bool, ltb-true, lt-ltb}
use Rattle.cases.specs.Numbers.{number_of}

own : IsNumeralModel (λ ds. all_ascii_digits ds ≡ true) (digits_value 10)
own = numerals_by_value _ tells_all_ascii_digits

-- the three tests of `number_of`, and what it is where one fails
parts_of :
    (w : List ℕ) → (all_ascii_digits w && ltb 0 (length w) && ltb (digits_value 10 w) (2 ^ 64)) ≡ true
    → (all_ascii_digits w ≡ true) × (0 < length w) × (digits_value 10 w < 2 ^ 64)
parts_of w e =
    let outer = and_parts (all_ascii_digits w && ltb 0 (length w)) (ltb (digits_value 10 w) (2 ^ 64)) e in
    let inner = and_parts (all_ascii_digits w) (ltb 0 (length w)) outer.0 in
    (inner.0, ltb-true 0 (length w) inner.1, ltb-true (digits_value 10 w) (2 ^ 64) outer.1)

no_number : (w : List ℕ) → ((all_ascii_digits w ≡ true) × (0 < length w) × (digits_value 10 w < 2 ^ 64) → ⊥) → number_of w ≡ None
no_number w h =
    elim (cases_Bool (all_ascii_digits w && ltb 0 (length w) && ltb (digits_value 10 w) (2 ^ 64)))
    [ inl e ↦ absurd (h (parts_of w e)) | inr e ↦ rw e ]

from_converted :
    {E : Type 0} (w : List ℕ) (r : Result ℕ E)
    → OkIff r ((all_ascii_digits w ≡ true) × (0 < length w) × (digits_value 10 w < 2 ^ 64)) (digits_value 10 w) → result_ok r ≡ number_of w
from_converted w (Ok x) h = rw (h.0.0, lt-ltb 0 (length w) h.0.1, lt-ltb (digits_value 10 w) (2 ^ 64) h.0.2) (ap Some h.1)
from_converted w (Err e) h = sym (no_number w h)

-- what `parse` answers at a word with no sign
pub parsed :
    {E : Type 0} (w t : List ℕ) (r : Result ℕ E) → t ≡ w → (get_or w 0 0 ≡ 43 → ⊥) → ParsesUnsigned 64 10 t r
    → result_ok r ≡ number_of w
parsed w t r e ne h = from_converted w r (parse_plain own 64 w r (rw e at h) ne)

-- what is no text is no number
no_text : (w : List ℕ) → (IsUtf8 w → ⊥) → number_of w ≡ None
no_text w h = no_number w (λ p. h (IsUtf8-from_ascii w (IsAscii-from_digits w (own.to w p.0))))

-- the text of a word, and the number where there is none
pub text_of :
    {E : Type 0} (P : Type 0) (Q : E → Type 0) (w : List ℕ) (r : Result (Bor (List ℕ)) E) (t : Bor (List ℕ)) → result_ok r ≡ Some t
    → MatchResult r (λ s. (s.now ≡ w) × P) (λ e. (IsUtf8 w → ⊥) × Q e) → t.now ≡ w
text_of P Q w (Ok s) t e h = (let same : s ≡ t = cc in ap (λ (x : Bor (List ℕ)). x.now) (sym same) ∙ h.0)
text_of P Q w (Err x) t e h = cc

pub none_of :
    {E : Type 0} (P : Type 0) (Q : E → Type 0) (w : List ℕ) (r : Result (Bor (List ℕ)) E) → result_ok r ≡ None
    → MatchResult r (λ s. (s.now ≡ w) × P) (λ e. (IsUtf8 w → ⊥) × Q e) → number_of w ≡ None
none_of P Q w (Ok s) e h = cc
none_of P Q w (Err x) e h = no_text w h.0

-- a word with a sign is no number
pub signed_none : (w : List ℕ) → get_or w 0 0 ≡ 43 → number_of w ≡ None
signed_none [] e = refl
signed_none (b ∷ bs) e = rw e
