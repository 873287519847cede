-- The bits of a range of numbers.
use Rattle.std.proofs.Common.{◌≡◌, ℕ, zero, suc, ◌+◌, Bool, true, false, cond, [], ◌∷◌, ◌++◌, map, IfOk, Ok, Err, Result, String, string_bytes, refl, ap, ◌∙◌, arith}
use Rattle.std.specs.List.{range_with_len}
use Rattle.std.proofs.Math.Utf8.{encode, encodes}
use Rattle.std.proofs.lemmas.List.{map-append}
use Rattle.std.proofs.lemmas.Str.{encodes-append}
use Rattle.cases_dialects.specs.Bits.{bits}

range_more : (a n : ℕ) → range_with_len a (suc n) ≡ range_with_len a n ++ ((a + n) ∷ [])
range_more a zero = ap (λ x. x ∷ []) (omega arith)
range_more a (suc n) = ap (λ xs. a ∷ xs) (range_more (a + 1) n ∙ ap (λ x. range_with_len (a + 1) n ++ (x ∷ [])) (omega arith))

one_bit : (b : Bool) → encodes (cond b 49 48 ∷ []) ≡ cond b 49 48 ∷ []
unfolding encode
one_bit true = refl
one_bit false = refl

pub bits_are : (says : ℕ → Bool) (n : ℕ) → encodes (map (λ k. cond (says k) 49 48) (range_with_len 0 n)) ≡ bits says n
bits_are says zero = refl
bits_are says (suc n) =
    let bit : ℕ → ℕ = λ k. cond (says k) 49 48 in
    ap (λ xs. encodes (map bit xs)) (range_more 0 n ∙ ap (λ x. range_with_len 0 n ++ (x ∷ [])) (omega arith)) ∙ ap encodes (map-append bit (range_with_len 0 n) (n ∷ []))
    ∙ encodes-append (map bit (range_with_len 0 n)) (bit n ∷ []) ∙ ap (λ t. t ++ encodes (bit n ∷ [])) (bits_are says n)
    ∙ ap (λ t. bits says n ++ t) (one_bit (says n))

pub as_bits :
    {Z E : Type 0} (r : Result (String Z) E) (says : ℕ → Bool) (n : ℕ)
    → IfOk r (λ w. string_bytes w ≡ encodes (map (λ k. cond (says k) 49 48) (range_with_len 0 n))) → IfOk r (λ w. string_bytes w ≡ bits says n)
as_bits (Ok w) says n is = is ∙ bits_are says n
as_bits (Err e) says n is = tt
