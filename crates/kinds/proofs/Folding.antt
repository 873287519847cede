-- Digits that are folded into their number, each as the iterator hands it out.
use Rattle.std.proofs.Common.{◌≡◌, ℕ, ◌+◌, ◌-◌, ◌*◌, ◌^◌, ◌<◌, ◌≤◌, List, [], ◌∷◌, ◌++◌, length, get_or, take, map, sym, refl, ap, ◌∙◌, arith, Bor, Iter, length-append}
use Rattle.std.proofs.lemmas.List.{map-append, take_at}
use Rattle.std.proofs.lemmas.List.Sums.{fold_push}
use Rattle.std.proofs.Math.Seq.{get_or-append_seam}
use Rattle.std.proofs.iter.Yields.{fronts}
use Rattle.std.specs.Iterator.{Yields}
use Rattle.numbers.specs.Grammar.{Digits}
use Rattle.numbers.specs.Values.{number}
use Rattle.numbers.proofs.Digits.{digit_at, number_more, number_small}

-- the bytes that were handed out
abbrev pub seen : List (Bor ℕ) → List ℕ
seen xs = map (λ y. y.now) xs

so_far : (xs : List (Bor ℕ)) (s t : Iter ℕ) → Yields fronts s xs t → s.rest.now ≡ seen xs ++ t.rest.now
so_far [] s t e = ap (λ i. i.rest.now) e
so_far (x ∷ xs) s t (j, step, more) = step ∙ ap (λ l. x.now ∷ l) (so_far xs j t more)

pub more : (xs : List (Bor ℕ)) (x : Bor ℕ) (n m : ℕ) → n ≡ number (seen xs) → m ≡ n * 10 + (x.now - 0x30) → m ≡ number (seen (xs ++ (x ∷ [])))
more xs x n m is step =
    step ∙ ap (λ k. k * 10 + (x.now - 0x30)) is ∙ sym (fold_push (λ n d. n * 10 + (d - 0x30)) 0 (seen xs) x.now)
    ∙ ap number (sym (map-append (λ y. y.now) xs (x ∷ [])))

-- the next byte is a digit, and with it the number is still small
pub next : (digits : List ℕ) (s t u : Iter ℕ) (xs : List (Bor ℕ)) (x : Bor ℕ) (n : ℕ) → s.rest.now ≡ digits → Yields fronts s xs t → t.rest.now ≡ x.now ∷ u.rest.now
    → Digits digits → length digits ≤ 18 → n ≡ number (seen xs) → (0x30 ≤ x.now) × (n * 10 + (x.now - 0x30) < 10 ^ 18)
next digits s t u xs x n begin so turn h few is =
    let i = length (seen xs) in
    let whole : digits ≡ seen xs ++ (x.now ∷ u.rest.now) = sym begin ∙ so_far xs s t so ∙ ap (λ l. seen xs ++ l) turn in
    let below : i < length digits = omega (arith, ap length whole, length-append (seen xs) (x.now ∷ u.rest.now)) in
    let here : get_or digits i 0 ≡ x.now = ap (λ l. get_or l i 0) whole ∙ get_or-append_seam (seen xs) x.now u.rest.now 0 in
    let front : number (take i digits) ≡ n = ap (λ l. number (take i l)) whole ∙ ap number (take_at (seen xs) (x.now ∷ u.rest.now) i refl) ∙ sym is in
    let step = number_more digits i below in
    let small = number_small digits (i + 1) 18 h few in
    let digit = digit_at digits i h below in
    (omega arith, omega arith)
