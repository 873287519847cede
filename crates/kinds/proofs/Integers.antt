-- Multiples, by the remainder of magnitudes.
use Rattle.std.proofs.Common.{◌≡◌, ℕ, ◌%◌, Bool, true, false, eqb, ℤ, nat_abs, Decides, sym, refl, ap, ◌∙◌, IsTrue, ◌↔◌}
use Rattle.std.proofs.lemmas.Bool.{eq-eqb, ne_eqb}
use Rattle.std.proofs.lemmas.Bool.Decides.{Decides-at}
use Rattle.numbers.specs.Laws.{Multiple}
use Rattle.numbers.specs.Reading.{divides}
use Rattle.numbers.proofs.Multiples.{divides_tells}

-- a test that tells whether a number is zero
pub zero_told : (r : Bool) (n : ℕ) → IsTrue r ↔ (n ≡ 0) → r ≡ eqb n 0
zero_told true n h = sym (eq-eqb n 0 (h.0 refl))
zero_told false n h = sym (ne_eqb n 0 (λ e. let z : ◌≡◌ {A = Bool} false true = h.1 e in cc))

pub by_magnitudes : (x q : ℤ) (m n : ℕ) → m ≡ nat_abs x → n ≡ nat_abs q → eqb (m % n) 0 ≡ divides x q
by_magnitudes x q m n is_m is_n = ap (λ k. eqb (k % n) 0) is_m ∙ ap (λ k. eqb (nat_abs x % k) 0) is_n

pub times_told : (x q : ℤ) (r : Bool) → r ≡ divides x q → Decides r (Multiple x q)
times_told x q r e = Decides-at r (divides x q) e (divides_tells x q)
