-- The test of magnitudes tells the multiples.
use Rattle.std.proofs.Common.{◌≡◌, ℕ, zero, suc, ◌*◌, ◌/◌, ◌%◌, ℤ, pos, negsuc, ◌*ℤ◌, neg_ℤ, nat_abs, sym, refl, ap, ◌∙◌, mul_comm, zero-mul, arith}
use native.Mathlib.Nat.{div-add-mod, mul-mod_left}
use Rattle.std.proofs.lemmas.Bool.{eqb-true, eq-eqb}
use Rattle.numbers.specs.Laws.{Multiple, DividesTells}

nat_abs_neg : (n : ℕ) → nat_abs (neg_ℤ (pos n)) ≡ n
nat_abs_neg zero = refl
nat_abs_neg (suc n) = refl

nat_abs_mul : (k q : ℤ) → nat_abs (k *ℤ q) ≡ nat_abs k * nat_abs q
nat_abs_mul (pos a) (pos b) = refl
nat_abs_mul (pos a) (negsuc b) = nat_abs_neg (a * suc b)
nat_abs_mul (negsuc a) (pos b) = nat_abs_neg (suc a * b)
nat_abs_mul (negsuc a) (negsuc b) = refl

-- magnitudes that are multiples, with signs
from_magnitudes : (x q : ℤ) (j : ℕ) → nat_abs x ≡ j * nat_abs q → Multiple x q
from_magnitudes (pos a) (pos b) j e = (pos j, ap pos e)
from_magnitudes (pos a) (negsuc b) zero e = (pos 0, ap pos (e ∙ zero-mul (suc b)) ∙ sym (ap (λ n. neg_ℤ (pos n)) (zero-mul (suc b))))
from_magnitudes (pos a) (negsuc b) (suc i) e = (negsuc i, ap pos e)
from_magnitudes (negsuc a) (pos b) zero e = absurd (omega (arith, zero-mul b))
from_magnitudes (negsuc a) (pos b) (suc i) e = (negsuc i, ap (λ n. neg_ℤ (pos n)) e)
from_magnitudes (negsuc a) (negsuc b) j e = (pos j, ap (λ n. neg_ℤ (pos n)) e)

quotient : (n m : ℕ) → n % m ≡ 0 → n ≡ n / m * m
quotient n m e = omega (arith, div-add-mod n m, mul_comm m (n / m))

pub divides_tells : DividesTells
divides_tells x q = (
  (λ e. from_magnitudes x q (nat_abs x / nat_abs q) (quotient (nat_abs x) (nat_abs q) (eqb-true _ _ e))),
  (λ m. eq-eqb _ _ (ap (λ z. nat_abs z % nat_abs q) m.1 ∙ ap (λ n. n % nat_abs q) (nat_abs_mul m.0 q) ∙ mul-mod_left (nat_abs m.0) (nat_abs q))),
)
