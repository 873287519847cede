-- The digits after a point, counted in millionths and written again.
use Rattle.std.proofs.Common.{◌≡◌, ℕ, ◌-◌, ◌*◌, ◌^◌, ◌<◌, ◌≤◌, List, [], ◌∷◌, length, take, refl, arith}
use Rattle.numbers.specs.Grammar.{Digits}
use Rattle.numbers.specs.Values.{number}
use Rattle.numbers.specs.Reading.{six_digits}

-- digits after the point as millionths
abbrev pub millionths_of : List ℕ → ℕ
millionths_of ds = number ds * 10 ^ (6 - length ds)

both : {x y : ℕ} {xs ys : List ℕ} → x ≡ y → xs ≡ ys → x ∷ xs ≡ y ∷ ys
both p q = cc

-- they are less than a million, and the first of the six digits are those
pub record Six (ds : List ℕ) : Type 0 where
  pub less : millionths_of ds < 10 ^ 6
  pub again : take (length ds) (six_digits (millionths_of ds)) ≡ ds

pub six : (ds : List ℕ) → Digits ds → length ds ≤ 6 → Six ds
six [] h l = record { less = omega arith; again = refl }
six (a ∷ []) h l = record { less = omega arith; again = both (omega arith) refl }
six (a ∷ b ∷ []) h l = record { less = omega arith; again = both (omega arith) (both (omega arith) refl) }
six (a ∷ b ∷ c ∷ []) h l = record { less = omega arith; again = both (omega arith) (both (omega arith) (both (omega arith) refl)) }
six (a ∷ b ∷ c ∷ d ∷ []) h l = record { less = omega arith; again = both (omega arith) (both (omega arith) (both (omega arith) (both (omega arith) refl))) }
six (a ∷ b ∷ c ∷ d ∷ e ∷ []) h l = record { less = omega arith; again = both (omega arith) (both (omega arith) (both (omega arith) (both (omega arith) (both (omega arith) refl)))) }
six (a ∷ b ∷ c ∷ d ∷ e ∷ f ∷ []) h l = record { less = omega arith; again = both (omega arith) (both (omega arith) (both (omega arith) (both (omega arith) (both (omega arith) (both (omega arith) refl))))) }
six (a ∷ b ∷ c ∷ d ∷ e ∷ f ∷ g ∷ gs) h l = absurd (omega arith)
