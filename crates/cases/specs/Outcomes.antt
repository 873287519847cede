-- What words spell an expected refusal, and how a refusal is written.
use Rattle.std.specs.Prelude.{◌≡◌, ℕ, List, [], ◌∷◌, ◌++◌, drop, Some, None, codes, decimal, Option, ◌≢◌}
use Rattle.cases.specs.Numbers.{number_of}
use Rattle.cases.specs.declared.outcome.Refused.{Refused}
use Rattle.faults.specs.Refusals.{layer_number}
use Rattle.faults.specs.declared.Refusal.{Refusal}

-- the number that the first word writes
abbrev pub number_first : List (List ℕ) → Option ℕ
number_first [] = None
number_first (w ∷ ws) = number_of w

-- two words are taken off as numbers; nothing comes exactly when one of them is no number
abbrev pub TakesTwo : List (List ℕ) → Option (ℕ × ℕ) → List (List ℕ) → Type 0
TakesTwo before None after = (m n : ℕ) → number_first before ≡ Some m → number_first (drop 1 before) ≢ Some n
TakesTwo before (Some p) after =
    (number_first before ≡ Some p.0) × (number_first (drop 1 before) ≡ Some p.1) × (after ≡ drop 2 before)

-- `refused NUMBER PLACE CAUSE LAYER`, and nothing more
pub record Spells (words : List (List ℕ)) (x : Refused) : Type 0 where
  pub said : words ≡ codes "refused" ∷ drop 1 words
  pub number : number_first (drop 1 words) ≡ Some x.number
  pub place : number_first (drop 2 words) ≡ Some x.place
  pub cause : number_first (drop 3 words) ≡ Some x.cause
  pub layer : number_first (drop 4 words) ≡ Some x.layer
  pub ended : drop 5 words ≡ []

-- a refusal, with the number of its cause
abbrev pub refused : Refusal → ℕ → Refused
refused x cause = record { number = x.number; place = x.place; cause = cause; layer = layer_number x.layer }

-- `refused NUMBER PLACE CAUSE LAYER`
abbrev pub refused_text : Refused → List ℕ
refused_text x =
    codes "refused " ++ (decimal x.number ++ (codes " " ++ (decimal x.place ++ (codes " "
    ++ (decimal x.cause ++ (codes " " ++ decimal x.layer))))))
