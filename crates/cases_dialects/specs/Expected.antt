-- What words state an outcome, what outcome a reading comes to, and how it is written.
use Rattle.std.specs.Prelude.{◌≡◌, ℕ, ◌^◌, ◌<◌, List, [], ◌∷◌, ◌++◌, drop, Some, Ok, Err, codes, decimal, Result}
use Rattle.cases.specs.Outcomes.{number_first, Spells, refused, refused_text}
use Rattle.cases.specs.declared.outcome.Refused.{Refused}
use Rattle.dialects.specs.Faults.{refusal_of}
use Rattle.dialects.specs.declared.fault.PatternFault.{PatternFault}

-- `ok COUNT`, and nothing more
pub record States (words : List (List ℕ)) (count : ℕ) : Type 0 where
  pub said : words ≡ codes "ok" ∷ drop 1 words
  pub number : number_first (drop 1 words) ≡ Some count
  pub ended : drop 2 words ≡ []

abbrev pub Expects : List (List ℕ) → Result ℕ Refused → Type 0
Expects words (Ok n) = States words n
Expects words (Err x) = Spells words x

-- no pattern's refusal has a cause
abbrev pub came_of : Result ℕ PatternFault → Result ℕ Refused
came_of (Ok n) = Ok n
came_of (Err e) = Err (refused (refusal_of e) 0)

-- the words of an outcome
abbrev pub outcome_text : Result ℕ Refused → List ℕ
outcome_text (Ok n) = codes "ok " ++ decimal n
outcome_text (Err x) = refused_text x

-- each number of an outcome fits 64 bits
abbrev pub Fitting : Result ℕ Refused → Type 0
Fitting (Ok n) = n < 2 ^ 64
Fitting (Err x) = (x.number < 2 ^ 64) × (x.place < 2 ^ 64) × (x.cause < 2 ^ 64) × (x.layer < 2 ^ 64)
