-- What states no outcome.
use Rattle.std.proofs.Common.{◌≡◌, ℕ, List, drop, Some, None, MatchOption, Option, Result, subst, ap, ◌∙◌}
use Rattle.std.proofs.lemmas.List.{drop-drop}
use Rattle.cases.specs.declared.outcome.Refused.{Refused}
use Rattle.cases_dialects.specs.Expected.{Expects}

-- the outcome that the words after two state
pub stated :
    (words after left : List (List ℕ)) (r : Option (Result ℕ Refused)) (x : Result ℕ Refused) → after ≡ drop 1 words → left ≡ drop 1 after
    → MatchOption r ((y : Result ℕ Refused) → Expects left y → ⊥) (Expects left) → r ≡ Some x → Expects (drop 2 words) x
stated words after left None x one two h is = cc
stated words after left (Some y) x one two h is =
    let same : y ≡ x = cc in
    subst (λ ws. Expects ws x) (two ∙ ap (drop 1) one ∙ drop-drop 1 1 words) (rw same at h)
