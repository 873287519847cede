-- Words that spell no refusal.
use Rattle.std.proofs.Common.{◌≡◌, ℕ, List, drop, Some, ap, ◌∙◌}
use Rattle.std.proofs.lemmas.List.{drop-drop}
use Rattle.cases.specs.Outcomes.{number_first, Spells}
use Rattle.cases.specs.declared.outcome.Refused.{Refused}

-- the number or the place is none
pub no_place :
    (words left : List (List ℕ)) → left ≡ drop 1 words
    → ((m n : ℕ) → number_first left ≡ Some m → number_first (drop 1 left) ≡ Some n → ⊥) → (x : Refused) → Spells words x → ⊥
no_place words left is none x spells =
    none x.number x.place (ap number_first is ∙ spells.number)
    (ap number_first (ap (drop 1) is ∙ drop-drop 1 1 words) ∙ spells.place)

-- the cause or the layer is none
pub no_layer :
    (words left last : List (List ℕ)) → left ≡ drop 1 words → last ≡ drop 2 left
    → ((m n : ℕ) → number_first last ≡ Some m → number_first (drop 1 last) ≡ Some n → ⊥) → (x : Refused) → Spells words x → ⊥
no_layer words left last is then none x spells =
    let at : last ≡ drop 3 words = then ∙ ap (drop 2) is ∙ drop-drop 2 1 words in
    none x.cause x.layer (ap number_first at ∙ spells.cause)
    (ap number_first (ap (drop 1) at ∙ drop-drop 1 3 words) ∙ spells.layer)
