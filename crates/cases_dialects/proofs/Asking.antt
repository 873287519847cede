-- What is told of names before masks.
use Rattle.std.proofs.Common.{◌≡◌, ℕ, List, [], ◌∷◌, drop, IfOk, Ok, Err, string_bytes, Result, String, sym, ap, ◌∙◌}
use Rattle.std.specs.declared.alloc.Global.{Global}
use Rattle.std.proofs.lemmas.List.{drop-drop}
use Rattle.fields.specs.declared.part.Part.{Part}
use Rattle.cases.specs.declared.outcome.Refused.{Refused}
use Rattle.dialects.specs.declared.fault.PatternFault.{PatternFault}
use Rattle.cases_dialects.specs.Expected.{came_of, outcome_text}
use Rattle.cases_dialects.specs.Lines.{PartsOf, RefusesOne, answered, Told, refuses, answers}

-- the bits of views that look at the files and the parts that were read
pub told_answers :
    {E : Type 0} (r : Result (String Global) E) (name_room mask_room : ℕ) (names masks text seen_names seen_masks : List ℕ)
    (name_parts mask_parts seen_name_parts seen_mask_parts : List Part)
    → PartsOf 4 name_room names name_parts → PartsOf 5 mask_room masks mask_parts
    → seen_names ≡ names → seen_name_parts ≡ name_parts → seen_masks ≡ masks → seen_mask_parts ≡ mask_parts
    → IfOk r (λ s. string_bytes s ≡ answered seen_names seen_name_parts seen_masks seen_mask_parts text)
    → IfOk r (λ s. Told name_room mask_room names masks text (string_bytes s))
told_answers (Ok s) name_room mask_room names masks text seen_names seen_masks name_parts mask_parts seen_name_parts seen_mask_parts one two a b c d is =
    answers name_parts mask_parts one two (rw (← a, ← b, ← c, ← d) is)
told_answers (Err e) name_room mask_room names masks text seen_names seen_masks name_parts mask_parts seen_name_parts seen_mask_parts one two a b c d is = tt

pub told_refusal :
    {E : Type 0} (r : Result (String Global) E) (name_room mask_room : ℕ) (names masks text : List ℕ) (e : PatternFault) (came : Result ℕ Refused)
    → RefusesOne name_room mask_room names masks e → came ≡ came_of (Err e) → IfOk r (λ s. string_bytes s ≡ outcome_text came)
    → IfOk r (λ s. Told name_room mask_room names masks text (string_bytes s))
told_refusal (Ok s) name_room mask_room names masks text e came one of is = refuses e one (is ∙ ap outcome_text of)
told_refusal (Err x) name_room mask_room names masks text e came one of is = tt

-- the same of equal bytes
pub told_same :
    (name_room mask_room : ℕ) (names masks text to_names to_masks to_text came : List ℕ) → names ≡ to_names → masks ≡ to_masks → text ≡ to_text
    → Told name_room mask_room names masks text came → Told name_room mask_room to_names to_masks to_text came
told_same name_room mask_room names masks text to_names to_masks to_text came one two three told = rw (← one, ← two, ← three) told

-- one word is left after three
pub one_left :
    (words after last left none : List (List ℕ)) (word text : List ℕ) → after ≡ drop 1 words → last ≡ drop 1 after → left ≡ drop 1 last
    → left ≡ word ∷ none → none ≡ [] → text ≡ word → drop 3 words ≡ text ∷ []
one_left words after last left none word text one two three is over same =
    sym (three ∙ ap (drop 1) (two ∙ ap (drop 1) one ∙ drop-drop 1 1 words) ∙ drop-drop 1 2 words) ∙ is ∙ rw (same, over)
