-- One line of counts more.
use Rattle.std.proofs.Common.{◌≡◌, ℕ, ◌+◌, ◌<◌, ◌≤◌, List, ◌++◌, length, get_or, drop, sym, refl, ap, ◌∙◌, add-one}
use Rattle.std.proofs.lemmas.List.{append_assoc, append-nil, drop_more, drop_all}
use Rattle.cases.specs.declared.tally.Tally.{Tally}
use Rattle.cases_runs.specs.Reports.{count_line, count_lines}

pub lines_more :
    (name : ℕ → List ℕ) (text called now whole : List ℕ) (none : Tally) (ts : List Tally) (i : ℕ) → i < length ts → called ≡ name i
    → now ≡ text ++ count_line called (get_or ts i none)
    → text ++ count_lines name i (drop i ts) ≡ whole → now ++ count_lines name (i + 1) (drop (i + 1) ts) ≡ whole
lines_more name text called now whole none ts i h named grew inv =
    let line : List ℕ = count_line called (get_or ts i none) in
    let step : count_lines name i (drop i ts) ≡ line ++ count_lines name (i + 1) (drop (i + 1) ts) =
    rw (named, add-one i) (ap (count_lines name i) (drop_more ts i none h) ∙ rw (add-one i) refl) in
    rw (grew, append_assoc text line (count_lines name (i + 1) (drop (i + 1) ts))) (ap (λ t. text ++ t) (sym step) ∙ inv)

pub lines_done :
    (name : ℕ → List ℕ) (text whole : List ℕ) (ts : List Tally) (i : ℕ) → length ts ≤ i
    → text ++ count_lines name i (drop i ts) ≡ whole → text ≡ whole
lines_done name text whole ts i h inv = sym (append-nil text) ∙ ap (λ t. text ++ t) (sym (ap (count_lines name i) (drop_all i ts h))) ∙ inv
