-- What is noted of a line.
use Rattle.std.proofs.Common.{◌≡◌, ℕ, Bool, true, not, List, ◌++◌, Decides, ap, ◌∙◌}
use Rattle.std.proofs.lemmas.Bool.{both_ways}
use Rattle.cases.specs.declared.tally.Tally.{Tally}
use Rattle.cases_runs.specs.Reports.{name_at, differing_line}
use Rattle.cases_runs.specs.Runs.{counted_at, Notes, differing}

-- a case that differs is counted and told of
pub noted :
    {S : Type 0} (sorts : List S) (word : S → List ℕ) (comes : S → List (List ℕ) → List ℕ → List ℕ → Type 0) (place number : ℕ)
    (expected came : List ℕ) (ts now_ts : List Tally) (text now_text : List ℕ) (differs : Bool) (name e c : List ℕ)
    → differs ≡ true → Decides (not differs) (expected ≡ came) → now_ts ≡ counted_at ts place differs
    → name ≡ name_at sorts word place → e ≡ expected → c ≡ came → now_text ≡ text ++ differing_line name number e c
    → Notes sorts word comes place number expected came ts text now_ts now_text
noted sorts word comes place number expected came ts now_ts text now_text differs name e c taken decides counts named is-e is_c grew =
    differing (λ alike. both_ways (not differs) (ap not taken) (decides.1 alike)) (counts ∙ ap (counted_at ts place) taken)
    (grew ∙ ap (λ (t : List ℕ). text ++ t) (rw (named, is-e, is_c)))
