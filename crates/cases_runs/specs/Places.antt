-- The place of a sort, and the case that was run.
use Rattle.std.specs.Prelude.{◌≡◌, ℕ, List, Some, string_bytes}
use Rattle.std.specs.List.{slice_get}
use Rattle.cases_runs.specs.Runs.{Judged}
use Rattle.cases_runs.specs.declared.report.Ran.{Ran}

-- the lines of the sort at a place begin with this word
abbrev pub Names : {S : Type 0} → List S → (S → List ℕ) → List ℕ → ℕ → S → Type 0
Names sorts word name place sort = (slice_get sorts place ≡ Some sort) × (word sort ≡ name)

-- what was run is the case of the line
abbrev pub RanOf : {S : Type 0} → List S → (S → List ℕ) → (S → List (List ℕ) → List ℕ → List ℕ → Type 0) → List ℕ → Ran → Type 0
RanOf sorts word comes line r = Judged sorts word comes line r.place r.number (string_bytes r.case.expected) (string_bytes r.case.came)
