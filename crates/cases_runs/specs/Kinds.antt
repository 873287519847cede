-- The words of the number kinds.
use Rattle.std.specs.Prelude.{◌≡◌, ℕ, List, ◌∷◌, Ok, Err, codes, Result, ◌≢◌}
use Rattle.cases.specs.declared.fault.LineFault.{LineFault}
use Rattle.cases.specs.declared.fault.LineFault.TheVariants.{Unreadable}
use Rattle.cases_runs.specs.declared.kind.NumberKind.{NumberKind}
use Rattle.cases_runs.specs.declared.kind.NumberKind.TheVariants.{Whole, Decimal}

abbrev pub kind_word : NumberKind → List ℕ
kind_word Whole = codes "whole"
kind_word Decimal = codes "decimal"

-- the first word names a kind and the others stay; a line whose next word names none can't be read
abbrev pub TakesKind : List (List ℕ) → Result NumberKind LineFault → List (List ℕ) → Type 0
TakesKind before (Ok kind) after = before ≡ kind_word kind ∷ after
TakesKind before (Err fault) after = ((kind : NumberKind) (words : List (List ℕ)) → before ≢ kind_word kind ∷ words) × (fault ≡ Unreadable)
