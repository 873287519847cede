-- What is taken off the words of a line.
use Rattle.std.specs.Prelude.{◌≡◌, ℕ, List, [], ◌∷◌, drop, Some, None, Ok, Err, vec_items, Option, Result, Vec}
use Rattle.std.specs.Borrow.{Bor}
use Rattle.std.specs.declared.alloc.Global.{Global}
use Rattle.cases.specs.Bytes.{bytes_of}
use Rattle.cases.specs.Outcomes.{number_first}
use Rattle.cases.specs.declared.fault.LineFault.{LineFault}
use Rattle.cases.specs.declared.fault.LineFault.TheVariants.{Unreadable, OutOfMemory}

-- the first word comes and the others stay; a line with no word left can't be read
abbrev pub TakesWord : List (List ℕ) → Result (Bor (List ℕ)) LineFault → List (List ℕ) → Type 0
TakesWord before (Ok word) after = before ≡ word.now ∷ after
TakesWord before (Err fault) after = (before ≡ []) × (fault ≡ Unreadable)

-- the first word comes as the number that it writes, and the others stay
abbrev pub TakesNumber : List (List ℕ) → Result ℕ LineFault → List (List ℕ) → Type 0
TakesNumber before (Ok n) after = (number_first before ≡ Some n) × (after ≡ drop 1 before)
TakesNumber before (Err fault) after = (number_first before ≡ None) × (fault ≡ Unreadable)

-- the bytes that the first word writes
abbrev pub bytes_first : List (List ℕ) → Option (List ℕ)
bytes_first [] = None
bytes_first (w ∷ ws) = bytes_of w

-- the same, as the bytes that the word writes; memory may always run out
abbrev pub TakesBytes : List (List ℕ) → Result (Vec ℕ Global) LineFault → List (List ℕ) → Type 0
TakesBytes before (Ok bytes) after = (bytes_first before ≡ Some (vec_items bytes)) × (after ≡ drop 1 before)
TakesBytes before (Err Unreadable) after = bytes_first before ≡ None
TakesBytes before (Err OutOfMemory) after = Unit {0}
