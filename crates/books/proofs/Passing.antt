-- Loops that test one item after another.
use Rattle.std.proofs.Common.{◌≡◌, ℕ, List, drop}
use Rattle.books.specs.Tests.{Tested, first_refused}

-- the items from i on decide
abbrev pub Decide : {A : Type 0} → (ℕ → A → Tested) → List A → ℕ → Type 0
Decide test xs i = first_refused test i (drop i xs) ≡ first_refused test 0 xs
