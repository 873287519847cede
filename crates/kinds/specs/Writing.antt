-- What writing to lent memory comes to.
use Rattle.std.specs.Prelude.{◌≡◌, ℕ, ◌<◌, ◌≤◌, List, ◌++◌, length, drop, Some, None, Option}

-- bytes stand at the front of the memory and the rest is as it was; or there is no room for them, and nothing changed
abbrev pub Written : List ℕ → List ℕ → List ℕ → Option ℕ → Type 0
Written bytes old new (Some n) = (n ≡ length bytes) × (n ≤ length old) × (new ≡ bytes ++ drop n old)
Written bytes old new None = (length old < length bytes) × (new ≡ old)
