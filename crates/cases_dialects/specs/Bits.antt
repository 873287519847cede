-- Answers as bits.
use Rattle.std.specs.Prelude.{ℕ, zero, suc, Bool, cond, List, [], ◌∷◌, ◌++◌}

-- `1` for yes and `0` for no, of each number below n
abbrev pub bits : (ℕ → Bool) → ℕ → List ℕ
bits says zero = []
bits says (suc n) = bits says n ++ (cond (says n) 49 48 ∷ [])
