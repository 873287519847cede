-- What the lines of an input are.
use Rattle.std.specs.Prelude.{◌≡◌, ℕ, ◌<◌, cond, List, [], ◌∷◌, length, ◌==◌}

-- one more byte at the front of the first line
abbrev pub onto_first : ℕ → List (List ℕ) → List (List ℕ)
onto_first c [] = (c ∷ []) ∷ []
onto_first c (l ∷ ls) = (c ∷ l) ∷ ls

-- the lines of an input: byte 10 closes a line, and the last may lack it
abbrev pub lines : List ℕ → List (List ℕ)
lines [] = []
lines (c ∷ s) = cond (c == 10) ([] ∷ lines s) (onto_first c (lines s))

-- a line, and what comes after it
abbrev pub FirstLine : (bytes first rest : List ℕ) → Type 0
FirstLine bytes first rest = (lines bytes ≡ first ∷ lines rest) × (length rest < length bytes)
