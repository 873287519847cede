-- What the program prints: a line for each text, with the numbers of the patterns that match it.
use Rattle.std.specs.Prelude.{ℕ, zero, suc, Bool, cond, List, [], ◌∷◌, ◌++◌, codes, decimal}
use Rattle.std.specs.List.{flat_map}
use Rattle.lines.specs.Lines.{lines}

-- the numbers below n that pass a test, in ascending order
abbrev pub passing : (ℕ → Bool) → ℕ → List ℕ
passing test zero = []
passing test (suc n) = passing test n ++ cond (test n) (n ∷ []) []

-- each number after a blank; a word where there is none
abbrev pub numbers_shown : List ℕ → List ℕ
numbers_shown [] = codes " none"
numbers_shown (n ∷ ns) = flat_map (λ k. 32 ∷ decimal k) (n ∷ ns)

-- the line of a text: the text, a colon, the numbers
abbrev pub line : List ℕ → List ℕ → List ℕ
line text numbers = text ++ (58 ∷ numbers_shown numbers ++ 10 ∷ [])

-- what is printed, when patterns up to a count are asked for by a test on a number and a text
abbrev pub report : ℕ → (ℕ → List ℕ → Bool) → List ℕ → List ℕ
report count test input = flat_map (λ text. line text (passing (λ k. test k text) count)) (lines input)
