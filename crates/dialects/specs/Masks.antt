-- What a mask matches: `*` stands for any run of bytes, also none, `?` for any one byte, every other byte for itself.
use Rattle.std.specs.Prelude.{ℕ, Bool, true, false, cond, ◌&&◌, ◌||◌, List, [], ◌∷◌, ◌==◌}

abbrev pub star : ℕ
star = 42

abbrev pub any_byte : ℕ
any_byte = 63

abbrev pub is_empty : List ℕ → Bool
is_empty [] = true
is_empty (c ∷ s) = false

-- the string, or what is left of it without some of its first bytes, passes the test
abbrev pub some_tail : (List ℕ → Bool) → List ℕ → Bool
some_tail test [] = test []
some_tail test (c ∷ s) = test (c ∷ s) || some_tail test s

-- the string begins with a byte that m stands for, and the rest passes the test
abbrev pub byte_then : ℕ → (List ℕ → Bool) → List ℕ → Bool
byte_then m test [] = false
byte_then m test (c ∷ s) = (m == any_byte || m == c) && test s

abbrev pub mask_holds : List ℕ → List ℕ → Bool
mask_holds [] s = is_empty s
mask_holds (m ∷ mask) s = cond (m == star) (some_tail (mask_holds mask) s) (byte_then m (mask_holds mask) s)
