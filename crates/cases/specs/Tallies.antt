-- How cases are counted, and the line of the count.
use Rattle.std.specs.Prelude.{ℕ, ◌+◌, ◌-◌, ◌^◌, min, Bool, cond, List, ◌++◌, codes, decimal}
use Rattle.cases.specs.declared.tally.Tally.{Tally}

-- a sum that stays at the largest number of 64 bits
abbrev pub sum : ℕ → ℕ → ℕ
sum a b = min (a + b) (2 ^ 64 - 1)

abbrev pub no_cases : Tally
no_cases = record { cases = 0; differing = 0 }

-- one case more
abbrev pub counted : Tally → Bool → Tally
counted t differs = record { cases = sum t.cases 1; differing = cond differs (sum t.differing 1) t.differing }

abbrev pub together : Tally → Tally → Tally
together a b = record { cases = sum a.cases b.cases; differing = sum a.differing b.differing }

-- `N cases, M differ`
abbrev pub tally_line : Tally → List ℕ
tally_line t = decimal t.cases ++ (codes " cases, " ++ (decimal t.differing ++ codes " differ"))
