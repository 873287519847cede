-- What a report says of the lines that were run.
use Rattle.std.specs.Prelude.{ℕ, suc, List, [], ◌∷◌, ◌++◌, Some, None, codes, decimal, Option}
use Rattle.std.specs.List.{slice_get, fold}
use Rattle.cases.specs.Tallies.{no_cases, together, tally_line}
use Rattle.cases.specs.declared.tally.Tally.{Tally}

module _ {S : Type 0} where
  -- a sort's word; the lines that can't be read stand where no sort does
  abbrev pub word_or_unread : (S → List ℕ) → Option S → List ℕ
  word_or_unread word None = codes "unread"
  word_or_unread word (Some sort) = word sort

  -- what the place of a tally is called
  abbrev pub name_at : List S → (S → List ℕ) → ℕ → List ℕ
  name_at sorts word place = word_or_unread word (slice_get sorts place)

-- `NAME: N cases, M differ`
abbrev pub count_line : List ℕ → Tally → List ℕ
count_line name t = name ++ (codes ": " ++ (tally_line t ++ codes "\n"))

-- such a line for each tally, by its place
abbrev pub count_lines : (ℕ → List ℕ) → ℕ → List Tally → List ℕ
count_lines name place [] = []
count_lines name place (t ∷ ts) = count_line (name place) t ++ count_lines name (suc place) ts

-- all the cases
abbrev pub total : List Tally → Tally
total ts = fold together no_cases ts

-- a line for each sort, and last the line of them all
abbrev pub counts_text : (ℕ → List ℕ) → List Tally → List ℕ
counts_text name ts = count_lines name 0 ts ++ (tally_line (total ts) ++ codes "\n")

-- `SORT NUMBER: expected .., came ..`
abbrev pub differing_line : List ℕ → ℕ → List ℕ → List ℕ → List ℕ
differing_line name number expected came =
    name ++ (codes " " ++ (decimal number ++ (codes ": expected " ++ (expected ++ (codes ", came " ++ (came ++ codes "\n"))))))

abbrev pub unread_line : ℕ → List ℕ
unread_line number = codes "line " ++ (decimal number ++ codes " can't be read\n")
