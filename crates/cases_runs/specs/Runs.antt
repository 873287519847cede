-- What a run of lines comes to.
use Rattle.std.specs.Prelude.{◌≡◌, ℕ, ◌+◌, Bool, true, false, List, [], ◌∷◌, ◌++◌, length, drop, replicate, Some, ◌≢◌, slice_index, slice_index_or, slice_set}
use Rattle.std.specs.List.{slice_get}
use Rattle.cases.specs.Splits.{split}
use Rattle.cases.specs.Tallies.{sum, no_cases, counted}
use Rattle.cases.specs.declared.tally.Tally.{Tally}
use Rattle.cases.specs.Outcomes.{number_first}
use Rattle.cases_runs.specs.Reports.{name_at, counts_text, differing_line, unread_line}

-- the last part of an input is a line unless it is empty
abbrev pub last_line : List ℕ → List (List ℕ)
last_line [] = []
last_line (b ∷ bs) = (b ∷ bs) ∷ []

abbrev pub closed_lines : List (List ℕ) → List (List ℕ)
closed_lines [] = []
closed_lines (p ∷ []) = last_line p
closed_lines (p ∷ q ∷ ps) = p ∷ closed_lines (q ∷ ps)

-- the lines of an input, each closed by byte 10; the last may be open
abbrev pub lines_of : List ℕ → List (List ℕ)
lines_of input = closed_lines (split 10 input)

-- a remark begins with `#`
abbrev pub Remark : List ℕ → Type 0
Remark line = slice_index line 0 ≡ 35

-- one case more at a place
abbrev pub counted_at : List Tally → ℕ → Bool → List Tally
counted_at ts place differs = slice_set ts place (counted (slice_index_or ts place no_cases) differs)

-- a line that can't be read is counted as one that differs, after the sorts, and printed
abbrev pub NotesUnread : ℕ → ℕ → List Tally → List ℕ → List Tally → List ℕ → Type 0
NotesUnread place number ts text now_ts now_text = (now_ts ≡ counted_at ts place true) × (now_text ≡ text ++ unread_line number)

-- A program's sorts of case, in the order of its report; their words; and what is expected and what comes, of the words after the tag.
module _ {S : Type 0} (sorts : List S) (word : S → List ℕ) (comes : S → List (List ℕ) → List ℕ → List ℕ → Type 0) where
  -- the case of a line, `SORT NUMBER TAG ..`: what it expects and what comes
  pub record Judged (line : List ℕ) (place number : ℕ) (expected came : List ℕ) : Type 0 where
    pub sort : S
    pub placed : slice_get sorts place ≡ Some sort
    pub named : split 32 line ≡ word sort ∷ drop 1 (split 32 line)
    pub numbered : number_first (drop 1 (split 32 line)) ≡ Some number
    pub ran : comes sort (drop 3 (split 32 line)) expected came

  -- a case is counted, and printed where it differs
  pub data Notes (place number : ℕ) (expected came : List ℕ) (ts : List Tally) (text : List ℕ) (now_ts : List Tally) (now_text : List ℕ) : Type 0 where
    alike : expected ≡ came → now_ts ≡ counted_at ts place false → now_text ≡ text → Notes place number expected came ts text now_ts now_text
    differing : (expected ≢ came) → now_ts ≡ counted_at ts place true → now_text ≡ text ++ differing_line (name_at sorts word place) number expected came →
        Notes place number expected came ts text now_ts now_text

  -- A line leads from tallies and a text to others. A remark changes nothing.
  pub data Steps (number : ℕ) (line : List ℕ) (ts : List Tally) (text : List ℕ) (now_ts : List Tally) (now_text : List ℕ) : Type 0 where
    remark : Remark line → now_ts ≡ ts → now_text ≡ text → Steps number line ts text now_ts now_text
    judged : (Remark line → ⊥) → (place n : ℕ) (expected came : List ℕ) → Judged line place n expected came →
        Notes place n expected came ts text now_ts now_text → Steps number line ts text now_ts now_text
    unread : (Remark line → ⊥) → NotesUnread (length sorts) number ts text now_ts now_text → Steps number line ts text now_ts now_text

  -- lines, from this line number on
  pub data Runs : ℕ → List (List ℕ) → List Tally → List ℕ → List Tally → List ℕ → Type 0 where
    over : (number : ℕ) (ts : List Tally) (text : List ℕ) → Runs number [] ts text ts text
    more : (number : ℕ) (line : List ℕ) (lines : List (List ℕ)) (ts mid_ts end_ts : List Tally) (text mid_text end_text : List ℕ) →
        Steps number line ts text mid_ts mid_text → Runs (sum number 1) lines mid_ts mid_text end_ts end_text → Runs number (line ∷ lines) ts text end_ts end_text

  -- all lines are run one after another, from these tallies on, and then the counts are printed
  pub record ReportsFrom (start : List Tally) (input report : List ℕ) : Type 0 where
    pub tallies : List Tally
    pub text : List ℕ
    pub runs : Runs 1 (lines_of input) start [] tallies text
    pub counts : report ≡ text ++ counts_text (name_at sorts word) tallies

  -- the report of an input: there is a tally for each sort, and one more for the lines that can't be read
  abbrev pub Reports : List ℕ → List ℕ → Type 0
  Reports input report = ReportsFrom (replicate (length sorts + 1) no_cases) input report
