-- The lines of an input, one by one.
use Rattle.std.proofs.Common.{◌≡◌, ℕ, ◌+◌, ◌^◌, ◌<◌, ◌≤◌, ◌==◌, inl, inr, arith, List, [], ◌∷◌, ◌++◌, length, replicate, subst}
use Rattle.cases.specs.Tallies.{sum, no_cases}
use Rattle.cases.specs.declared.tally.Tally.{Tally}
use Rattle.std.proofs.lemmas.Bool.{cases_Bool}
use Rattle.lines.specs.Lines.{lines, onto_first}
use Rattle.cases_runs.specs.Reports.{name_at, counts_text}
use Rattle.cases_runs.specs.Runs.{lines_of, Steps, Runs, more, over, Reports}
use Rattle.cases_runs.proofs.Same.{same_lines}

onto_at_most : (c : ℕ) (ls : List (List ℕ)) → length (onto_first c ls) ≤ length ls + 1
onto_at_most c [] = omega arith
onto_at_most c (l ∷ ls) = omega arith

-- there are no more lines than bytes
pub lines_at_most : (bytes : List ℕ) → length (lines bytes) ≤ length bytes
lines_at_most [] = omega arith
lines_at_most (c ∷ s) = elim (cases_Bool (c == 10)) [
  | inl e ↦ rw e (omega (arith, lines_at_most s))
  | inr e ↦ rw e (omega (arith, lines_at_most s, onto_at_most c (lines s)))
]

module _ {S : Type 0} (sorts : List S) (word : S → List ℕ) (comes : S → List (List ℕ) → List ℕ → List ℕ → Type 0) where
  -- what is run from here on is run from the start
  abbrev pub Onward : ℕ → List ℕ → List Tally → List ℕ → List ℕ → List Tally → List ℕ → Type 0
  Onward number rest ts text input start_ts start_text =
      (end_ts : List Tally) (end_text : List ℕ) → Runs sorts word comes number (lines rest) ts text end_ts end_text
      → Runs sorts word comes 1 (lines input) start_ts start_text end_ts end_text

  pub begun : (count : ℕ) (rest input : List ℕ) (ts : List Tally) (text : List ℕ) → count ≡ 0 → rest ≡ input → Onward (sum count 1) rest ts text input ts text
  begun count rest input ts text none is end_ts end_text runs =
      let one : sum count 1 ≡ 1 = omega arith in
      subst (λ n. Runs sorts word comes n (lines input) ts text end_ts end_text) one
      (subst (λ r. Runs sorts word comes (sum count 1) (lines r) ts text end_ts end_text) is runs)

  pub onward :
      (i count next : ℕ) (rest first after input : List ℕ) (ts mid_ts start_ts : List Tally) (text mid_text start_text : List ℕ)
      → (lines rest ≡ first ∷ lines after) × (i ≡ count) × (next ≡ count + 1) × (i + 1 < 2 ^ 64) → Steps sorts word comes (i + 1) first ts text mid_ts mid_text
      → Onward (sum count 1) rest ts text input start_ts start_text → Onward (sum next 1) after mid_ts mid_text input start_ts start_text
  onward i count next rest first after input ts mid_ts start_ts text mid_text start_text (is, here, more_by, few) step inv end_ts end_text runs =
      let number : i + 1 ≡ sum count 1 = omega arith in
      let number_next : sum next 1 ≡ sum (i + 1) 1 = omega arith in
      let all = more (i + 1) first (lines after) ts mid_ts end_ts text mid_text end_text step
      (subst (λ n. Runs sorts word comes n (lines after) mid_ts mid_text end_ts end_text) number_next runs) in
      inv end_ts end_text (rw is (subst (λ n. Runs sorts word comes n (first ∷ lines after) ts text end_ts end_text) number all))

  -- no line is left, and the counts are printed last
  pub finished :
      (number : ℕ) (rest input : List ℕ) (ts start : List Tally) (text none report : List ℕ) → lines rest ≡ []
      → Onward number rest ts text input start none → start ≡ replicate (length sorts + 1) no_cases → none ≡ []
      → report ≡ text ++ counts_text (name_at sorts word) ts → Reports sorts word comes input report
  finished number rest input ts start text none report over_now inv fresh empty grew =
      let runs : Runs sorts word comes 1 (lines_of input) start none ts text =
      subst (λ ls. Runs sorts word comes 1 ls start none ts text) (same_lines input) (inv ts text (rw over_now (over number ts text))) in
      record {
        tallies = ts;
        text = text;
        runs = subst (λ s. Runs sorts word comes 1 (lines_of input) s [] ts text) fresh (subst (λ t. Runs sorts word comes 1 (lines_of input) start t ts text) empty runs);
        counts = grew;
      }
