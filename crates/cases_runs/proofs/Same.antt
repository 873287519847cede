-- The lines of an input by its parts are those that are taken off one by one.
use Rattle.std.proofs.Common.{◌≡◌, ℕ, ◌==◌, List, [], ◌∷◌, sym, refl, ap, ◌∙◌, inl, inr}
use Rattle.std.proofs.lemmas.Bool.{cases_Bool}
use Rattle.cases.specs.Splits.{split, grown}
use Rattle.lines.specs.Lines.{lines, onto_first}
use Rattle.cases_runs.specs.Runs.{closed_lines, lines_of}

-- one more byte at the front of the first part is one more at the front of the first line
closed_grown : (c : ℕ) (ps : List (List ℕ)) → closed_lines (grown c ps) ≡ onto_first c (closed_lines ps)
closed_grown c [] = refl
closed_grown c ([] ∷ []) = refl
closed_grown c ((b ∷ bs) ∷ []) = refl
closed_grown c (p ∷ q ∷ ps) = refl

after_grown : (c : ℕ) (ps : List (List ℕ)) → closed_lines ([] ∷ grown c ps) ≡ [] ∷ closed_lines (grown c ps)
after_grown c [] = refl
after_grown c (p ∷ ps) = refl

-- there is a part after a mark
after_mark : (bytes : List ℕ) → closed_lines ([] ∷ split 10 bytes) ≡ [] ∷ closed_lines (split 10 bytes)
after_mark [] = refl
after_mark (c ∷ s) = elim (cases_Bool (c == 10)) [
  | inl e ↦ rw e refl
  | inr e ↦ rw e (after_grown c (split 10 s))
]

pub same_lines : (bytes : List ℕ) → lines bytes ≡ lines_of bytes
same_lines [] = refl
same_lines (c ∷ s) = elim (cases_Bool (c == 10)) [
  | inl e ↦ rw e (ap (λ ls. [] ∷ ls) (same_lines s) ∙ sym (after_mark s))
  | inr e ↦ rw e (ap (onto_first c) (same_lines s) ∙ sym (closed_grown c (split 10 s)))
]
