-- The parts of bytes, and a cut at the first mark.
use Rattle.std.proofs.Common.{◌≡◌, ℕ, zero, suc, ◌<◌, List, [], ◌∷◌, ◌++◌, length, get_or, refl, ap, ◌∙◌, inl, inr, arith}
use Rattle.std.proofs.lemmas.Bool.{ne_eqb, eq-eqb, cases_eq}
use Rattle.cases.specs.Splits.{Free, Parted, grown, split}

free_tail : (mark b : ℕ) (bs : List ℕ) → Free mark (b ∷ bs) → Free mark bs
free_tail mark b bs f = λ k h e. f (suc k) (omega arith) e

free_more : (mark b : ℕ) (bs : List ℕ) → (b ≡ mark → ⊥) → Free mark bs → Free mark (b ∷ bs)
free_more mark b bs ne f zero h e = ne e
free_more mark b bs ne f (suc k) h e = f k (omega arith) e

-- bytes without a mark are one part
pub split_free : (mark : ℕ) (bs : List ℕ) → Free mark bs → split mark bs ≡ bs ∷ []
split_free mark [] f = refl
split_free mark (b ∷ bs) f = rw (ne_eqb b mark (f 0 (omega arith)), split_free mark bs (free_tail mark b bs f))

-- what stands before the first mark is the first part
pub split_cut : (mark : ℕ) (p q : List ℕ) → Free mark p → split mark (p ++ (mark ∷ q)) ≡ p ∷ split mark q
split_cut mark [] q f = rw (eq-eqb mark mark refl)
split_cut mark (b ∷ p) q f = rw (ne_eqb b mark (f 0 (omega arith)), split_cut mark p q (free_tail mark b p f))

begun : (mark : ℕ) (bs : List ℕ) (ps : List (List ℕ)) → Parted mark bs ps → Parted mark (mark ∷ bs) ([] ∷ ps)
begun mark bs [] law = absurd (let h : 0 < 0 = law.some in omega arith)
begun mark bs (p ∷ ps) law = record {
  some = omega arith;
  joined = ap (λ (x : List ℕ). mark ∷ x) law.joined;
  free = first;
}
  where
    first : (k : ℕ) → k < length ([] ∷ p ∷ ps) → Free mark (get_or ([] ∷ p ∷ ps) k [])
    first zero h = λ j g e. omega arith
    first (suc k) h = law.free k (omega arith)

grow_first :
    (mark b : ℕ) (p : List ℕ) (ps : List (List ℕ)) → (b ≡ mark → ⊥)
    → ((k : ℕ) → k < length (p ∷ ps) → Free mark (get_or (p ∷ ps) k []))
    → (k : ℕ) → k < length ((b ∷ p) ∷ ps) → Free mark (get_or ((b ∷ p) ∷ ps) k [])
grow_first mark b p ps ne free zero h = free_more mark b p ne (free 0 (omega arith))
grow_first mark b p ps ne free (suc k) h = free (suc k) h

grew : (mark b : ℕ) (bs : List ℕ) (ps : List (List ℕ)) → (b ≡ mark → ⊥) → Parted mark bs ps → Parted mark (b ∷ bs) (grown b ps)
grew mark b bs [] ne law = absurd (let h : 0 < 0 = law.some in omega arith)
grew mark b bs (p ∷ []) ne law = record {
  some = omega arith;
  joined = ap (λ (x : List ℕ). b ∷ x) law.joined;
  free = grow_first mark b p [] ne law.free;
}
grew mark b bs (p ∷ q ∷ ps) ne law = record {
  some = omega arith;
  joined = ap (λ (x : List ℕ). b ∷ x) law.joined;
  free = grow_first mark b p (q ∷ ps) ne law.free;
}

-- the parts that `split` gives keep the law
pub split_parted : (mark : ℕ) (bs : List ℕ) → Parted mark bs (split mark bs)
split_parted mark [] = record { some = omega arith; joined = refl; free = only }
  where
    only : (k : ℕ) → k < 1 → Free mark (get_or ([] ∷ []) k [])
    only zero h = λ j g e. omega arith
    only (suc k) h = λ j g e. omega arith
split_parted mark (b ∷ bs) = elim (cases_eq b mark) [
  | inl e ↦ rw (eq-eqb b mark e, e) (begun mark bs (split mark bs) (split_parted mark bs))
  | inr ne ↦ rw (ne_eqb b mark ne) (grew mark b bs (split mark bs) ne (split_parted mark bs))
]

-- the parts of what is cut
pub split_at : (mark : ℕ) (xs p q : List ℕ) → (xs ≡ p ++ (mark ∷ q)) × Free mark p → split mark xs ≡ p ∷ split mark q
split_at mark xs p q (is, free) = ap (split mark) is ∙ split_cut mark p q free
