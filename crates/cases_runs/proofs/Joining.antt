-- Words parted by a mark, put together again one by one.
use Rattle.std.proofs.Common.{◌≡◌, ℕ, List, [], ◌∷◌, ◌++◌, sym, ap, ◌∙◌, append_assoc}
use Rattle.std.proofs.lemmas.List.{append-nil}
use Rattle.cases.specs.Splits.{joined_by}

-- words with a mark before each
abbrev pub marked : ℕ → List (List ℕ) → List ℕ
marked mark [] = []
marked mark (p ∷ ps) = mark ∷ (p ++ marked mark ps)

joined_is : (mark : ℕ) (p : List ℕ) (ps : List (List ℕ)) → joined_by mark (p ∷ ps) ≡ p ++ marked mark ps
joined_is mark p [] = sym (append-nil p)
joined_is mark p (q ∷ ps) = ap (λ l. p ++ (mark ∷ l)) (joined_is mark q ps)

pub first_word : (mark : ℕ) (text p : List ℕ) (ps all : List (List ℕ)) → all ≡ p ∷ ps → text ≡ p → text ++ marked mark ps ≡ joined_by mark all
first_word mark text p ps all is now = ap (λ t. t ++ marked mark ps) now ∙ sym (joined_is mark p ps) ∙ ap (joined_by mark) (sym is)

pub next_word : (mark : ℕ) (text mid now p whole : List ℕ) (left ps : List (List ℕ)) → left ≡ p ∷ ps → mid ≡ text ++ (mark ∷ []) → now ≡ mid ++ p
    → text ++ marked mark left ≡ whole → now ++ marked mark ps ≡ whole
next_word mark text mid now p whole left ps is blank word inv =
    ap (λ t. t ++ marked mark ps) (word ∙ ap (λ t. t ++ p) blank) ∙ regroup text (mark ∷ []) p (marked mark ps)
    ∙ ap (λ l. text ++ marked mark l) (sym is) ∙ inv
  where
    regroup : (a b c d : List ℕ) → ((a ++ b) ++ c) ++ d ≡ a ++ (b ++ (c ++ d))
    regroup a b c d = simp append_assoc
