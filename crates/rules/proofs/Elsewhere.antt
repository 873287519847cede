-- A change at one node is seen only there and above.
use Rattle.std.proofs.Common.{◌≡◌, ℕ, zero, suc, ◌-◌, ◌<◌, ◌≤◌, ◌≢◌, ◌⊎◌, List, [], ◌∷◌, length, set, sym, refl, ap, ◌∙◌, subst, inl, inr, ⊎_elim, arith, length-set, get_or-set_other}
use Rattle.std.specs.List.{AllByRecursion}
use Rattle.std.proofs.ByRecursion.{All-weaker}
use Rattle.std.proofs.lemmas.Bool.{cases_eq}
use Rattle.rules.specs.Value.{◌∈◌, first, later, Shape, null, PartsAfter, parts, shape_at, HoldsNode, itself, within}
use Rattle.rules.specs.Book.{row_at, operands, needs}
use Rattle.rules.proofs.Founded.{founded}
use Rattle.rules.specs.Meaning.{value_at, tells}
use Rattle.rules.specs.Theorems.{StaysElsewhere, Renews}
use Rattle.rules.proofs.Guard.{all_in, all_each}
use Rattle.rules.proofs.Descent.{descent, inside}
use Rattle.rules.proofs.Agree.{says_same}

pub stays_elsewhere : (K : Type 0) → StaysElsewhere K
stays_elsewhere K world limits book V W x leaf after sealed v w =
    descent book (founded sealed) world.doc after (λ r n. (HoldsNode world.doc n x → ⊥) → V r n ≡ W r n)
    (λ r n h hn here below apart.
    let other : n ≢ x = λ e. apart (subst (λ k. HoldsNode world.doc n k) e itself) in
    let same : shape_at (set world.doc x leaf) n ≡ shape_at world.doc n = get_or-set_other world.doc x n leaf null other in
    v r n h hn
    ∙ says_same world book V W n (row_at book r)
    (All-weaker (λ o. (HoldsNode world.doc n x → ⊥) → V o n ≡ W o n) _ (λ o k. k apart) (needs book (row_at book r)) here)
    (All-weaker (λ o. AllByRecursion (λ m. (HoldsNode world.doc m x → ⊥) → V o m ≡ W o m) (parts (value_at world n))) (λ o. AllByRecursion (λ m. V o m ≡ W o m) (parts (value_at world n)))
    (λ o all. all_each (λ m. V o m ≡ W o m) (parts (value_at world n))
    (λ m i. all_in (λ m. (HoldsNode world.doc m x → ⊥) → V o m ≡ W o m) (parts (value_at world n)) all i (λ up. apart (within i up))))
    (operands (row_at book r)) below)
    ∙ ap (λ s. tells world book W (row_at book r) n s) (sym same)
    ∙ sym (w r n h (rw length-set hn)))

-- whether a node holds x can be told
module _ {K : Type 0} (doc : List (Shape K)) (x : ℕ) where
  some_part : (ms : List ℕ) → AllByRecursion (λ m. HoldsNode doc m x ⊎ (HoldsNode doc m x → ⊥)) ms →
      ((m : ℕ) × (m ∈ ms) × HoldsNode doc m x) ⊎ ((m : ℕ) → m ∈ ms → HoldsNode doc m x → ⊥)
  some_part [] h = inr (λ m i. elim i [ ])
  some_part (m ∷ ms) h = ⊎_elim
      (λ yes'. inl (m, first, yes'))
      (λ no'. ⊎_elim (λ s. inl (s.0, later s.1, s.2)) (λ none. inr (λ k i. neither m ms no' none k i)) (some_part ms h.1))
      h.0
    where
      neither : (m : ℕ) (ms : List ℕ) → (HoldsNode doc m x → ⊥) → ((k : ℕ) → k ∈ ms → HoldsNode doc k x → ⊥) → (k : ℕ) → k ∈ (m ∷ ms) → HoldsNode doc k x → ⊥
      neither m ms no' none k first = no'
      neither m ms no' none k (later i) = none k i

  not_here : (n : ℕ) → (n ≡ x → ⊥) → ((m : ℕ) → m ∈ parts (shape_at doc n) → HoldsNode doc m x → ⊥) → HoldsNode doc n x → ⊥
  not_here n other none h = back n x h other none
    where
      back : (n y : ℕ) → HoldsNode doc n y → (n ≡ y → ⊥) → ((m : ℕ) → m ∈ parts (shape_at doc n) → HoldsNode doc m y → ⊥) → ⊥
      back n y itself other none = other refl
      back n y (within {m = m} i up) other none = none m i up

  holds? : PartsAfter doc → (fuel n : ℕ) → length doc - n ≤ fuel → n < length doc → HoldsNode doc n x ⊎ (HoldsNode doc n x → ⊥)
  holds? after zero n few hn = absurd (omega arith)
  holds? after (suc fuel) n few hn = ⊎_elim
      (λ e. inl (subst (λ k. HoldsNode doc n k) e itself))
      (λ other. ⊎_elim (λ s. inl (within s.1 s.2)) (λ none. inr (not_here n other none))
      (some_part (parts (shape_at doc n)) (All-weaker (λ m. (n < m) × (m < length doc)) (λ m. HoldsNode doc m x ⊎ (HoldsNode doc m x → ⊥))
      (λ m l. holds? after fuel m (omega arith) l.1) (parts (shape_at doc n)) (after n hn))))
      (cases_eq n x)

pub renews : (K : Type 0) → Renews K
renews K world limits book V W x leaf after sealed law elsewhere renewed r n h hn' =
    let hn : n < length world.doc = rw length-set at hn' in
    ⊎_elim (renewed r n h hn)
    (λ apart.
    let other : n ≢ x = λ e. apart (subst (λ k. HoldsNode world.doc n k) e itself) in
    let same : shape_at (set world.doc x leaf) n ≡ shape_at world.doc n = get_or-set_other world.doc x n leaf null other in
    elsewhere r n h hn apart
    ∙ law r n h hn
    ∙ says_same world book V W n (row_at book r)
    (All-weaker (λ o. o < length book.rows) (λ o. V o n ≡ W o n) (λ o l. sym (elsewhere o n l hn apart)) (needs book (row_at book r)) (inside book (founded sealed) r h))
    (All-weaker (λ o. o < r) (λ o. AllByRecursion (λ m. V o m ≡ W o m) (parts (value_at world n)))
    (λ o l. all_each (λ m. V o m ≡ W o m) (parts (value_at world n))
    (λ m i. sym (elsewhere o m (omega arith) (all_in (λ m. (n < m) × (m < length world.doc)) (parts (value_at world n)) (after n hn) i).1 (λ up. apart (within i up)))))
    (operands (row_at book r)) (sealed.lower r h))
    ∙ ap (λ s. tells world book W (row_at book r) n s) (sym same))
    (holds? world.doc x after (length world.doc) n (omega arith) hn)
