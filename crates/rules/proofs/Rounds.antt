-- A lawful table exists: round after round by the rows' rules, and after finitely many rounds nothing changes.
use Rattle.std.proofs.Common.{◌≡◌, ℕ, zero, suc, ◌+◌, ◌<◌, ◌≤◌, false, List, [], ◌∷◌, length, subst, ⊎_elim, arith}
use Rattle.std.specs.List.{AllByRecursion}
use Rattle.std.proofs.ByRecursion.{All-weaker}
use Rattle.std.proofs.lemmas.Bool.{cases_lt}
use Rattle.rules.specs.Value.{PartsAfter, parts}
use Rattle.rules.specs.Book.{Book, row_at, operands, needs}
use Rattle.rules.proofs.Founded.{WellFounded, founded}
use Rattle.rules.specs.Meaning.{World, Verdicts, Lawful, value_at, says}
use Rattle.rules.specs.Theorems.{SomeTable}
use Rattle.rules.proofs.Descent.{descent}
use Rattle.rules.proofs.Agree.{says_same}

-- what holds of each at some number, and at every larger one, holds of all at one number
module _ {A : Type 0} (P : A → ℕ → Type 0) (more : (x : A) (k l : ℕ) → k ≤ l → P x k → P x l) where
  common : (xs : List A) → AllByRecursion (λ x. (k : ℕ) × P x k) xs → (k : ℕ) × AllByRecursion (λ x. P x k) xs
  common [] h = (0, tt)
  common (x ∷ xs) h =
      let rest = common xs h.1 in
      let k = h.0.0 in (
        k + rest.0,
        (
          more x k (k + rest.0) (omega arith) h.0.1,
          All-weaker (λ y. P y rest.0) (λ y. P y (k + rest.0)) (λ y p. more y rest.0 (k + rest.0) (omega arith) p) xs rest.1,
        ),
      )

common_below : (P : ℕ → ℕ → Type 0) → ((i k l : ℕ) → k ≤ l → P i k → P i l) → (m : ℕ) → ((i : ℕ) → i < m → (k : ℕ) × P i k) →
    (k : ℕ) × ((i : ℕ) → i < m → P i k)
common_below P more zero h = (0, λ i l. absurd (omega arith))
common_below P more (suc m) h =
    let rest = common_below P more m (λ i l. h i (omega arith)) in
    let last = h m (omega arith) in (
      last.0 + rest.0,
      λ i l. ⊎_elim
          (λ lower. more i rest.0 (last.0 + rest.0) (omega arith) (rest.1 i lower))
          (λ past. let same : m ≡ i = omega arith in more i last.0 (last.0 + rest.0) (omega arith) (subst (λ x. P x last.0) same last.1))
          (cases_lt i m),
    )

module _ {K : Type 0} (world : World K) (book : Book) where
  rounds : ℕ → Verdicts
  rounds zero r n = false
  rounds (suc k) r n = says world book (rounds k) (row_at book r) n

  -- from round k on the verdict stays
  abbrev Settled : ℕ → ℕ → ℕ → Type 0
  Settled r n k = (i j : ℕ) → k ≤ i → k ≤ j → rounds i r n ≡ rounds j r n

  later : (r n k l : ℕ) → k ≤ l → Settled r n k → Settled r n l
  later r n k l le s i j hi hj = s i j (omega arith) (omega arith)

  settles : (r n k : ℕ) → AllByRecursion (λ o. Settled o n k) (needs book (row_at book r)) →
      AllByRecursion (λ o. AllByRecursion (λ m. Settled o m k) (parts (value_at world n))) (operands (row_at book r)) → Settled r n (suc k)
  unfolding rounds
  settles r n k here below zero j hi hj = absurd (omega arith)
  settles r n k here below (suc i) zero hi hj = absurd (omega arith)
  settles r n k here below (suc i) (suc j) hi hj =
      says_same world book (rounds i) (rounds j) n (row_at book r)
      (All-weaker (λ o. Settled o n k) (λ o. rounds i o n ≡ rounds j o n) (λ o s. s i j (omega arith) (omega arith)) (needs book (row_at book r)) here)
      (All-weaker (λ o. AllByRecursion (λ m. Settled o m k) (parts (value_at world n))) (λ o. AllByRecursion (λ m. rounds i o m ≡ rounds j o m) (parts (value_at world n)))
      (λ o all. All-weaker (λ m. Settled o m k) (λ m. rounds i o m ≡ rounds j o m) (λ m s. s i j (omega arith) (omega arith)) (parts (value_at world n)) all)
      (operands (row_at book r)) below)

  module _ (after : PartsAfter world.doc) (sealed : WellFounded book) where
    some_round : (r n : ℕ) → r < length book.rows → n < length world.doc → (k : ℕ) × Settled r n k
    some_round = descent book sealed world.doc after (λ r n. (k : ℕ) × Settled r n k)
        (λ r n h hn here below.
        let a = common (λ o k. Settled o n k) (λ o. later o n) (needs book (row_at book r)) here in
        let b = common (λ o k. AllByRecursion (λ m. Settled o m k) (parts (value_at world n)))
        (λ o k l le all. All-weaker (λ m. Settled o m k) (λ m. Settled o m l) (λ m s. later o m k l le s) (parts (value_at world n)) all)
        (operands (row_at book r))
        (All-weaker (λ o. AllByRecursion (λ m. (k : ℕ) × Settled o m k) (parts (value_at world n))) (λ o. (k : ℕ) × AllByRecursion (λ m. Settled o m k) (parts (value_at world n)))
        (λ o all. common (λ m k. Settled o m k) (λ m. later o m) (parts (value_at world n)) all) (operands (row_at book r)) below) in (
          suc (a.0 + b.0),
          settles r n (a.0 + b.0)
              (All-weaker (λ o. Settled o n a.0) _ (λ o s. later o n a.0 (a.0 + b.0) (omega arith) s) (needs book (row_at book r)) a.1)
              (All-weaker (λ o. AllByRecursion (λ m. Settled o m b.0) (parts (value_at world n))) _
              (λ o all. All-weaker (λ m. Settled o m b.0) _ (λ m s. later o m b.0 (a.0 + b.0) (omega arith) s) (parts (value_at world n)) all)
              (operands (row_at book r)) b.1),
        ))

    last_round : (k : ℕ) × ((r : ℕ) → r < length book.rows → (n : ℕ) → n < length world.doc → Settled r n k)
    last_round =
        common_below (λ r k. (n : ℕ) → n < length world.doc → Settled r n k) (λ r k l le s n hn. later r n k l le (s n hn)) (length book.rows)
        (λ r h. common_below (λ n k. Settled r n k) (λ n. later r n) (length world.doc) (λ n hn. some_round r n h hn))

    table : Lawful world book (rounds last_round.0)
    unfolding rounds
    table r n h hn = last_round.1 r h n hn last_round.0 (suc last_round.0) (omega arith) (omega arith)

pub some_table : (K : Type 0) → SomeTable K
some_table K world limits book after sealed = (rounds world book (last_round world book after (founded sealed)).0, table world book after (founded sealed))
