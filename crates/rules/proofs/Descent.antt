-- Induction over a sealed book and a document: what a row needs, and what lies below a node, comes first.
use Rattle.std.proofs.Common.{ℕ, zero, suc, ◌-◌, ◌<◌, ◌≤◌, List, length, arith}
use Rattle.std.specs.List.{AllByRecursion}
use Rattle.std.proofs.ByRecursion.{All-weaker}
use Rattle.rules.specs.Value.{Shape, PartsAfter, parts, shape_at}
use Rattle.rules.specs.Book.{Book, row_at, body_at, Reach, nothing, inner, both, negated, body, reach, named, called, needed, operands, needs}
use Rattle.rules.proofs.Founded.{WellFounded}
use Rattle.rules.proofs.Guard.{all_in, all_each, Ends, ends, all_end}

-- what a row needs is there, if the rows and definitions that it names are
module _ (book : Book) (r : ℕ) (h : r < length book.rows) (bodies : (v : ℕ) → v < length book.definitions → body_at book v < length book.rows) where
  needs_there : (look : Reach) → AllByRecursion (λ o. o < r) (named look) → AllByRecursion (λ v. v < length book.definitions) (called look) →
      AllByRecursion (λ o. o < length book.rows) (needed book look)
  needs_there nothing l d = tt
  needs_there (inner o) l d = tt
  needs_there (both a b) l d = omega arith
  needs_there (negated o) l d = omega arith
  needs_there (body v) l d = (bodies v d.0, tt)

module _ (book : Book) (sealed : WellFounded book) where
  pub inside : (r : ℕ) → r < length book.rows → AllByRecursion (λ o. o < length book.rows) (needs book (row_at book r))
  inside r h = needs_there book r h sealed.bodies (reach (row_at book r)) (sealed.lower r h) (sealed.defined r h)

  module _ {K : Type 0} (doc : List (Shape K)) (after : PartsAfter doc) (Q : ℕ → ℕ → Type 0)
      (step : (r n : ℕ) → r < length book.rows → n < length doc →
      AllByRecursion (λ o. Q o n) (needs book (row_at book r)) →
      AllByRecursion (λ o. AllByRecursion (Q o) (parts (shape_at doc n))) (operands (row_at book r)) → Q r n) where
    at_node : (n : ℕ) → n < length doc → ((o : ℕ) → o < length book.rows → AllByRecursion (Q o) (parts (shape_at doc n))) →
        {r : ℕ} → Ends book r → r < length book.rows → Q r n
    at_node n hn lower {r} (ends f) h =
        step r n h hn
        (all_each (λ o. Q o n) (needs book (row_at book r)) (λ o m.
        at_node n hn lower (f o m) (all_in (λ o. o < length book.rows) (needs book (row_at book r)) (inside r h) m)))
        (All-weaker (λ o. o < r) (λ o. AllByRecursion (Q o) (parts (shape_at doc n))) (λ o l. lower o (omega arith))
        (operands (row_at book r)) (sealed.lower r h))

    from_node : (fuel n : ℕ) → length doc - n ≤ fuel → n < length doc → (r : ℕ) → r < length book.rows → Q r n
    from_node zero n few hn r h = absurd (omega arith)
    from_node (suc fuel) n few hn r h =
        at_node n hn
        (λ o ho. All-weaker (λ m. (n < m) × (m < length doc)) (Q o)
        (λ m l. from_node fuel m (omega arith) l.1 o ho) (parts (shape_at doc n)) (after n hn))
        (all_end book sealed.guarded inside r h) h

    pub descent : (r n : ℕ) → r < length book.rows → n < length doc → Q r n
    descent r n h hn = from_node (length doc) n (omega arith) hn r h
