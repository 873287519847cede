-- Judging a node row by row, in passes: what each pass settles.
use Rattle.std.proofs.Common.{◌≡◌, ℕ, suc, ◌<◌, length, sym, ◌∙◌, arith}
use Rattle.std.specs.List.{AllByRecursion}
use Rattle.std.proofs.ByRecursion.{All-weaker}
use Rattle.rules.specs.Value.{parts}
use Rattle.rules.specs.Book.{Book, row_at, operands, needs}
use Rattle.rules.proofs.Founded.{WellFounded}
use Rattle.rules.specs.Meaning.{World, Verdicts, Lawful, value_at, says}
use Rattle.rules.proofs.Guard.{Within, all_within, all_in, all_each}
use Rattle.rules.proofs.Descent.{inside}
use Rattle.rules.proofs.Agree.{says_same}

-- W is the lawful table, and V one that agrees with it below node n, and at n at the rows of chains shorter than k: there V's rules give W.
module _ {K : Type 0} (world : World K) (book : Book) (V W : Verdicts) (n k : ℕ) (sealed : WellFounded book) (law : Lawful world book W)
    (below : (o : ℕ) → o < length book.rows → AllByRecursion (λ m. V o m ≡ W o m) (parts (value_at world n)))
    (known : (o : ℕ) → o < length book.rows → Within book k o → V o n ≡ W o n) where
  pub settles : (r : ℕ) → r < length book.rows → n < length world.doc → Within book (suc k) r → says world book V (row_at book r) n ≡ W r n
  settles r h hn short =
      says_same world book V W n (row_at book r)
      (all_each (λ o. V o n ≡ W o n) (needs book (row_at book r)) (λ o m.
      known o (all_in (λ o. o < length book.rows) (needs book (row_at book r)) (inside book sealed r h) m) (all_in (Within book k) (needs book (row_at book r)) short m)))
      (All-weaker (λ o. o < r) (λ o. AllByRecursion (λ m. V o m ≡ W o m) (parts (value_at world n))) (λ o l. below o (omega arith)) (operands (row_at book r)) (sealed.lower r h))
      ∙ sym (law r n h hn)

-- after as many passes as the book has rows, every row is settled
pub all_short : (book : Book) → WellFounded book → (r : ℕ) → r < length book.rows → Within book (length book.rows) r
all_short book sealed = all_within book sealed.guarded (inside book sealed)
