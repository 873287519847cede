-- The complement theorem, over whole tables.
use Rattle.std.proofs.Common.{◌≡◌, ℕ, ◌+◌, ◌<◌, not, List, ◌++◌, map, length, get_or, sym, ap, ◌∙◌, arith, length-append, get_or-append-add}
use lib.ListN.{get_or-append}
use Rattle.std.specs.List.{AllByRecursion}
use Rattle.std.proofs.lemmas.List.{get_or-map, length-map}
use Rattle.std.proofs.ByRecursion.{All-weaker}
use Rattle.rules.specs.declared.row.Row.TheVariants.{False}
use Rattle.numbers.specs.Kinds.{Turns}
use Rattle.rules.specs.Value.{PartsAfter, parts}
use Rattle.rules.specs.Book.{Book, row_at, body_at, operands, needs}
use Rattle.rules.proofs.Founded.{WellFounded, founded}
use Rattle.rules.specs.Meaning.{World, Verdicts, Lawful, value_at, says}
use Rattle.rules.specs.Clear.{fixed, look_up, begun, cleared, clear, positive_row, complement_row}
use Rattle.rules.specs.Theorems.{Complement, Judges}
use Rattle.rules.proofs.Descent.{descent}
use Rattle.rules.proofs.Agree.{one_table}
use Rattle.rules.proofs.Standing.{written_grows, before, row_stands}
use Rattle.rules.proofs.Complement.{row_fits}

-- the bodies of a cleared book's definitions
pub two_bodies : (f g : ℕ → ℕ) (xs : List ℕ) (v : ℕ) → v < length xs →
    (get_or (map f xs ++ map g xs) v 0 ≡ f (get_or xs v 0)) × (get_or (map f xs ++ map g xs) (length xs + v) 0 ≡ g (get_or xs v 0))
two_bodies f g xs v h =
    let l = length-map xs f in (
      get_or-append (map f xs) (map g xs) 0 v (omega arith) ∙ get_or-map f xs v 0 0 h,
      ap (λ k. get_or (map f xs ++ map g xs) (k + v) 0) (sym l) ∙ get_or-append-add (map f xs) (map g xs) v 0 ∙ get_or-map g xs v 0 0 h,
    )

module _ {K : Type 0} (world : World K) (book : Book) (V : Verdicts)
    (turns : Turns world.kind) (after : PartsAfter world.doc) (sealed : WellFounded book) (law : Lawful world (clear book) V) where
  first_rows : (n : ℕ) → n < length world.doc → (k : ℕ) → k < 8 → V k n ≡ says world (clear book) V (get_or fixed k False) n
  first_rows n hn k h =
      let grown = written_grows (length book.definitions) book.rows begun in
      let there : k < length (cleared book).written = omega (arith, ap length grown.1 ∙ length-append fixed grown.0) in
      law k n there hn ∙ ap (λ row. says world (clear book) V row n)
      (ap (λ rows. get_or rows k False) grown.1 ∙ get_or-append fixed grown.0 False k h)

  fits : (r n : ℕ) (h : r < length book.rows) (hn : n < length world.doc) →
      AllByRecursion (λ o. V (complement_row book o) n ≡ not (V (positive_row book o) n)) (needs book (row_at book r)) →
      AllByRecursion (λ o. AllByRecursion (λ m. V (complement_row book o) m ≡ not (V (positive_row book o) m)) (parts (value_at world n))) (operands (row_at book r)) →
      (V (positive_row book r) n ≡ says world book (λ r m. V (positive_row book r) m) (row_at book r) n) × (V (complement_row book r) n ≡ not (says world book (λ r m. V (positive_row book r) m) (row_at book r) n))
  fits r n h hn here lower =
      let it = row_stands book sealed r h in
      let s = length (before book sealed r).written in
      let both = row_fits world (clear book) V n (first_rows n hn) turns book (look_up (cleared book).places)
      (λ v hv. two_bodies (positive_row book) (complement_row book) book.definitions v hv)
      s (row_at book r) here lower (sealed.defined r h)
      (λ j hj. law (s + j) n (omega (arith, it.inside)) hn ∙ ap (λ row. says world (clear book) V row n) (it.reads j hj)) in
      (ap (λ p. V p.positive n) it.placed ∙ both.0, ap (λ p. V p.negative n) it.placed ∙ both.1)

  -- what the theorem says of row r at node n
  abbrev Good : ℕ → ℕ → Type 0
  Good r n = (V (positive_row book r) n ≡ says world book (λ r m. V (positive_row book r) m) (row_at book r) n) × (V (complement_row book r) n ≡ not (V (positive_row book r) n))

  good : (r n : ℕ) → r < length book.rows → n < length world.doc → Good r n
  good = descent book sealed world.doc after Good
      (λ r n h hn here lower.
      let both = fits r n h hn
      (All-weaker (λ o. Good o n) _ (λ o g. g.1) (needs book (row_at book r)) here)
      (All-weaker (λ o. AllByRecursion (Good o) (parts (value_at world n))) _
      (λ o all. All-weaker (Good o) _ (λ m g. g.1) (parts (value_at world n)) all) (operands (row_at book r)) lower) in
      (both.0, both.1 ∙ ap not (sym both.0)))

pub complement : (K : Type 0) → Complement K
complement K world limits book V turns after sealed law =
    let all = good world book V turns after (founded sealed) law in
    record { kept = λ r n h hn. (all r n h hn).0; turned_round = λ r n h hn. (all r n h hn).1 }

pub judges : (K : Type 0) → Judges K
judges K world limits book V W turns after sealed law other k n hk hn =
    let both = complement K world limits book V turns after sealed law in
    let there = sealed.bodies k hk in
    let bodies = two_bodies (positive_row book) (complement_row book) book.definitions k hk in
    let same = one_table K world limits book (λ r m. V (positive_row book r) m) W after sealed both.kept other (body_at book k) n there hn in (
      ap (λ r. V r n) bodies.0 ∙ same,
      ap (λ r. V r n) bodies.1 ∙ both.turned_round (body_at book k) n there hn ∙ ap not same,
    )
