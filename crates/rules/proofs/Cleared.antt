-- A cleared book is sealed, has no `not`, and is not much longer.
use Rattle.std.proofs.Common.{◌≡◌, ℕ, ◌+◌, ◌*◌, ◌<◌, ◌≤◌, map, length, get_or, sym, ap, ◌∙◌, subst, zero-add, arith, length-append}
use lib.ListN.{get_or-append}
use Rattle.std.specs.List.{AllByRecursion}
use Rattle.std.proofs.lemmas.List.{length-map}
use Rattle.std.proofs.ByRecursion.{All-weaker, All-get_or, All-append, All-map, All-from_get_or}
use Rattle.rules.specs.declared.row.Row.TheVariants.{False}
use Rattle.rules.specs.Book.{Book, row_at, operands, variables, needs, Allowed, WithoutNot}
use Rattle.rules.proofs.Founded.{WellFounded, founded}
use Rattle.rules.specs.Clear.{place, fixed, adds, look_up, begun, cleared, clear, positive_row, complement_row}
use Rattle.rules.specs.Theorems.{Clears}
use Rattle.rules.proofs.Guard.{Ends, ends, all_in, all_each, all_end}
use Rattle.rules.proofs.Descent.{inside}
use Rattle.rules.proofs.Standing.{Stands, written_grows, written_all, before, row_stands}
use Rattle.rules.proofs.Clearing.{two_bodies}
use Rattle.rules.proofs.Tidy.{Tidy, tidy_at, Ordered, ordered, begun_ordered, positive_not}
use Rattle.rules.proofs.Allow.{keeps_allowed}
use Rattle.rules.proofs.Rooted.{no_cycle, base_ends, Rooted, row_rooted, upto_at}

module _ (book : Book) (sealed : WellFounded book) where
  lower_rows : (i : ℕ) → i < length book.rows → AllByRecursion (λ o. o < 0 + i) (operands (row_at book i))
  lower_rows i h = rw zero-add (sealed.lower i h)

  in_order : Ordered (length book.definitions) (cleared book)
      × (length (cleared book).written ≤ 8 + 5 * length book.rows) × (length (cleared book).places ≡ 0 + length book.rows)
  in_order = ordered (length book.definitions) book.rows begun lower_rows sealed.defined (begun_ordered (length book.definitions))

  tidy : (k : ℕ) → k < length (clear book).rows → Tidy (length book.definitions) (0 + k) (row_at (clear book) k)
  tidy k h = tidy_at (length book.definitions) 0 (clear book).rows in_order.0.tidies k h

  twice : length (clear book).definitions ≡ length book.definitions + length book.definitions
  twice = omega (
    arith,
    length-append (map (positive_row book) book.definitions) (map (complement_row book) book.definitions),
    length-map book.definitions (positive_row book),
    length-map book.definitions (complement_row book),
  )

  place_there : (r : ℕ) → r < length book.rows → (positive_row book r < length (cleared book).written) × (complement_row book r < length (cleared book).written)
  place_there r h = All-get_or (λ p. (p.positive < length (cleared book).written) × (p.negative < length (cleared book).written))
      (cleared book).places r (place 0 0) (omega (arith, in_order.2)) in_order.0.placed

  first_rows : (k : ℕ) → k < 8 → row_at (clear book) k ≡ get_or fixed k False
  first_rows k h =
      let grown = written_grows (length book.definitions) book.rows begun in
      ap (λ rows. get_or rows k False) grown.1 ∙ get_or-append fixed grown.0 False k h

  rooted : (r s : ℕ) → (h : r < length book.rows) → Stands (length book.definitions) (cleared book) r (row_at book r) s →
      AllByRecursion (λ o. Ends (clear book) (positive_row book o) × Ends (clear book) (complement_row book o)) (needs book (row_at book r)) →
      Rooted (clear book) first_rows s (adds (look_up (cleared book).places) (length book.definitions) s (row_at book r))
  rooted r s h it here = row_rooted (clear book) first_rows book (look_up (cleared book).places)
      (λ v hv. two_bodies (positive_row book) (complement_row book) book.definitions v hv) s (row_at book r) here (sealed.defined r h) it.reads

  places_end : {r : ℕ} → Ends book r → r < length book.rows → Ends (clear book) (positive_row book r) × Ends (clear book) (complement_row book r)
  places_end {r} (ends f) h =
      let it = row_stands book sealed r h in
      let new = rooted r (length (before book sealed r).written) h it
      (all_each (λ o. Ends (clear book) (positive_row book o) × Ends (clear book) (complement_row book o)) (needs book (row_at book r))
      (λ o m. places_end (f o m) (all_in (λ o. o < length book.rows) (needs book (row_at book r)) (inside book sealed r h) m))) in (
        subst (λ p. Ends (clear book) p.positive) (sym it.placed) new.positive,
        subst (λ p. Ends (clear book) p.negative) (sym it.placed) new.negative,
      )

  all_rows_end : (k : ℕ) → k < length (clear book).rows → Ends (clear book) k
  all_rows_end = written_all (Ends (clear book)) (length book.definitions) book.rows begun
      (base_ends (clear book) first_rows) lower_rows
      (λ r i s h e it j hj.
      let same : r ≡ i = omega arith in
      let it' = subst (λ x. Stands (length book.definitions) (cleared book) x (row_at book i) s) same it in
      let new = rooted i s h it'
      (all_each (λ o. Ends (clear book) (positive_row book o) × Ends (clear book) (complement_row book o)) (needs book (row_at book i))
      (λ o m.
      let there = all_in (λ o. o < length book.rows) (needs book (row_at book i)) (inside book sealed i h) m in
      places_end (all_end book sealed.guarded (inside book sealed) o there) there)) in
      upto_at (clear book) first_rows s _ new.all j hj)

  bodies_there : AllByRecursion (λ b. b < length (clear book).rows) (clear book).definitions
  bodies_there =
      let old = All-from_get_or (λ b. b < length book.rows) book.definitions 0 sealed.bodies in
      All-append _ (map (positive_row book) book.definitions) (map (complement_row book) book.definitions)
      (All-map _ (positive_row book) book.definitions (All-weaker (λ b. b < length book.rows) _ (λ b l. (place_there b l).0) book.definitions old))
      (All-map _ (complement_row book) book.definitions (All-weaker (λ b. b < length book.rows) _ (λ b l. (place_there b l).1) book.definitions old))

  pub founded_clear : WellFounded (clear book)
  founded_clear = record {
    lower = λ k h. rw zero-add at (tidy k h).lower;
    defined = λ k h. All-weaker (λ v. v < length book.definitions + length book.definitions) _ (λ v l. omega (arith, twice)) (variables (row_at (clear book) k)) (tidy k h).defined;
    bodies = λ v h. All-get_or (λ b. b < length (clear book).rows) (clear book).definitions v 0 h bodies_there;
    guarded = λ k h. no_cycle (all_rows_end k h);
  }

pub clears : Clears
clears limits book sealed =
    let old = founded sealed in
    let new = founded_clear book old in
    let plain : WithoutNot (clear book) = λ k h. positive_not (row_at (clear book) k) (tidy book old k h).plain in
    let fine = keeps_allowed limits book (All-from_get_or (Allowed limits) book.rows False sealed.allowed) in
    record {
      without_not = plain;
      guarded = new.guarded;
      short = (in_order book old).1;
      doubled = omega (arith, twice book old);
      cleared = λ rows definitions. record {
        sealed = record {
          few_rows = rows;
          few_numbers = sealed.few_numbers;
          some_definition = omega (arith, twice book old, sealed.some_definition);
          few_definitions = omega (arith, twice book old);
          allowed = λ r h. All-get_or (Allowed limits) (clear book).rows r False h fine;
          lower = new.lower;
          defined = new.defined;
          bodies = new.bodies;
          guarded = new.guarded;
        };
        without_not = plain;
        even = omega (arith, twice book old);
      };
    }
