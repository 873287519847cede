-- Clearing a sealed book.
use Rattle.std.proofs.Common.{◌≡◌, ℕ, ◌+◌, ◌*◌, ◌/◌, ◌<◌, ◌≤◌, min, List, map, length, take, drop, Some, Ok, Err, Result, sym, refl, ap, ◌∙◌, subst, ap₂, arith, length-append}
use Rattle.std.proofs.lemmas.List.{length-map, take_at}
use Rattle.rules.specs.declared.place.Place.{Place}
use Rattle.rules.specs.declared.row.Row.{Row}
use Rattle.rules.specs.declared.row.Row.TheVariants.{True, False, OfType, BooleanIs, Pattern, NotPattern, Length, Between, StrictlyBetween, Multiple, NotMultiple, EveryMember, SomeMember, Members, EveryElement, SomeElement, Count, And, Or, Not, Variable}
use Rattle.rules.specs.Book.{Book, row_at, body_at, Limits, Allowed, Sealed}
use Rattle.rules.specs.Meaning.{Lawful}
use Rattle.rules.specs.Clear.{clear, positive_row, complement_row}
use Rattle.rules.proofs.Cleared.{clears}
use Rattle.rules.proofs.Clearing.{judges}
use Rattle.clearing.specs.declared.fault.ClearFault.{ClearFault}
use Rattle.clearing.specs.declared.fault.ClearFault.TheVariants.{TooManyRows, TooManyDefinitions}
use Rattle.clearing.specs.Adding.{EndsBelow, upper_end}
use Rattle.clearing.specs.Counting.{RowsCount}
use Rattle.clearing.specs.Writing.{written_over, bodies, WrittenRows}
use Rattle.books.specs.Guard.{book_of}
use Rattle.clearing.specs.Outcomes.{Clearable, RowsFit, DefinitionsFit, Outcome, Seals, VerdictsKept}

ends_below : (limits : Limits) (row : Row) → Allowed limits row → EndsBelow (upper_end row)
ends_below limits True h = tt
ends_below limits False h = tt
ends_below limits (OfType t) h = tt
ends_below limits (BooleanIs b) h = tt
ends_below limits (Pattern p) h = tt
ends_below limits (NotPattern p) h = tt
ends_below limits (Length range) h = h.1
ends_below limits (Between bounds) h = tt
ends_below limits (StrictlyBetween bounds) h = tt
ends_below limits (Multiple q) h = tt
ends_below limits (NotMultiple q) h = tt
ends_below limits (EveryMember p o) h = tt
ends_below limits (SomeMember p o) h = tt
ends_below limits (Members range) h = h.1
ends_below limits (EveryElement o) h = tt
ends_below limits (SomeElement o) h = tt
ends_below limits (Count o range) h = h.1
ends_below limits (And a b) h = tt
ends_below limits (Or a b) h = tt
ends_below limits (Not o) h = tt
ends_below limits (Variable v) h = tt

pub clearable : (limits : Limits) (book : Book) → Sealed limits book → Clearable book
clearable limits book sealed = (sealed.few_rows, λ r h. (ends_below limits (row_at book r) (sealed.allowed r h), sealed.defined r h))

pub twice : (book : Book) → length (clear book).definitions ≡ length book.definitions + length book.definitions
twice book = omega (
  arith,
  length-append (map (positive_row book) book.definitions) (map (complement_row book) book.definitions),
  length-map book.definitions (positive_row book),
  length-map book.definitions (complement_row book),
)

front : {A : Type 0} (new before after : List A) (n : ℕ) → length new ≡ n → after ≡ written_over new before → take n after ≡ new
front new before after n e is = ap (take n) is ∙ take_at new (drop (length new) before) n e

-- what an outcome comes to for a sealed book
pub seals : (book before after : Book) (r : Result ℕ ClearFault) → Outcome book before after r → Seals book before after r
seals book before after (Ok n) o limits sealed =
    let well = clears limits book sealed in
    record {
      is_clear = ap₂ book_of (front (clear book).rows before.rows after.rows n (sym o.counted) o.rows)
          (front (clear book).definitions before.definitions after.definitions (2 * length book.definitions) well.doubled o.definitions);
      cleared = well.cleared o.rows_fit.1 (omega (arith, twice book, o.definitions_fit.1));
      short = omega (arith, o.counted, well.short);
      doubled = well.doubled;
    }
seals book before after (Err TooManyRows) (no_fit, _) limits sealed = no_fit (clearable limits book sealed)
seals book before after (Err TooManyDefinitions) (_, rows, no_fit, _) limits sealed = (rows, no_fit)

-- the counts, as the tests find them
module _ (book before : Book) (n : ℕ) (counted : RowsCount (length book.definitions) book.rows (Some n)) (fits : n ≤ min (length before.rows) 2048) where
  rows_fit : RowsFit book before
  rows_fit = (omega (arith, counted.1), omega (arith, counted.1))

  pub too_many_definitions : min (length before.definitions / 2) 64 < length book.definitions → Outcome book before before (Err TooManyDefinitions)
  too_many_definitions h = (counted.0, rows_fit, (λ (fit : DefinitionsFit book before). omega (arith, twice book, fit.0, fit.1)), refl)

  pub written : length book.definitions ≤ min (length before.definitions / 2) 64 → (rows : List Row) (definitions : List ℕ) (places : List Place) →
      WrittenRows (length book.definitions) book.rows before.rows rows places →
      definitions ≡ written_over (bodies (take (length book.rows) places) book.definitions) before.definitions →
      Outcome book before (book_of rows definitions) (Ok n)
  written h rows definitions places of_rows of_definitions = record {
    clearable = counted.0;
    rows_fit = rows_fit;
    definitions_fit = (omega (arith, twice book), omega (arith, twice book));
    counted = counted.1;
    rows = of_rows.written;
    definitions = of_definitions ∙ ap (λ ps. written_over (bodies ps book.definitions) before.definitions) of_rows.placed;
  }

-- the verdicts of the book that is written
pub verdicts : (K : Type 0) → VerdictsKept K
verdicts K world limits book before after n V W turns parts sealed outcome law other k m hk hm =
    let is = (seals book before after (Ok n) outcome limits sealed).is_clear in
    let both = judges K world limits book V W turns parts sealed (subst (λ b. Lawful world b V) is law) other k m hk hm in
    (ap (λ b. V (body_at b k) m) is ∙ both.0, ap (λ b. V (body_at b (length book.definitions + k)) m) is ∙ both.1)
