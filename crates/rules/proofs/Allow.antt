-- Clearing keeps the fields of rows within their limits.
use Rattle.std.proofs.Common.{ℕ, zero, suc, ◌<◌, ◌≤◌, List, [], ◌∷◌, length, Some, None, Option, arith}
use Rattle.std.specs.List.{AllByRecursion}
use Rattle.std.proofs.ByRecursion.{All-append}
use Rattle.rules.specs.declared.row.ValueType.{ValueType}
use Rattle.rules.specs.declared.row.ValueType.TheVariants.{Number, Text, List as Listed, Object}
use Rattle.rules.specs.declared.row.Range.{Range}
use Rattle.rules.specs.declared.row.Bounds.{Bounds}
use Rattle.rules.specs.declared.place.Place.{Place}
use Rattle.rules.specs.declared.row.Row.{Row}
use Rattle.rules.specs.declared.row.Row.TheVariants.{True, False, OfType, BooleanIs, Pattern, NotPattern, Length, Between, StrictlyBetween, Multiple, NotMultiple, EveryMember, SomeMember, Members, EveryElement, SomeElement, Count, And, Or, Not, Variable}
use Rattle.rules.specs.Book.{Book, Limits, IfThere, Ended, Numbered, Allowed}
use Rattle.rules.specs.Clear.{outside, below, above, under, over, side, around_range, around_bounds, adds, Clearing, look_up, next, clearing, begun, clear}
use Rattle.rules.proofs.Tests.{weaker}

module _ (limits : Limits) where
  outside_allowed : (t : ValueType) (s : ℕ) (row : Row) (low high : Option Row) → Allowed limits row → IfThere low (Allowed limits) → IfThere high (Allowed limits) →
      AllByRecursion (Allowed limits) (outside t s row low high).rows
  outside_allowed t s row None None h l u = (h, tt)
  outside_allowed t s row (Some low) None h l u = (h, (l, (tt, tt)))
  outside_allowed t s row None (Some high) h l u = (h, (u, (tt, tt)))
  outside_allowed t s row (Some low) (Some high) h l u = (h, (l, (u, (tt, (tt, tt)))))

  side_allowed : {A : Type 0} (row : A → Row) (o : Option A) → IfThere o (λ x. Allowed limits (row x)) → IfThere (side row o) (Allowed limits)
  side_allowed row None h = tt
  side_allowed row (Some x) h = h

  below_ended : (l : ℕ) → l ≤ 65535 → IfThere (below l) Ended
  below_ended zero h = tt
  below_ended (suc k) h = omega arith

  above_ended : (u : Option ℕ) → IfThere u (λ u. u ≤ 65534) → IfThere (above u) Ended
  above_ended None h = tt
  above_ended (Some u) h = omega arith

  under_numbered : (i : Option ℕ) → IfThere i (λ i. i < limits.numbers) → IfThere (under i) (Numbered limits)
  under_numbered None h = tt
  under_numbered (Some i) h = (tt, h)

  over_numbered : (i : Option ℕ) → IfThere i (λ i. i < limits.numbers) → IfThere (over i) (Numbered limits)
  over_numbered None h = tt
  over_numbered (Some i) h = (h, tt)

  range_allowed : (t : ValueType) (s : ℕ) (row : Range → Row) → ((range : Range) → Ended range → Allowed limits (row range)) → (range : Range) → Ended range →
      AllByRecursion (Allowed limits) (around_range t s row range).rows
  range_allowed t s row f range h = outside_allowed t s (row range) (side row (below range.lower)) (side row (above range.upper)) (f range h)
      (side_allowed row (below range.lower) (weaker (below range.lower) Ended _ f (below_ended range.lower h.0)))
      (side_allowed row (above range.upper) (weaker (above range.upper) Ended _ f (above_ended range.upper h.1)))

  bounds_allowed : (s : ℕ) (row back : Bounds → Row) → ((bounds : Bounds) → Numbered limits bounds → Allowed limits (row bounds)) →
      ((bounds : Bounds) → Numbered limits bounds → Allowed limits (back bounds)) → (bounds : Bounds) → Numbered limits bounds →
      AllByRecursion (Allowed limits) (around_bounds s row back bounds).rows
  bounds_allowed s row back f g bounds h = outside_allowed Number s (row bounds) (side back (under bounds.lower)) (side back (over bounds.upper)) (f bounds h)
      (side_allowed back (under bounds.lower) (weaker (under bounds.lower) (Numbered limits) _ g (under_numbered bounds.lower h.0)))
      (side_allowed back (over bounds.upper) (weaker (over bounds.upper) (Numbered limits) _ g (over_numbered bounds.upper h.1)))

  row_allowed : (f : ℕ → Place) (d s : ℕ) (row : Row) → Allowed limits row → AllByRecursion (Allowed limits) (adds f d s row).rows
  row_allowed f d s True h = tt
  row_allowed f d s False h = tt
  row_allowed f d s (OfType t) h = (tt, (tt, (tt, (tt, tt))))
  row_allowed f d s (BooleanIs b) h = (tt, (tt, (tt, tt)))
  row_allowed f d s (Pattern p) h = (h, (h, (tt, tt)))
  row_allowed f d s (NotPattern p) h = (h, (h, (tt, tt)))
  row_allowed f d s (Length range) h = range_allowed Text s Length (λ _ k. k) range h
  row_allowed f d s (Between bounds) h = bounds_allowed s Between StrictlyBetween (λ _ k. k) (λ _ k. k) bounds h
  row_allowed f d s (StrictlyBetween bounds) h = bounds_allowed s StrictlyBetween Between (λ _ k. k) (λ _ k. k) bounds h
  row_allowed f d s (Multiple q) h = (h, (h, (tt, tt)))
  row_allowed f d s (NotMultiple q) h = (h, (h, (tt, tt)))
  row_allowed f d s (EveryMember p o) h = (h, (h, (tt, tt)))
  row_allowed f d s (SomeMember p o) h = (h, (h, (tt, tt)))
  row_allowed f d s (Members range) h = range_allowed Object s Members (λ _ k. k) range h
  row_allowed f d s (EveryElement o) h = (tt, (tt, (tt, tt)))
  row_allowed f d s (SomeElement o) h = (tt, (tt, (tt, tt)))
  row_allowed f d s (Count o range) h = range_allowed Listed s (Count (f o).positive) (λ _ k. k) range h
  row_allowed f d s (And a b) h = (tt, (tt, tt))
  row_allowed f d s (Or a b) h = (tt, (tt, tt))
  row_allowed f d s (Not o) h = tt
  row_allowed f d s (Variable v) h = (tt, (tt, tt))

  all_allowed : (d : ℕ) (rows : List Row) (c : Clearing) → AllByRecursion (Allowed limits) rows → AllByRecursion (Allowed limits) c.written → AllByRecursion (Allowed limits) (clearing d c rows).written
  all_allowed d [] c h w = w
  all_allowed d (row ∷ rows) c h w = all_allowed d rows (next d c row) h.1
      (All-append (Allowed limits) c.written (adds (look_up c.places) d (length c.written) row).rows w (row_allowed (look_up c.places) d (length c.written) row h.0))

pub keeps_allowed : (limits : Limits) (book : Book) → AllByRecursion (Allowed limits) book.rows → AllByRecursion (Allowed limits) (clear book).rows
keeps_allowed limits book h = all_allowed limits (length book.definitions) book.rows begun h (tt, (tt, (tt, (tt, (tt, (tt, (tt, (tt, tt))))))))
