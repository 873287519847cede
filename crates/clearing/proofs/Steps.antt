-- One row more of a clearing: what it writes, and how much.
use Rattle.std.proofs.Common.{◌≡◌, ℕ, zero, suc, ◌+◌, ◌<◌, ◌≤◌, Bool, true, false, ltb, List, [], ◌∷◌, ◌*◌, length, get_or, take, drop, is_some, Some, None, Option, IfSome, sym, refl, ap, ◌∙◌, subst, arith, length-append, take-append-drop}
use Rattle.std.specs.Bool.{MatchBool}
use Rattle.std.specs.List.{sum_by, AllWithin, HoldsAt}
use Rattle.std.proofs.lemmas.List.{get_or_default}
use Rattle.std.proofs.lemmas.List.Sums.{sum_by-cons}
use Rattle.std.proofs.lemmas.Bool.{lt-ltb}
use Rattle.rules.specs.declared.place.Place.{Place}
use Rattle.rules.specs.declared.row.ValueType.{ValueType}
use Rattle.rules.specs.declared.row.ValueType.TheVariants.{Number, Text, List as Listed, Object}
use Rattle.rules.specs.declared.row.Range.{Range}
use Rattle.rules.specs.declared.row.Bounds.{Bounds}
use Rattle.rules.specs.declared.row.Row.{Row}
use Rattle.rules.specs.declared.row.Row.TheVariants.{True, False, OfType, BooleanIs, Pattern, NotPattern, Length, Between, StrictlyBetween, Multiple, NotMultiple, EveryMember, SomeMember, Members, EveryElement, SomeElement, Count, And, Or, Not, Variable}
use Rattle.rules.specs.Clear.{Clearing, outside, side, below, above, under, over, adds, look_up, next, clearing, begun}
use Rattle.rules.proofs.Standing.{split_rows, written_grows}
use Rattle.clearing.specs.Adding.{Plain}
use Rattle.clearing.specs.Counting.{sides, range_length, bounds_length, added_length, AllPlain, RowsCount}
use Rattle.clearing.specs.Views.{Told}

sides_few : (low high : Bool) → sides low high ≤ 5
sides_few false false = omega arith
sides_few true false = omega arith
sides_few false true = omega arith
sides_few true true = omega arith

-- the sides of a range, and of bounds
range_rows : (t : ValueType) (s : ℕ) (row : Range → Row) (range : Range) (l : ℕ) (u : Option ℕ) →
    length (outside t s (row range) (side row (below l)) (side row (above u))).rows ≡ range_length (record { lower = l; upper = u })
range_rows t s row range zero None = refl
range_rows t s row range zero (Some u) = refl
range_rows t s row range (suc l) None = ap (λ b. sides b false) (sym (lt-ltb 0 (suc l) (omega arith)))
range_rows t s row range (suc l) (Some u) = ap (λ b. sides b true) (sym (lt-ltb 0 (suc l) (omega arith)))

bounds_rows : (s : ℕ) (row back : Bounds → Row) (bounds : Bounds) (l u : Option ℕ) →
    length (outside Number s (row bounds) (side back (under l)) (side back (over u))).rows ≡ bounds_length (record { lower = l; upper = u })
bounds_rows s row back bounds None None = refl
bounds_rows s row back bounds None (Some u) = refl
bounds_rows s row back bounds (Some l) None = refl
bounds_rows s row back bounds (Some l) (Some u) = refl

range_few : (range : Range) → range_length range ≤ 5
range_few range = sides_few (ltb 0 range.lower) (is_some range.upper)

bounds_few : (bounds : Bounds) → bounds_length bounds ≤ 5
bounds_few bounds = sides_few (is_some bounds.lower) (is_some bounds.upper)

-- the rows that a row adds are as many, and at most five
pub adds_length : (places : ℕ → Place) (d s : ℕ) (row : Row) → (length (adds places d s row).rows ≡ added_length row) × (added_length row ≤ 5)
adds_length places d s True = (refl, omega arith)
adds_length places d s False = (refl, omega arith)
adds_length places d s (OfType t) = (refl, omega arith)
adds_length places d s (BooleanIs b) = (refl, omega arith)
adds_length places d s (Pattern p) = (refl, omega arith)
adds_length places d s (NotPattern p) = (refl, omega arith)
adds_length places d s (Length range) = (range_rows Text s Length range range.lower range.upper, range_few range)
adds_length places d s (Between bounds) = (bounds_rows s Between StrictlyBetween bounds bounds.lower bounds.upper, bounds_few bounds)
adds_length places d s (StrictlyBetween bounds) = (bounds_rows s StrictlyBetween Between bounds bounds.lower bounds.upper, bounds_few bounds)
adds_length places d s (Multiple q) = (refl, omega arith)
adds_length places d s (NotMultiple q) = (refl, omega arith)
adds_length places d s (EveryMember p o) = (refl, omega arith)
adds_length places d s (SomeMember p o) = (refl, omega arith)
adds_length places d s (Members range) = (range_rows Object s Members range range.lower range.upper, range_few range)
adds_length places d s (EveryElement o) = (refl, omega arith)
adds_length places d s (SomeElement o) = (refl, omega arith)
adds_length places d s (Count o range) = (range_rows Listed s (Count (places o).positive) range range.lower range.upper, range_few range)
adds_length places d s (And a b) = (refl, omega arith)
adds_length places d s (Or a b) = (refl, omega arith)
adds_length places d s (Not o) = (refl, omega arith)
adds_length places d s (Variable v) = (refl, omega arith)

grows : (d : ℕ) (c : Clearing) (rows : List Row) → length c.written ≤ length (clearing d c rows).written
grows d c rows = let w = written_grows d rows c in omega (arith, ap length w.1 ∙ length-append c.written w.0)

-- the first r rows are written within what all are
pub part_short : (d : ℕ) (rows : List Row) (r : ℕ) → length (clearing d begun (take r rows)).written ≤ length (clearing d begun rows).written
part_short d rows r =
    let whole : clearing d begun rows ≡ clearing d (clearing d begun (take r rows)) (drop r rows) =
    ap (clearing d begun) (sym (take-append-drop r rows)) ∙ split_rows d begun (take r rows) (drop r rows) in
    omega (arith, grows d (clearing d begun (take r rows)) (drop r rows), ap (λ c. length c.written) whole)

pub plain_at : (d : ℕ) (rows : List Row) (r : ℕ) (x : Row) → r < length rows → AllPlain d rows → Plain d (get_or rows r x)
plain_at d rows r x h all = subst (Plain d) (get_or_default rows r False x h) (all.1 r h)

-- the rows that are added, all in all
pub written_length : (d : ℕ) (c : Clearing) (rows : List Row) → length (clearing d c rows).written ≡ length c.written + sum_by added_length rows
written_length d c [] = omega arith
written_length d c (row ∷ rows) =
    let new = adds (look_up c.places) d (length c.written) row in
    omega (
      arith,
      written_length d (next d c row) rows,
      length-append c.written new.rows,
      (adds_length (look_up c.places) d (length c.written) row).0,
      sum_by-cons added_length row rows,
    )

pub counts_few : (rows : List Row) → sum_by added_length rows ≤ 5 * length rows
counts_few [] = omega arith
counts_few (row ∷ rows) = omega (arith, counts_few rows, (adds_length (look_up []) 0 0 row).1, sum_by-cons added_length row rows)

-- whether the complement of a row can be written down, asked of all rows
abbrev pub NotPlain : ℕ → Row → Type 0
NotPlain d row = Plain d row → ⊥

pub told_of_each : (d : ℕ) (rows : List Row) (b : Bool) → length rows ≤ 2048 →
    MatchBool b (AllWithin (Plain d) rows 0 (length rows)) ((k : ℕ) × (k < length rows) × HoldsAt (NotPlain d) rows k) → Told b (AllPlain d rows)
told_of_each d rows true few all = (few, λ r h. all r False (omega arith) h)
told_of_each d rows false few (k, h, not_plain) = λ plain. not_plain False (plain.1 k h)

-- plain rows are counted, and no others
pub counted : (d : ℕ) (rows : List Row) (plain : Bool) (r : Option ℕ) → Told plain (AllPlain d rows) → is_some r ≡ plain →
    IfSome r (λ n. n ≡ 8 + sum_by added_length rows) → RowsCount d rows r
counted d rows true None told e n = cc
counted d rows false None told e n = told
counted d rows true (Some n) told e is = (told, omega (arith, written_length d begun rows, is))
counted d rows false (Some n) told e is = cc
