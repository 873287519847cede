-- A cleared book is guarded if the book is: every chain of direct needs in it ends.
use Rattle.std.proofs.Common.{◌≡◌, ℕ, zero, suc, ◌+◌, ◌<◌, List, [], length, get_or, Some, None, Option, sym, refl, subst, ⊎_elim, add-zero, arith, lit<}
use Rattle.std.specs.List.{AllByRecursion}
use Rattle.std.proofs.lemmas.Bool.{cases_lt}
use Rattle.rules.specs.declared.row.ValueType.{ValueType}
use Rattle.rules.specs.declared.row.ValueType.TheVariants.{Null, Boolean, Number, Text, List as Listed, Object}
use Rattle.rules.specs.declared.row.Range.{Range}
use Rattle.rules.specs.declared.row.Bounds.{Bounds}
use Rattle.rules.specs.declared.row.Row.{Row}
use Rattle.rules.specs.declared.row.Row.TheVariants.{True, False, OfType, BooleanIs, Pattern, NotPattern, Length, Between, StrictlyBetween, Multiple, NotMultiple, EveryMember, SomeMember, Members, EveryElement, SomeElement, Count, And, Or, Not, Variable}
use Rattle.rules.specs.Value.{◌∈◌}
use Rattle.rules.specs.Book.{Book, row_at, body_at, needs, variables, Needs, direct, through, IfThere}
use Rattle.rules.specs.Value.{type_index}
use Rattle.rules.specs.declared.place.Place.{Place}
use Rattle.rules.specs.Clear.{Added, fixed, other_type, turn, outside, below, above, under, over, side, around_range, around_bounds, adds}
use Rattle.rules.proofs.Guard.{Ends, ends, all_in, then}
use Rattle.rules.proofs.Tidy.{index_lt, other_lt}

-- where chains end, no row needs itself
no_way_back : {book : Book} {r : ℕ} → Ends book r → (o : ℕ) → o ≡ r → Needs book r o → ⊥
no_way_back {book} (ends f) o e (direct h) = no_way_back (f o h) o refl (subst (λ k. Needs book k o) (sym e) (direct h))
no_way_back {book} (ends f) o e (through {m = m} h n) = no_way_back (f m h) m refl (then m (subst (λ k. Needs book m k) e n) h)

pub no_cycle : {book : Book} {r : ℕ} → Ends book r → Needs book r r → ⊥
no_cycle {book} {r} h n = no_way_back h r refl n

-- In a book whose first rows are the fixed ones.
module _ (book : Book) (base : (k : ℕ) → k < 8 → row_at book k ≡ get_or fixed k False) where
  made : (k : ℕ) (row : Row) → row_at book k ≡ row → AllByRecursion (Ends book) (needs book row) → Ends book k
  made k row e h = ends (λ o m. all_in (Ends book) (needs book row) h (subst (λ x. o ∈ needs book x) e m))

  pub base_ends : (k : ℕ) → k < 8 → Ends book k
  base_ends zero h = made 0 (OfType Null) (base 0 (lit< tt)) tt
  base_ends (suc zero) h = made 1 (OfType Boolean) (base 1 (lit< tt)) tt
  base_ends (suc (suc zero)) h = made 2 (OfType Number) (base 2 (lit< tt)) tt
  base_ends (suc (suc (suc zero))) h = made 3 (OfType Text) (base 3 (lit< tt)) tt
  base_ends (suc (suc (suc (suc zero)))) h = made 4 (OfType Listed) (base 4 (lit< tt)) tt
  base_ends (suc (suc (suc (suc (suc zero))))) h = made 5 (OfType Object) (base 5 (lit< tt)) tt
  base_ends (suc (suc (suc (suc (suc (suc zero)))))) h = made 6 True (base 6 (lit< tt)) tt
  base_ends (suc (suc (suc (suc (suc (suc (suc zero))))))) h = made 7 False (base 7 (lit< tt)) tt
  base_ends (suc (suc (suc (suc (suc (suc (suc (suc k)))))))) h = absurd (omega arith)

  type_ends : (t : ValueType) → Ends book (type_index t)
  type_ends t = base_ends (type_index t) (omega (arith, index_lt t))

  -- chains end from each of the m rows from s on
  abbrev pub Upto : ℕ → ℕ → Type 0
  Upto s zero = Unit {0}
  Upto s (suc m) = Upto s m × Ends book (s + m)

  pub upto_at : (s m : ℕ) → Upto s m → (j : ℕ) → j < m → Ends book (s + j)
  upto_at s zero u j h = absurd (omega arith)
  upto_at s (suc m) u j h = ⊎_elim (λ l. upto_at s m u.0 j l)
      (λ l. let e : m ≡ j = omega arith in subst (λ i. Ends book (s + i)) e u.1) (cases_lt j m)

  -- rows that a row adds: chains end there, and at its place
  pub record Rooted (s : ℕ) (new : Added) : Type 0 where
    pub all : Upto s (length new.rows)
    pub positive : Ends book new.stands.positive
    pub negative : Ends book new.stands.negative

  abbrev pub Reads : ℕ → List Row → Type 0
  Reads s rows = (j : ℕ) → j < length rows → row_at book (s + j) ≡ get_or rows j False

  abbrev Leaf : Row → Type 0
  Leaf row = needs book row ≡ []

  leaf : (k : ℕ) (row : Row) → row_at book k ≡ row → Leaf row → Ends book k
  leaf k row e l = made k row e (rw l tt)

  at_start : (s : ℕ) → Ends book (s + 0) → Ends book s
  at_start s h = rw add-zero at h

  turn_rooted : (t : ValueType) (s : ℕ) (row back : Row) → Leaf row → Leaf back → Reads s (turn t s row back).rows → Rooted s (turn t s row back)
  turn_rooted t s row back l k reads =
      let a = leaf (s + 0) row (reads 0 (lit< tt)) l in
      let b = leaf (s + 1) back (reads 1 (lit< tt)) k in
      let c = made (s + 2) (And (type_index t) (s + 1)) (reads 2 (lit< tt)) (type_ends t, (b, tt)) in
      record { all = (((tt, a), b), c); positive = at_start s a; negative = c }

  outside_rooted : (t : ValueType) (s : ℕ) (row : Row) (low high : Option Row) → Leaf row → IfThere low Leaf → IfThere high Leaf →
      Reads s (outside t s row low high).rows → Rooted s (outside t s row low high)
  outside_rooted t s row None None h l u reads =
      let a = leaf (s + 0) row (reads 0 (lit< tt)) h in
      record { all = (tt, a); positive = at_start s a; negative = base_ends 7 (lit< tt) }
  outside_rooted t s row (Some low) None h l u reads = turn_rooted t s row low h l reads
  outside_rooted t s row None (Some high) h l u reads = turn_rooted t s row high h u reads
  outside_rooted t s row (Some low) (Some high) h l u reads =
      let a = leaf (s + 0) row (reads 0 (lit< tt)) h in
      let b = leaf (s + 1) low (reads 1 (lit< tt)) l in
      let c = leaf (s + 2) high (reads 2 (lit< tt)) u in
      let e = made (s + 3) (Or (s + 1) (s + 2)) (reads 3 (lit< tt)) (b, (c, tt)) in
      let g = made (s + 4) (And (type_index t) (s + 3)) (reads 4 (lit< tt)) (type_ends t, (e, tt)) in
      record { all = (((((tt, a), b), c), e), g); positive = at_start s a; negative = g }

  leaf_side : {A : Type 0} (row : A → Row) → ((x : A) → Leaf (row x)) → (o : Option A) → IfThere (side row o) Leaf
  leaf_side row h None = tt
  leaf_side row h (Some x) = h x

  range_rooted : (t : ValueType) (s : ℕ) (row : Range → Row) → ((range : Range) → Leaf (row range)) → (range : Range) →
      Reads s (around_range t s row range).rows → Rooted s (around_range t s row range)
  range_rooted t s row h range = outside_rooted t s (row range) _ _ (h range) (leaf_side row h (below range.lower)) (leaf_side row h (above range.upper))

  bounds_rooted : (s : ℕ) (row back : Bounds → Row) → ((bounds : Bounds) → Leaf (row bounds)) → ((bounds : Bounds) → Leaf (back bounds)) → (bounds : Bounds) →
      Reads s (around_bounds s row back bounds).rows → Rooted s (around_bounds s row back bounds)
  bounds_rooted s row back h k bounds = outside_rooted Number s (row bounds) _ _ (h bounds) (leaf_side back k (under bounds.lower)) (leaf_side back k (over bounds.upper))

  module _ (original : Book) (places : ℕ → Place)
      (variable : (v : ℕ) → v < length original.definitions →
      (body_at book v ≡ (places (body_at original v)).positive) × (body_at book (length original.definitions + v) ≡ (places (body_at original v)).negative)) where
    pub row_rooted : (s : ℕ) (row : Row) → AllByRecursion (λ o. Ends book (places o).positive × Ends book (places o).negative) (needs original row) →
        AllByRecursion (λ v. v < length original.definitions) (variables row) →
        Reads s (adds places (length original.definitions) s row).rows → Rooted s (adds places (length original.definitions) s row)
    row_rooted s True h v reads = record { all = tt; positive = base_ends 6 (lit< tt); negative = base_ends 7 (lit< tt) }
    row_rooted s False h v reads = record { all = tt; positive = base_ends 7 (lit< tt); negative = base_ends 6 (lit< tt) }
    row_rooted s (OfType t) h v reads =
        let other : (k : ℕ) → k < 5 → Ends book (other_type t k) = λ k l. base_ends (other_type t k) (omega (arith, other_lt t k l)) in
        let a = made (s + 0) _ (reads 0 (lit< tt)) (other 0 (lit< tt), (other 1 (lit< tt), tt)) in
        let b = made (s + 1) _ (reads 1 (lit< tt)) (at_start s a, (other 2 (lit< tt), tt)) in
        let c = made (s + 2) _ (reads 2 (lit< tt)) (b, (other 3 (lit< tt), tt)) in
        let e = made (s + 3) _ (reads 3 (lit< tt)) (c, (other 4 (lit< tt), tt)) in
        record { all = ((((tt, a), b), c), e); positive = type_ends t; negative = e }
    row_rooted s (BooleanIs c) h v reads = turn_rooted Boolean s _ _ refl refl reads
    row_rooted s (Pattern p) h v reads = turn_rooted Text s _ _ refl refl reads
    row_rooted s (NotPattern p) h v reads = turn_rooted Text s _ _ refl refl reads
    row_rooted s (Length range) h v reads = range_rooted Text s Length (λ _. refl) range reads
    row_rooted s (Between bounds) h v reads = bounds_rooted s Between StrictlyBetween (λ _. refl) (λ _. refl) bounds reads
    row_rooted s (StrictlyBetween bounds) h v reads = bounds_rooted s StrictlyBetween Between (λ _. refl) (λ _. refl) bounds reads
    row_rooted s (Multiple q) h v reads = turn_rooted Number s _ _ refl refl reads
    row_rooted s (NotMultiple q) h v reads = turn_rooted Number s _ _ refl refl reads
    row_rooted s (EveryMember p o) h v reads = turn_rooted Object s _ _ refl refl reads
    row_rooted s (SomeMember p o) h v reads = turn_rooted Object s _ _ refl refl reads
    row_rooted s (Members range) h v reads = range_rooted Object s Members (λ _. refl) range reads
    row_rooted s (EveryElement o) h v reads = turn_rooted Listed s _ _ refl refl reads
    row_rooted s (SomeElement o) h v reads = turn_rooted Listed s _ _ refl refl reads
    row_rooted s (Count o range) h v reads = range_rooted Listed s (Count (places o).positive) (λ _. refl) range reads
    row_rooted s (And a c) h v reads =
        let x = made (s + 0) _ (reads 0 (lit< tt)) (h.0.0, (h.1.0.0, tt)) in
        let y = made (s + 1) _ (reads 1 (lit< tt)) (h.0.1, (h.1.0.1, tt)) in
        record { all = ((tt, x), y); positive = at_start s x; negative = y }
    row_rooted s (Or a c) h v reads =
        let x = made (s + 0) _ (reads 0 (lit< tt)) (h.0.0, (h.1.0.0, tt)) in
        let y = made (s + 1) _ (reads 1 (lit< tt)) (h.0.1, (h.1.0.1, tt)) in
        record { all = ((tt, x), y); positive = at_start s x; negative = y }
    row_rooted s (Not o) h v reads = record { all = tt; positive = h.0.1; negative = h.0.0 }
    row_rooted s (Variable w) h v reads =
        let bodies = variable w v.0 in
        let x = made (s + 0) (Variable w) (reads 0 (lit< tt)) (rw bodies.0 h.0.0, tt) in
        let y = made (s + 1) (Variable (length original.definitions + w)) (reads 1 (lit< tt)) (rw bodies.1 h.0.1, tt) in
        record { all = ((tt, x), y); positive = at_start s x; negative = y }
