-- What a clearing writes: no `not`, operands lower than their row, at most five rows for a row.
use Rattle.std.proofs.Common.{◌≡◌, ℕ, zero, suc, ◌+◌, ◌*◌, ◌<◌, ◌≤◌, ltb, List, [], ◌∷◌, ◌++◌, length, get_or, Some, None, Option, subst, add-zero, zero-add, arith, lit<, length-append}
use Rattle.std.specs.List.{AllByRecursion}
use Rattle.std.proofs.lemmas.Bool.{cond_both}
use Rattle.std.proofs.ByRecursion.{All-weaker, All-get_or, All-append}
use Rattle.rules.specs.declared.row.ValueType.{ValueType}
use Rattle.rules.specs.declared.row.ValueType.TheVariants.{Null, Boolean, Number, Text, List as Listed, Object}
use Rattle.rules.specs.declared.row.Range.{Range}
use Rattle.rules.specs.declared.row.Bounds.{Bounds}
use Rattle.rules.specs.declared.row.Row.{Row}
use Rattle.rules.specs.declared.row.Row.TheVariants.{True, False, OfType, BooleanIs, Pattern, NotPattern, Length, Between, StrictlyBetween, Multiple, NotMultiple, EveryMember, SomeMember, Members, EveryElement, SomeElement, Count, And, Or, Not, Variable}
use Rattle.rules.specs.Book.{Reach, nothing, inner, both, negated, body, reach, operands, variables, IfThere}
use Rattle.rules.specs.Value.{type_index}
use Rattle.rules.specs.declared.place.Place.{Place}
use Rattle.rules.specs.Clear.{place, Added, other_type, outside, below, above, under, over, side, around_range, around_bounds, adds, Clearing, look_up, next, clearing, begun}

-- not a `not`
abbrev Straight : Reach → Type 0
Straight nothing = Unit {0}
Straight (inner o) = Unit {0}
Straight (both a b) = Unit {0}
Straight (negated o) = ⊥
Straight (body v) = Unit {0}

abbrev Positive : Row → Type 0
Positive row = Straight (reach row)

pub positive_not : (row : Row) → Positive row → (o : ℕ) → row ≡ Not o → ⊥
positive_not row h o e = subst Positive e h

-- row s of a cleared book, d the original's count of definitions
pub record Tidy (d s : ℕ) (row : Row) : Type 0 where
  pub lower : AllByRecursion (λ o. o < s) (operands row)
  pub defined : AllByRecursion (λ v. v < d + d) (variables row)
  pub plain : Positive row

-- each of the rows from s on
abbrev pub Tidies : ℕ → ℕ → List Row → Type 0
Tidies d s [] = Unit {0}
Tidies d s (row ∷ rows) = Tidy d s row × Tidies d (suc s) rows

pub record Neat (d s : ℕ) (new : Added) : Type 0 where
  pub tidies : Tidies d s new.rows
  pub positive : new.stands.positive < s + length new.rows
  pub negative : new.stands.negative < s + length new.rows
  pub few : length new.rows ≤ 5

pub index_lt : (t : ValueType) → type_index t < 6
index_lt Null = lit< tt
index_lt Boolean = lit< tt
index_lt Number = lit< tt
index_lt Text = lit< tt
index_lt Listed = lit< tt
index_lt Object = lit< tt

pub other_lt : (t : ValueType) (k : ℕ) → k < 5 → other_type t k < 6
other_lt t k h = cond_both (ltb k (type_index t)) k (k + 1) (λ x. x < 6) (λ e. omega arith) (λ e. omega arith)

module _ (f : ℕ → Place) (d s : ℕ) (eight : 8 ≤ s) where
  -- tidy wherever it is written from s on
  abbrev Sound : Row → Type 0
  Sound row = (k : ℕ) → s ≤ k → Tidy d k row

  neat_outside : (t : ValueType) (row : Row) (low high : Option Row) → Sound row → IfThere low Sound → IfThere high Sound → Neat d s (outside t s row low high)
  neat_outside t row None None h l u = record { tidies = (h s (omega arith), tt); positive = omega arith; negative = omega arith; few = omega arith }
  neat_outside t row (Some low) None h l u = record {
    tidies = (h s (omega arith), (l (suc s) (omega arith), (omega (arith, index_lt t), tt)));
    positive = omega arith;
    negative = omega arith;
    few = omega arith;
  }
  neat_outside t row None (Some high) h l u = record {
    tidies = (h s (omega arith), (u (suc s) (omega arith), (omega (arith, index_lt t), tt)));
    positive = omega arith;
    negative = omega arith;
    few = omega arith;
  }
  neat_outside t row (Some low) (Some high) h l u = record {
    tidies = (h s (omega arith), (l (suc s) (omega arith), (u (suc (suc s)) (omega arith), (omega arith, (omega (arith, index_lt t), tt)))));
    positive = omega arith;
    negative = omega arith;
    few = omega arith;
  }

  sound_side : {A : Type 0} (row : A → Row) → ((x : A) → Sound (row x)) → (o : Option A) → IfThere (side row o) Sound
  sound_side row h None = tt
  sound_side row h (Some x) = h x

  neat_range : (t : ValueType) (row : Range → Row) → ((range : Range) → Sound (row range)) → (range : Range) → Neat d s (around_range t s row range)
  neat_range t row h range = neat_outside t (row range) _ _ (h range) (sound_side row h (below range.lower)) (sound_side row h (above range.upper))

  neat_bounds : (row back : Bounds → Row) → ((bounds : Bounds) → Sound (row bounds)) → ((bounds : Bounds) → Sound (back bounds)) → (bounds : Bounds) →
      Neat d s (around_bounds s row back bounds)
  neat_bounds row back h k bounds = neat_outside Number (row bounds) _ _ (h bounds) (sound_side back k (under bounds.lower)) (sound_side back k (over bounds.upper))

  neat : (row : Row) → AllByRecursion (λ o. ((f o).positive < s) × ((f o).negative < s)) (operands row) → AllByRecursion (λ v. v < d) (variables row) → Neat d s (adds f d s row)
  neat True h v = omega arith
  neat False h v = omega arith
  neat (OfType t) h v = omega (arith, index_lt t, other_lt t 0 (lit< tt), other_lt t 1 (lit< tt), other_lt t 2 (lit< tt), other_lt t 3 (lit< tt), other_lt t 4 (lit< tt))
  neat (BooleanIs b) h v = omega arith
  neat (Pattern p) h v = omega arith
  neat (NotPattern p) h v = omega arith
  neat (Length range) h v = neat_range Text Length (λ _. omega arith) range
  neat (Between bounds) h v = neat_bounds Between StrictlyBetween (λ _. omega arith) (λ _. omega arith) bounds
  neat (StrictlyBetween bounds) h v = neat_bounds StrictlyBetween Between (λ _. omega arith) (λ _. omega arith) bounds
  neat (Multiple q) h v = omega arith
  neat (NotMultiple q) h v = omega arith
  neat (EveryMember p o) h v = omega arith
  neat (SomeMember p o) h v = omega arith
  neat (Members range) h v = neat_range Object Members (λ _. omega arith) range
  neat (EveryElement o) h v = omega arith
  neat (SomeElement o) h v = omega arith
  neat (Count o range) h v = neat_range Listed (Count (f o).positive) (λ _. omega arith) range
  neat (And a b) h v = omega arith
  neat (Or a b) h v = omega arith
  neat (Not o) h v = omega arith
  neat (Variable w) h v = omega arith

-- the rows written so far
tidies_append : (d s : ℕ) (xs ys : List Row) → Tidies d s xs → Tidies d (s + length xs) ys → Tidies d s (xs ++ ys)
tidies_append d s [] ys h k = rw add-zero at k
tidies_append d s (x ∷ xs) ys h k =
    let e : s + suc (length xs) ≡ suc s + length xs = omega arith in
    (h.0, tidies_append d (suc s) xs ys h.1 (subst (λ p. Tidies d p ys) e k))

pub tidy_at : (d s : ℕ) (rows : List Row) → Tidies d s rows → (k : ℕ) → k < length rows → Tidy d (s + k) (get_or rows k False)
tidy_at d s [] h k l = absurd (omega arith)
tidy_at d s (row ∷ rows) h zero l = rw add-zero h.0
tidy_at d s (row ∷ rows) h (suc k) l =
    let e : suc s + k ≡ s + suc k = omega arith in
    subst (λ p. Tidy d p (get_or rows k False)) e (tidy_at d (suc s) rows h.1 k (omega arith))

-- a clearing in order
pub record Ordered (d : ℕ) (c : Clearing) : Type 0 where
  pub eight : 8 ≤ length c.written
  pub tidies : Tidies d 0 c.written
  pub placed : AllByRecursion (λ p. (p.positive < length c.written) × (p.negative < length c.written)) c.places

ordered_next : (d : ℕ) (c : Clearing) (row : Row) → AllByRecursion (λ o. o < length c.places) (operands row) → AllByRecursion (λ v. v < d) (variables row) → Ordered d c →
    Ordered d (next d c row) × (length (next d c row).written ≤ length c.written + 5)
ordered_next d c row lower defined o =
    let new = adds (look_up c.places) d (length c.written) row in
    let fine = neat (look_up c.places) d (length c.written) o.eight row
    (All-weaker (λ r. r < length c.places) (λ r. ((look_up c.places r).positive < length c.written) × ((look_up c.places r).negative < length c.written))
    (λ r l. All-get_or (λ p. (p.positive < length c.written) × (p.negative < length c.written)) c.places r (place 0 0) l o.placed) (operands row) lower)
    defined in
    let longer = length-append c.written new.rows in (
      record {
        eight = omega (arith, o.eight);
        tidies = tidies_append d 0 c.written new.rows o.tidies (rw zero-add fine.tidies);
        placed = All-append _ c.places (new.stands ∷ [])
            (All-weaker (λ p. (p.positive < length c.written) × (p.negative < length c.written)) _ (λ p l. (omega arith, omega arith)) c.places o.placed)
            ((omega (arith, fine.positive), omega (arith, fine.negative)), tt);
      },
      omega (arith, fine.few),
    )

pub ordered : (d : ℕ) (rows : List Row) (c : Clearing) →
    ((i : ℕ) → i < length rows → AllByRecursion (λ o. o < length c.places + i) (operands (get_or rows i False))) →
    ((i : ℕ) → i < length rows → AllByRecursion (λ v. v < d) (variables (get_or rows i False))) → Ordered d c →
    Ordered d (clearing d c rows) × (length (clearing d c rows).written ≤ length c.written + 5 * length rows) × (length (clearing d c rows).places ≡ length c.places + length rows)
ordered d [] c lower defined o = (o, omega arith, omega arith)
ordered d (row ∷ rows) c lower defined o =
    let new = adds (look_up c.places) d (length c.written) row in
    let longer = length-append c.places (new.stands ∷ []) in
    let first = ordered_next d c row
    (All-weaker (λ r. r < length c.places + 0) (λ r. r < length c.places) (λ r l. omega arith) (operands row) (lower 0 (omega arith)))
    (defined 0 (omega arith)) o in
    let rest = ordered d rows (next d c row)
    (λ i h. All-weaker (λ r. r < length c.places + suc i) (λ r. r < length (next d c row).places + i) (λ r l. omega arith) (operands (get_or rows i False)) (lower (suc i) (omega arith)))
    (λ i h. defined (suc i) (omega arith)) first.0 in
    (rest.0, omega (arith, rest.1, first.1), omega (arith, rest.2))

pub begun_ordered : (d : ℕ) → Ordered d begun
begun_ordered d = record { eight = omega arith; tidies = omega arith; placed = tt }
