-- Where the rows of a cleared book stand.
use Rattle.std.proofs.Common.{◌≡◌, ℕ, suc, ◌+◌, ◌-◌, ◌<◌, ◌≤◌, List, [], ◌∷◌, ◌++◌, length, get_or, take, drop, sym, refl, ap, ◌∙◌, subst, ⊎_elim, append_assoc, append-nil, arith, length-append, take-append-drop, get_or-append-add}
use lib.ListN.{get_or-append}
use lib.Seq.{get_or-append_seam}
use Rattle.std.specs.List.{AllByRecursion}
use Rattle.std.proofs.ByRecursion.{All-weaker}
use Rattle.std.proofs.lemmas.List.{take_more, drop_more, length-take-le}
use Rattle.std.proofs.lemmas.Bool.{cases_lt}
use Rattle.rules.specs.declared.row.ValueType.TheVariants.{List as Listed, Object}
use Rattle.rules.specs.declared.row.Row.{Row}
use Rattle.rules.specs.declared.row.Row.TheVariants.{True, False, OfType, BooleanIs, Pattern, NotPattern, Length, Between, StrictlyBetween, Multiple, NotMultiple, EveryMember, SomeMember, Members, EveryElement, SomeElement, Count, And, Or, Not, Variable}
use Rattle.rules.specs.Book.{Book, row_at, operands}
use Rattle.rules.proofs.Founded.{WellFounded}
use Rattle.rules.specs.declared.place.Place.{Place}
use Rattle.rules.specs.Clear.{place, Added, added, turn, around_range, adds, Clearing, look_up, next, clearing, begun, cleared}

-- what a row adds looks only at the places of the rows that it names
pub adds_same : (f g : ℕ → Place) (d s : ℕ) (row : Row) → AllByRecursion (λ o. f o ≡ g o) (operands row) → adds f d s row ≡ adds g d s row
adds_same f g d s True h = refl
adds_same f g d s False h = refl
adds_same f g d s (OfType t) h = refl
adds_same f g d s (BooleanIs b) h = refl
adds_same f g d s (Pattern p) h = refl
adds_same f g d s (NotPattern p) h = refl
adds_same f g d s (Length range) h = refl
adds_same f g d s (Between bounds) h = refl
adds_same f g d s (StrictlyBetween bounds) h = refl
adds_same f g d s (Multiple q) h = refl
adds_same f g d s (NotMultiple q) h = refl
adds_same f g d s (EveryMember p o) h = ap (λ x. turn Object s (EveryMember p x.positive) (SomeMember p x.negative)) h.0
adds_same f g d s (SomeMember p o) h = ap (λ x. turn Object s (SomeMember p x.positive) (EveryMember p x.negative)) h.0
adds_same f g d s (Members range) h = refl
adds_same f g d s (EveryElement o) h = ap (λ x. turn Listed s (EveryElement x.positive) (SomeElement x.negative)) h.0
adds_same f g d s (SomeElement o) h = ap (λ x. turn Listed s (SomeElement x.positive) (EveryElement x.negative)) h.0
adds_same f g d s (Count o range) h = ap (λ x. around_range Listed s (Count x.positive) range) h.0
adds_same f g d s (And a b) h = rw (h.0, h.1.0)
adds_same f g d s (Or a b) h = rw (h.0, h.1.0)
adds_same f g d s (Not o) h = ap (λ x. added [] x.negative x.positive) h.0
adds_same f g d s (Variable v) h = refl

-- a clearing goes on from what it has done
pub split_rows : (d : ℕ) (c : Clearing) (xs ys : List Row) → clearing d c (xs ++ ys) ≡ clearing d (clearing d c xs) ys
split_rows d c [] ys = refl
split_rows d c (x ∷ xs) ys = split_rows d (next d c x) xs ys

pub row_more : (d : ℕ) (rows : List Row) (r : ℕ) (x : Row) → r < length rows →
    clearing d begun (take (r + 1) rows) ≡ next d (clearing d begun (take r rows)) (get_or rows r x)
row_more d rows r x h = ap (clearing d begun) (take_more rows r x h) ∙ split_rows d begun (take r rows) (get_or rows r x ∷ [])

-- a clearing only appends
pub written_grows : (d : ℕ) (rows : List Row) (c : Clearing) → (more : List Row) × ((clearing d c rows).written ≡ c.written ++ more)
written_grows d [] c = ([], sym (append-nil c.written))
written_grows d (row ∷ rows) c =
    let rest = written_grows d rows (next d c row) in
    let new = (adds (look_up c.places) d (length c.written) row).rows in
    (new ++ rest.0, rest.1 ∙ append_assoc c.written new rest.0)

pub places_grow : (d : ℕ) (rows : List Row) (c : Clearing) → (more : List Place) × ((clearing d c rows).places ≡ c.places ++ more)
places_grow d [] c = ([], sym (append-nil c.places))
places_grow d (row ∷ rows) c =
    let rest = places_grow d rows (next d c row) in
    let new = (adds (look_up c.places) d (length c.written) row).stands ∷ [] in
    (new ++ rest.0, rest.1 ∙ append_assoc c.places new rest.0)

-- row r stands in what is written, its rows from `start` on
pub record Stands (d : ℕ) (c : Clearing) (r : ℕ) (row : Row) (start : ℕ) : Type 0 where
  pub placed : look_up c.places r ≡ (adds (look_up c.places) d start row).stands
  pub inside : start + length (adds (look_up c.places) d start row).rows ≤ length c.written
  pub reads : (j : ℕ) → j < length (adds (look_up c.places) d start row).rows →
      get_or c.written (start + j) False ≡ get_or (adds (look_up c.places) d start row).rows j False

-- a row stands where its rows and its place were appended
stands_by : (d : ℕ) (row : Row) (end : Clearing) (new : Added) (before more : List Row) (known later : List Place) →
    end.written ≡ before ++ (new.rows ++ more) → end.places ≡ known ++ (new.stands ∷ later) →
    adds (look_up end.places) d (length before) row ≡ new → Stands d end (length known) row (length before)
stands_by d row end new before more known later written places same = record {
  placed = ap (λ ps. look_up ps (length known)) places ∙ get_or-append_seam known new.stands later (place 0 0) ∙ ap (λ a. a.stands) (sym same);
  inside = omega (arith, ap (λ a. length a.rows) same, ap length written ∙ length-append before (new.rows ++ more), length-append new.rows more);
  reads = λ j h.
      let within : j < length new.rows = omega (arith, ap (λ a. length a.rows) same) in
      ap (λ ws. get_or ws (length before + j) False) written ∙ get_or-append-add before (new.rows ++ more) j False
      ∙ get_or-append new.rows more False j within ∙ ap (λ a. get_or a.rows j False) (sym same);
}

-- the row that is read next stands where the writing is
module _ (d : ℕ) (row : Row) (rows : List Row) (c : Clearing) (lower : AllByRecursion (λ o. o < length c.places) (operands row)) where
  places_then : (clearing d c (row ∷ rows)).places ≡ c.places ++ ((adds (look_up c.places) d (length c.written) row).stands ∷ (places_grow d rows (next d c row)).0)
  places_then =
      let p = places_grow d rows (next d c row) in
      p.1 ∙ append_assoc c.places ((adds (look_up c.places) d (length c.written) row).stands ∷ []) p.0

  -- the places that it looks at are there already
  pub same_then : adds (look_up (clearing d c (row ∷ rows)).places) d (length c.written) row ≡ adds (look_up c.places) d (length c.written) row
  same_then =
      adds_same (look_up (clearing d c (row ∷ rows)).places) (look_up c.places) d (length c.written) row
      (All-weaker (λ o. o < length c.places) (λ o. look_up (clearing d c (row ∷ rows)).places o ≡ look_up c.places o)
      (λ o l. ap (λ ps. look_up ps o) places_then
      ∙ get_or-append c.places ((adds (look_up c.places) d (length c.written) row).stands ∷ (places_grow d rows (next d c row)).0) (place 0 0) o l)
      (operands row) lower)

  pub stands_first : Stands d (clearing d c (row ∷ rows)) (length c.places) row (length c.written)
  stands_first =
      let new = adds (look_up c.places) d (length c.written) row in
      let w = written_grows d rows (next d c row) in
      stands_by d row (clearing d c (row ∷ rows)) new c.written w.0 c.places (places_grow d rows (next d c row)).0
      (w.1 ∙ append_assoc c.written new.rows w.0) places_then same_then

pub places_count : (d : ℕ) (rows : List Row) (c : Clearing) → length (clearing d c rows).places ≡ length c.places + length rows
places_count d [] c = omega arith
places_count d (row ∷ rows) c =
    omega (arith, places_count d rows (next d c row), length-append c.places ((adds (look_up c.places) d (length c.written) row).stands ∷ []))

-- what holds of the rows written before, and of each row's rows, holds of all that is written
pub written_all : (E : ℕ → Type 0) (d : ℕ) (rows : List Row) (c : Clearing) →
    ((k : ℕ) → k < length c.written → E k) →
    ((i : ℕ) → i < length rows → AllByRecursion (λ o. o < length c.places + i) (operands (get_or rows i False))) →
    ((r i s : ℕ) → i < length rows → r ≡ length c.places + i → Stands d (clearing d c rows) r (get_or rows i False) s →
    (j : ℕ) → j < length (adds (look_up (clearing d c rows).places) d s (get_or rows i False)).rows → E (s + j)) →
    (k : ℕ) → k < length (clearing d c rows).written → E k
written_all E d [] c before lower blocks k h = before k h
written_all E d (row ∷ rows) c before lower blocks k h =
    let s = length c.written in
    let new = adds (look_up c.places) d s row in
    let operand = All-weaker (λ o. o < length c.places + 0) (λ o. o < length c.places) (λ o l. omega arith) (operands row) (lower 0 (omega arith)) in
    written_all E d rows (next d c row)
    (λ k l. ⊎_elim (before k)
    (λ past.
    let known = length-append c.written new.rows in
    let back : s + (k - s) ≡ k = omega arith in
    subst E back (blocks (length c.places) 0 s (omega arith) (omega arith) (stands_first d row rows c operand) (k - s)
    (omega (arith, ap (λ a. length a.rows) (same_then d row rows c operand)))))
    (cases_lt k s))
    (λ i l. All-weaker (λ o. o < length c.places + suc i) (λ o. o < length (next d c row).places + i)
    (λ o l. omega (arith, length-append c.places (new.stands ∷ []))) (operands (get_or rows i False)) (lower (suc i) (omega arith)))
    (λ r i s l e. blocks r (suc i) s (omega arith) (omega (arith, length-append c.places (new.stands ∷ []))))
    k h

-- every row of a sealed book stands in the cleared one, its rows from where those of the rows before it end
module _ (book : Book) (sealed : WellFounded book) where
  -- what is done before row r
  abbrev pub before : ℕ → Clearing
  before r = clearing (length book.definitions) begun (take r book.rows)

  module _ (r : ℕ) (h : r < length book.rows) where
    known : length (before r).places ≡ r
    known = omega (arith, places_count (length book.definitions) (take r book.rows) begun, length-take-le r book.rows (omega arith))

    pub whole : cleared book ≡ clearing (length book.definitions) (before r) (row_at book r ∷ drop (r + 1) book.rows)
    whole =
        ap (clearing (length book.definitions) begun) (sym (take-append-drop r book.rows) ∙ ap (λ xs. take r book.rows ++ xs) (drop_more book.rows r False h))
        ∙ split_rows (length book.definitions) begun (take r book.rows) (row_at book r ∷ drop (r + 1) book.rows)

    pub operands_known : AllByRecursion (λ o. o < length (before r).places) (operands (row_at book r))
    operands_known = All-weaker (λ o. o < r) (λ o. o < length (before r).places) (λ o l. omega (arith, known)) (operands (row_at book r)) (sealed.lower r h)

    pub row_stands : Stands (length book.definitions) (cleared book) r (row_at book r) (length (before r).written)
    row_stands =
        let d = length book.definitions in
        let s = length (before r).written in
        subst (λ c. Stands d c r (row_at book r) s) (sym whole)
        (subst (λ k. Stands d (clearing d (before r) (row_at book r ∷ drop (r + 1) book.rows)) k (row_at book r) s) known
        (stands_first d (row_at book r) (drop (r + 1) book.rows) (before r) operands_known))
