-- Rows and their fields: what is written is read, and nothing else.
use Rattle.std.proofs.Common.{◌≡◌, ℕ, zero, suc, ◌/◌, ◌<◌, ◌≤◌, Bool, true, false, cond, not, ◌&&◌, eqb, List, [], ◌∷◌, get_or, is_some, Some, None, Option, sym, refl, ap, ◌∙◌, subst, arith}
use Rattle.std.proofs.lemmas.Bool.{eqb-true, ltb-true, lt-ltb, and_parts}
use Rattle.std.specs.Option.{option_map, option_flatten}
use Rattle.std.specs.Bool.{then_some}
use Rattle.std.specs.List.{slice_get}
use Rattle.rules.specs.Book.{Ended, IfThere}
use Rattle.rules.specs.Types.{types, is_short}
use Rattle.rules.specs.Value.{type_index}
use Rattle.rules.specs.declared.row.Bounds.{Bounds}
use Rattle.rules.specs.declared.row.Range.{Range}
use Rattle.rules.specs.declared.row.Row.{Row}
use Rattle.rules.specs.declared.row.Row.TheVariants.{True, False, OfType, BooleanIs, Pattern, NotPattern, Length, Between, StrictlyBetween, Multiple, NotMultiple, EveryMember, SomeMember, Members, EveryElement, SomeElement, Count, And, Or, Not, Variable}
use Rattle.rules.specs.declared.row.ValueType.{ValueType}
use Rattle.rules.specs.declared.row.ValueType.TheVariants.{Null, Boolean, Number, Text, List as Listed, Object}
use Rattle.rows.specs.declared.fields.Ends.{Ends}
use Rattle.rows.specs.declared.fields.Fields.{Fields}
use Rattle.rows.specs.Fields.{ends, fields, no_ends, range_ends, bounds_ends, held, bytes_of}
use Rattle.rows.specs.Rows.{fields_of, row_bytes, WellEnded, ReadsRow, booleans, unended, range_from, range_between, alone, first_alone, second_alone, pair_alone, range_alone, bounds_alone, range_and_second, readers, row_from}
use Rattle.rows.proofs.Bytes.{same_fields, same_bytes}

module _ {A : Type 0} where
  -- what holds of each element at its number
  abbrev Each : (ℕ → A → Type 0) → List A → Type 0
  Each P [] = Unit {0}
  Each P (x ∷ xs) = P 0 x × Each (λ k. P (suc k)) xs

  each_at : (P : ℕ → A → Type 0) (xs : List A) (n : ℕ) (d : A) → Each P xs → ((k : ℕ) → P k d) → P n (get_or xs n d)
  each_at P [] n d h past = past n
  each_at P (x ∷ xs) zero d h past = h.0
  each_at P (x ∷ xs) (suc n) d h past = each_at (λ k. P (suc k)) xs n d h.1 (λ k. past (suc k))

  each_nth : (P : ℕ → A → Type 0) (xs : List A) (n : ℕ) (x : A) → Each P xs → slice_get xs n ≡ Some x → P n x
  each_nth P [] n x h e = cc
  each_nth P (y ∷ xs) zero x h e = let same : y ≡ x = cc in subst (P 0) same h.0
  each_nth P (y ∷ xs) (suc n) x h e = each_nth (λ k. P (suc k)) xs n x h.1 e

when_some : {A : Type 0} (b : Bool) (x y : A) → then_some b x ≡ Some y → (b ≡ true) × (x ≡ y)
when_some true x y h = (refl, cc)
when_some false x y h = cc

pub cond_none : {A : Type 0} (b : Bool) (o : Option A) (y : A) → cond b o None ≡ Some y → (b ≡ true) × (o ≡ Some y)
cond_none true o y h = (refl, h)
cond_none false o y h = cc

mapped_some : {A B : Type 0} (g : A → B) (o : Option A) (y : B) → option_map g o ≡ Some y → (x : A) × (o ≡ Some x) × (g x ≡ y)
mapped_some g None y h = cc
mapped_some g (Some x) y h = (x, refl, cc)

flat_some : {A : Type 0} (o : Option (Option A)) (y : A) → option_flatten o ≡ Some y → o ≡ Some (Some y)
flat_some None y h = cc
flat_some (Some p) y h = ap Some h

both_absent : (lower upper : Option ℕ) → (not (is_some lower) && not (is_some upper)) ≡ true → ends lower upper ≡ no_ends
both_absent None None h = refl
both_absent None (Some u) h = cc
both_absent (Some l) upper h = cc

absent : (e : Ends) → unended e ≡ true → e ≡ no_ends
absent e h = both_absent e.lower e.upper h

short_is : (u : Option ℕ) → is_short u ≡ true → IfThere u (λ u. u ≤ 65534)
short_is None h = tt
short_is (Some u) h = omega (arith, ltb-true u 65535 h)

short_back : (u : Option ℕ) → IfThere u (λ u. u ≤ 65534) → is_short u ≡ true
short_back None h = refl
short_back (Some u) h = lt-ltb u 65535 (omega arith)

-- the ends of a range that was read
range_is : (l u : Option ℕ) (range : Range) → held l < 65536 → range_between l u ≡ Some range → (ends l u ≡ range_ends range) × Ended range
range_is None u range small h = cc
range_is (Some l) u range small h =
    let t = when_some (is_short u) (record { lower = l; upper = u }) range h in
    subst (λ r. (ends (Some l) u ≡ range_ends r) × Ended r) t.1 (refl, (omega arith, short_is u t.0))

-- a row is read only from its own fields
pub record From (f : Fields) (row : Row) : Type 0 where
  pub is : f ≡ fields_of row
  pub ended : WellEnded row

Good : ℕ → (Fields → Option Row) → Type 0
Good k reader = (f : Fields) → f.operator ≡ k → held f.ends.lower < 65536 → (row : Row) → reader f ≡ Some row → From f row

alone_good : (k : ℕ) (row : Row) → fields_of row ≡ fields k 0 0 no_ends → WellEnded row → Good k (alone row)
unfolding Good
alone_good k row is ended f op small y h =
    let t = when_some (eqb f.first 0 && (eqb f.second 0 && unended f.ends)) row y h in
    let p = and_parts (eqb f.first 0) (eqb f.second 0 && unended f.ends) t.0 in
    let q = and_parts (eqb f.second 0) (unended f.ends) p.1 in
    subst (From f) t.1
    (record { is = same_fields f op (eqb-true f.first 0 p.0) (eqb-true f.second 0 q.0) (absent f.ends q.1) ∙ sym is; ended = ended })

first_is : (f : Fields) (x : ℕ) → first_alone f ≡ Some x → (f.first ≡ x) × (f.second ≡ 0) × (f.ends ≡ no_ends)
first_is f x h =
    let t = when_some (eqb f.second 0 && unended f.ends) f.first x h in
    let p = and_parts (eqb f.second 0) (unended f.ends) t.0 in
    (t.1, eqb-true f.second 0 p.0, absent f.ends p.1)

first_good : (k : ℕ) (row : ℕ → Row) → ((x : ℕ) → (fields_of (row x) ≡ fields k x 0 no_ends) × WellEnded (row x)) → Good k (λ f. option_map row (first_alone f))
unfolding Good
first_good k row is f op small y h =
    let m = mapped_some row (first_alone f) y h in
    let t = first_is f m.0 m.1 in
    subst (From f) m.2 (record { is = same_fields f op t.0 t.1 t.2 ∙ sym (is m.0).0; ended = (is m.0).1 })

-- the first operand is the number of something else
listed_good : {A : Type 0} (k : ℕ) (xs : List A) (number : A → ℕ) (row : A → Row) → Each (λ i x. i ≡ number x) xs →
    ((x : A) → (fields_of (row x) ≡ fields k (number x) 0 no_ends) × WellEnded (row x)) →
    Good k (λ f. option_map row (option_flatten (option_map (slice_get xs) (first_alone f))))
unfolding Good
listed_good k xs number row each is f op small y h =
    let m = mapped_some row (option_flatten (option_map (slice_get xs) (first_alone f))) y h in
    let n = mapped_some (slice_get xs) (first_alone f) (Some m.0) (flat_some (option_map (slice_get xs) (first_alone f)) m.0 m.1) in
    let t = first_is f n.0 n.1 in
    let i = each_nth (λ i x. i ≡ number x) xs n.0 m.0 each n.2 in
    subst (From f) m.2 (record { is = same_fields f op (t.0 ∙ i) t.1 t.2 ∙ sym (is m.0).0; ended = (is m.0).1 })

second_good : (k : ℕ) (row : ℕ → Row) → ((x : ℕ) → (fields_of (row x) ≡ fields k 0 x no_ends) × WellEnded (row x)) → Good k (λ f. option_map row (second_alone f))
unfolding Good
second_good k row is f op small y h =
    let m = mapped_some row (second_alone f) y h in
    let t = when_some (eqb f.first 0 && unended f.ends) f.second m.0 m.1 in
    let p = and_parts (eqb f.first 0) (unended f.ends) t.0 in
    subst (From f) m.2
    (record { is = same_fields f op (eqb-true f.first 0 p.0) t.1 (absent f.ends p.1) ∙ sym (is m.0).0; ended = (is m.0).1 })

pair_good : (k : ℕ) (row : ℕ → ℕ → Row) → ((x y : ℕ) → (fields_of (row x y) ≡ fields k x y no_ends) × WellEnded (row x y)) → Good k (pair_alone row)
unfolding Good
pair_good k row is f op small y h =
    let t = when_some (unended f.ends) (row f.first f.second) y h in
    subst (From f) t.1
    (record { is = same_fields f op refl refl (absent f.ends t.0) ∙ sym (is f.first f.second).0; ended = (is f.first f.second).1 })

range_good : (k : ℕ) (row : Range → Row) → ((r : Range) → fields_of (row r) ≡ fields k 0 0 (range_ends r)) → ((r : Range) → Ended r → WellEnded (row r)) →
    Good k (λ f. option_map row (range_alone f))
unfolding Good
range_good k row is ended f op small y h =
    let m = mapped_some row (range_alone f) y h in
    let t = cond_none (eqb f.first 0 && eqb f.second 0) (range_from f.ends) m.0 m.1 in
    let p = and_parts (eqb f.first 0) (eqb f.second 0) t.0 in
    let r = range_is f.ends.lower f.ends.upper m.0 small t.1 in
    subst (From f) m.2
    (record { is = same_fields f op (eqb-true f.first 0 p.0) (eqb-true f.second 0 p.1) r.0 ∙ sym (is m.0); ended = ended m.0 r.1 })

bounds_good : (k : ℕ) (row : Bounds → Row) → ((b : Bounds) → (fields_of (row b) ≡ fields k 0 0 (bounds_ends b)) × WellEnded (row b)) →
    Good k (λ f. option_map row (bounds_alone f))
unfolding Good
bounds_good k row is f op small y h =
    let m = mapped_some row (bounds_alone f) y h in
    let t = when_some (eqb f.first 0 && eqb f.second 0) (record { lower = f.ends.lower; upper = f.ends.upper }) m.0 m.1 in
    let p = and_parts (eqb f.first 0) (eqb f.second 0) t.0 in
    subst (From f) m.2
    (record { is = same_fields f op (eqb-true f.first 0 p.0) (eqb-true f.second 0 p.1) (ap bounds_ends t.1) ∙ sym (is m.0).0; ended = (is m.0).1 })

count_good : Good 17 (λ f. option_map (Count f.second) (range_and_second f))
unfolding Good
count_good f op small y h =
    let m = mapped_some (Count f.second) (range_and_second f) y h in
    let t = cond_none (eqb f.first 0) (range_from f.ends) m.0 m.1 in
    let r = range_is f.ends.lower f.ends.upper m.0 small t.1 in
    subst (From f) m.2 (record { is = same_fields f op (eqb-true f.first 0 t.0) refl r.0; ended = r.1 })

none_good : (k : ℕ) → Good k (λ f. None)
unfolding Good
none_good k f op small y h = cc

all_good : Each Good readers
all_good = (
  none_good 0,
  (
    alone_good 1 True refl tt,
    (
      alone_good 2 False refl tt,
      (
        listed_good 3 types type_index OfType (refl, (refl, (refl, (refl, (refl, (refl, tt)))))) (λ x. (refl, tt)),
        (
          listed_good 4 booleans (λ b. cond b 1 0) BooleanIs (refl, (refl, tt)) (λ x. (refl, tt)),
          (
            first_good 5 Pattern (λ x. (refl, tt)),
            (
              first_good 6 NotPattern (λ x. (refl, tt)),
              (
                range_good 7 Length (λ r. refl) (λ r e. e),
                (
                  bounds_good 8 Between (λ b. (refl, tt)),
                  (
                    bounds_good 9 StrictlyBetween (λ b. (refl, tt)),
                    (
                      first_good 10 Multiple (λ x. (refl, tt)),
                      (
                        first_good 11 NotMultiple (λ x. (refl, tt)),
                        (
                          pair_good 12 EveryMember (λ x y. (refl, tt)),
                          (
                            pair_good 13 SomeMember (λ x y. (refl, tt)),
                            (
                              range_good 14 Members (λ r. refl) (λ r e. e),
                              (
                                second_good 15 EveryElement (λ x. (refl, tt)),
                                (
                                  second_good 16 SomeElement (λ x. (refl, tt)),
                                  (
                                    count_good,
                                    (
                                      pair_good 18 And (λ x y. (refl, tt)),
                                      (
                                        pair_good 19 Or (λ x y. (refl, tt)),
                                        (
                                          second_good 20 Not (λ x. (refl, tt)),
                                          (
                                            first_good 21 Variable (λ x. (refl, tt)),
                                            tt,
                                          ),
                                        ),
                                      ),
                                    ),
                                  ),
                                ),
                              ),
                            ),
                          ),
                        ),
                      ),
                    ),
                  ),
                ),
              ),
            ),
          ),
        ),
      ),
    ),
  ),
)

-- the row that fields are read as has these fields
row_is : (f : Fields) → held f.ends.lower < 65536 → (row : Row) → row_from f ≡ Some row → From f row
unfolding Good
row_is f small row h = each_at Good readers f.operator (λ _. None) all_good none_good f refl small row h

range_back : (l : ℕ) (u : Option ℕ) → IfThere u (λ u. u ≤ 65534) → range_between (Some l) u ≡ Some (record { lower = l; upper = u })
range_back l u h = ap (λ b. then_some b (record { lower = l; upper = u })) (short_back u h)

type_back : (t : ValueType) → slice_get types (type_index t) ≡ Some t
type_back Null = refl
type_back Boolean = refl
type_back Number = refl
type_back Text = refl
type_back Listed = refl
type_back Object = refl

boolean_back : (b : Bool) → slice_get booleans (cond b 1 0) ≡ Some b
boolean_back true = refl
boolean_back false = refl

-- the fields of a row are read as that row
pub row_back : (row : Row) → WellEnded row → row_from (fields_of row) ≡ Some row
row_back True h = refl
row_back False h = refl
row_back (OfType t) h = ap (option_map OfType) (type_back t)
row_back (BooleanIs b) h = ap (option_map BooleanIs) (boolean_back b)
row_back (Pattern p) h = refl
row_back (NotPattern p) h = refl
row_back (Length range) h = ap (option_map Length) (range_back range.lower range.upper h.1)
row_back (Between bounds) h = refl
row_back (StrictlyBetween bounds) h = refl
row_back (Multiple q) h = refl
row_back (NotMultiple q) h = refl
row_back (EveryMember p o) h = refl
row_back (SomeMember p o) h = refl
row_back (Members range) h = ap (option_map Members) (range_back range.lower range.upper h.1)
row_back (EveryElement o) h = refl
row_back (SomeElement o) h = refl
row_back (Count o range) h = ap (option_map (Count o)) (range_back range.lower range.upper h.1)
row_back (And a b) h = refl
row_back (Or a b) h = refl
row_back (Not o) h = refl
row_back (Variable v) h = refl

-- what is read from the bytes of a row is that row
again : (bytes : List ℕ) (f : Fields) (row : Row) → bytes ≡ bytes_of f → WellEnded row → bytes ≡ row_bytes row → row_from f ≡ Some row
again bytes f row e ended is = ap row_from (same_bytes f (fields_of row) (sym e ∙ is)) ∙ row_back row ended

-- the row of bytes whose fields are these
pub row_read : (bytes : List ℕ) (f : Fields) (r : Option Row) → ((i : ℕ) → get_or bytes i 0 < 256) → bytes ≡ bytes_of f → r ≡ row_from f → ReadsRow bytes r
row_read bytes f (Some row) small e h =
    let a : held f.ends.lower / 256 < 256 = subst (λ bs. get_or bs 6 0 < 256) e (small 6) in
    let from = row_is f (omega arith) row (sym h) in
    (e ∙ ap bytes_of from.is, from.ended, λ other ended is. let same : Some row ≡ Some other = h ∙ again bytes f other e ended is in cc)
row_read bytes f None small e h = λ other ended is.
    let same : None ≡ Some other = h ∙ again bytes f other e ended is in
    cc
