-- The complement theorem.
use Rattle.std.proofs.Common.{◌≡◌, ℕ, zero, suc, ◌+◌, ◌<◌, Bool, true, false, not, ◌&&◌, ◌||◌, eqb, ltb, leb, List, [], ◌∷◌, length, get_or, is_some, Some, None, Option, Ordering, Less, Equal, Greater, sym, refl, ap, ◌∙◌, ap₂, add-zero, arith, lit<}
use mathlib.Core.Bool.{beq}
use Rattle.std.specs.List.{AllByRecursion}
use Rattle.std.proofs.ByRecursion.{All-weaker}
use Rattle.std.proofs.lemmas.Bool.{cond_both, not-false}
use Rattle.std.proofs.lemmas.Bool.Decides.{nat_tests}
use Rattle.rules.specs.declared.row.ValueType.{ValueType}
use Rattle.rules.specs.declared.row.ValueType.TheVariants.{Null, Boolean, Number, Text, List as Listed, Object}
use Rattle.rules.specs.declared.row.Range.{Range}
use Rattle.rules.specs.declared.row.Bounds.{Bounds}
use Rattle.rules.specs.declared.row.Row.{Row}
use Rattle.rules.specs.declared.row.Row.TheVariants.{True, False, OfType, BooleanIs, Pattern, NotPattern, Length, Between, StrictlyBetween, Multiple, NotMultiple, EveryMember, SomeMember, Members, EveryElement, SomeElement, Count, And, Or, Not, Variable}
use Rattle.numbers.specs.Kinds.{turned}
use Rattle.rules.specs.Value.{Shape, null, boolean, number, text, list, object, type_index, type_of, as_boolean, as_number, as_text, as_list, as_object, parts}
use Rattle.rules.specs.Book.{Book, body_at, number_at, operands, variables, needs, IfThere}
use Rattle.rules.specs.Meaning.{World, Verdicts, is_before, not_after, same_type, passes, all, any, count, in_range, in_bounds, value_at, says}
use Rattle.rules.specs.declared.place.Place.{Place}
use Rattle.rules.specs.Clear.{fixed, Added, other_type, turn, outside, below, above, under, over, side, around_range, around_bounds, adds}
use Rattle.rules.proofs.Tests.{always, weaker, in_list, in_object, passes_same, passes_not, passes_or, passes_always, not_and, not_or, not_not, not_all, not_any}

-- the type of a value, and what it holds
is_boolean : {K : Type 0} (s : Shape K) → same_type Boolean (type_of s) ≡ is_some (as_boolean s)
is_boolean null = refl
is_boolean (boolean b) = refl
is_boolean (number x) = refl
is_boolean (text s) = refl
is_boolean (list es) = refl
is_boolean (object ms) = refl

is_number : {K : Type 0} (s : Shape K) → same_type Number (type_of s) ≡ is_some (as_number s)
is_number null = refl
is_number (boolean b) = refl
is_number (number x) = refl
is_number (text s) = refl
is_number (list es) = refl
is_number (object ms) = refl

is_text : {K : Type 0} (s : Shape K) → same_type Text (type_of s) ≡ is_some (as_text s)
is_text null = refl
is_text (boolean b) = refl
is_text (number x) = refl
is_text (text s) = refl
is_text (list es) = refl
is_text (object ms) = refl

is_list : {K : Type 0} (s : Shape K) → same_type Listed (type_of s) ≡ is_some (as_list s)
is_list null = refl
is_list (boolean b) = refl
is_list (number x) = refl
is_list (text s) = refl
is_list (list es) = refl
is_list (object ms) = refl

is_object : {K : Type 0} (s : Shape K) → same_type Object (type_of s) ≡ is_some (as_object s)
is_object null = refl
is_object (boolean b) = refl
is_object (number x) = refl
is_object (text s) = refl
is_object (list es) = refl
is_object (object ms) = refl

-- a value is of one of the other five types, or of this one
others : (t u : ValueType) →
    ((((eqb (other_type t 0) (type_index u) || eqb (other_type t 1) (type_index u)) || eqb (other_type t 2) (type_index u)) || eqb (other_type t 3) (type_index u)) || eqb (other_type t 4) (type_index u))
    ≡ not (same_type t u)
others Null = elim [ Null ↦ refl | Boolean ↦ refl | Number ↦ refl | Text ↦ refl | Listed ↦ refl | Object ↦ refl ]
others Boolean = elim [ Null ↦ refl | Boolean ↦ refl | Number ↦ refl | Text ↦ refl | Listed ↦ refl | Object ↦ refl ]
others Number = elim [ Null ↦ refl | Boolean ↦ refl | Number ↦ refl | Text ↦ refl | Listed ↦ refl | Object ↦ refl ]
others Text = elim [ Null ↦ refl | Boolean ↦ refl | Number ↦ refl | Text ↦ refl | Listed ↦ refl | Object ↦ refl ]
others Listed = elim [ Null ↦ refl | Boolean ↦ refl | Number ↦ refl | Text ↦ refl | Listed ↦ refl | Object ↦ refl ]
others Object = elim [ Null ↦ refl | Boolean ↦ refl | Number ↦ refl | Text ↦ refl | Listed ↦ refl | Object ↦ refl ]

-- turned comparisons
before_turned : (o : Ordering) → is_before (turned o) ≡ not (not_after o)
before_turned Less = refl
before_turned Equal = refl
before_turned Greater = refl

after_turned : (o : Ordering) → not_after (turned o) ≡ not (is_before o)
after_turned Less = refl
after_turned Equal = refl
after_turned Greater = refl

beq_not : (b c : Bool) → beq (not b) c ≡ not (beq b c)
beq_not true true = refl
beq_not true false = refl
beq_not false true = refl
beq_not false false = refl

or_false : (a : Bool) → (a || false) ≡ a
or_false true = refl
or_false false = refl

and_true : (a : Bool) → (a && true) ≡ a
and_true true = refl
and_true false = refl

below_is : (k n : ℕ) → (leb 0 n && leb n k) ≡ not (leb (suc k) n)
below_is k n = grind (arith, nat_tests)

above_is : (u n : ℕ) → (leb (u + 1) n && true) ≡ not (leb n u)
above_is u n = grind (arith, nat_tests)

zero_low : (n : ℕ) → not (leb 0 n) ≡ false
zero_low n = grind (arith, nat_tests)

some_member : (named x y : Bool) → y ≡ not x → (named && y) ≡ not (not named || x)
some_member true x y e = e
some_member false x y e = refl

every_member : (named x y : Bool) → y ≡ not x → (not named || y) ≡ not (named && x)
every_member true x y e = e
every_member false x y e = refl

other_lt : (t : ValueType) (k : ℕ) → k < 5 → other_type t k < 6
other_lt t k h = cond_both (ltb k (type_index t)) k (k + 1) (λ x. x < 6) (λ e. omega arith) (λ e. omega arith)

-- At one node n, by a table V that keeps the rules of a cleared book there.
module _ {K : Type 0} (world : World K) (book : Book) (V : Verdicts) (n : ℕ)
    (base : (k : ℕ) → k < 8 → V k n ≡ says world book V (get_or fixed k False) n) where
  -- the rows from s on say what V says there
  abbrev pub Follow : ℕ → List Row → Type 0
  Follow s rows = (j : ℕ) → j < length rows → V (s + j) n ≡ says world book V (get_or rows j False) n

  -- the positive row says b, and the complement the other
  abbrev pub Fits : Added → Bool → Type 0
  Fits new b = (V new.stands.positive n ≡ b) × (V new.stands.negative n ≡ not b)

  head_says : (s : ℕ) (row : Row) (rows : List Row) → Follow s (row ∷ rows) → V s n ≡ says world book V row n
  head_says s row rows follow = ap (λ k. V k n) (sym (add-zero s)) ∙ follow 0 (omega arith)

  kth_type : (k : ℕ) → k < 6 → V k n ≡ eqb k (type_index (type_of (value_at world n)))
  kth_type zero h = base 0 (lit< tt)
  kth_type (suc zero) h = base 1 (lit< tt)
  kth_type (suc (suc zero)) h = base 2 (lit< tt)
  kth_type (suc (suc (suc zero))) h = base 3 (lit< tt)
  kth_type (suc (suc (suc (suc zero)))) h = base 4 (lit< tt)
  kth_type (suc (suc (suc (suc (suc zero))))) h = base 5 (lit< tt)
  kth_type (suc (suc (suc (suc (suc (suc k)))))) h = absurd (omega arith)

  typed : (t : ValueType) → V (type_index t) n ≡ same_type t (type_of (value_at world n))
  typed Null = base 0 (lit< tt)
  typed Boolean = base 1 (lit< tt)
  typed Number = base 2 (lit< tt)
  typed Text = base 3 (lit< tt)
  typed Listed = base 4 (lit< tt)
  typed Object = base 5 (lit< tt)

  module _ {A : Type 0} (t : ValueType) (view : Option A) (is : same_type t (type_of (value_at world n)) ≡ is_some view) (s : ℕ) (row : Row) (f : A → Bool)
      (e : says world book V row n ≡ passes view f) where
    turn_fits : (back : Row) (g : A → Bool) → says world book V back n ≡ passes view g → IfThere view (λ x. g x ≡ not (f x)) →
        Follow s (turn t s row back).rows → Fits (turn t s row back) (passes view f)
    turn_fits back g eg h follow = (
      head_says s row (back ∷ _ ∷ []) follow ∙ e,
      follow 2 (lit< tt) ∙ ap₂ ◌&&◌ (typed t ∙ is) (follow 1 (lit< tt) ∙ eg) ∙ passes_not view f g h,
    )

    -- a side that is there tests g, and where g never passes, none is needed
    abbrev Side : Option Row → (A → Bool) → Type 0
    Side None g = (x : A) → g x ≡ false
    Side (Some row) g = says world book V row n ≡ passes view g

    outside_fits : (low high : Option Row) (g k : A → Bool) → Side low g → Side high k → ((x : A) → (g x || k x) ≡ not (f x)) →
        Follow s (outside t s row low high).rows → Fits (outside t s row low high) (passes view f)
    outside_fits None None g k eg ek h follow = (
      head_says s row [] follow ∙ e,
      base 7 (lit< tt) ∙ sym (ap not (passes_always view f (always view _ (λ x. not-false (f x) (sym (h x) ∙ ap₂ ◌||◌ (eg x) (ek x)))))),
    )
    outside_fits (Some low) None g k eg ek h follow = (
      head_says s row (low ∷ _ ∷ []) follow ∙ e,
      follow 2 (lit< tt) ∙ ap₂ ◌&&◌ (typed t ∙ is) (follow 1 (lit< tt) ∙ eg)
          ∙ passes_not view f g (always view _ (λ x. sym (or_false (g x)) ∙ ap (λ b. g x || b) (sym (ek x)) ∙ h x)),
    )
    outside_fits None (Some high) g k eg ek h follow = (
      head_says s row (high ∷ _ ∷ []) follow ∙ e,
      follow 2 (lit< tt) ∙ ap₂ ◌&&◌ (typed t ∙ is) (follow 1 (lit< tt) ∙ ek)
          ∙ passes_not view f k (always view _ (λ x. ap (λ b. b || k x) (sym (eg x)) ∙ h x)),
    )
    outside_fits (Some low) (Some high) g k eg ek h follow = (
      head_says s row (low ∷ high ∷ _ ∷ _ ∷ []) follow ∙ e,
      follow 4 (lit< tt) ∙ ap₂ ◌&&◌ (typed t ∙ is) (follow 3 (lit< tt) ∙ ap₂ ◌||◌ (follow 1 (lit< tt) ∙ eg) (follow 2 (lit< tt) ∙ ek))
          ∙ passes_or view f g k (always view _ h),
    )

  -- an operator on counts
  module _ {A : Type 0} (t : ValueType) (view : Option A) (is : same_type t (type_of (value_at world n)) ≡ is_some view) (s : ℕ) (row : Range → Row) (size : A → ℕ)
      (e : (range : Range) → says world book V (row range) n ≡ passes view (λ x. in_range range (size x))) where
    below_side : (l : ℕ) (range : Range) → Side t view is s (row range) (λ x. in_range range (size x)) (e range) (side row (below l)) (λ x. not (leb l (size x)))
    below_side zero range = λ x. zero_low (size x)
    below_side (suc k) range = e (record { lower = 0; upper = Some k }) ∙ passes_same view _ _ (always view _ (λ x. below_is k (size x)))

    above_side : (u : Option ℕ) (range : Range) → Side t view is s (row range) (λ x. in_range range (size x)) (e range) (side row (above u)) (λ x. not (passes u (λ u. leb (size x) u)))
    above_side None range = λ x. refl
    above_side (Some u) range = e (record { lower = u + 1; upper = None }) ∙ passes_same view _ _ (always view _ (λ x. above_is u (size x)))

    range_fits : (range : Range) → Follow s (around_range t s row range).rows → Fits (around_range t s row range) (passes view (λ x. in_range range (size x)))
    range_fits range follow =
        outside_fits t view is s (row range) (λ x. in_range range (size x)) (e range) _ _ _ _
        (below_side range.lower range) (above_side range.upper range)
        (λ x. sym (not_and (leb range.lower (size x)) (passes range.upper (λ u. leb (size x) u)))) follow

  -- an operator on numbers: `back` passes the turned comparison where `ok` does not pass
  module _ (turns : (x y : K) → world.kind.compare y x ≡ turned (world.kind.compare x y)) (s : ℕ) (row back_row : Bounds → Row) (ok back : Ordering → Bool)
      (opposite : (o : Ordering) → back (turned o) ≡ not (ok o))
      (e : (bounds : Bounds) → says world book V (row bounds) n ≡ passes (as_number (value_at world n)) (in_bounds world.kind world.numbers ok bounds))
      (eb : (bounds : Bounds) → says world book V (back_row bounds) n ≡ passes (as_number (value_at world n)) (in_bounds world.kind world.numbers back bounds)) where
    view : Option K
    view = as_number (value_at world n)

    swap : (x y : K) → back (world.kind.compare y x) ≡ not (ok (world.kind.compare x y))
    swap x y = ap back (turns x y) ∙ opposite (world.kind.compare x y)

    under_side : (l : Option ℕ) (bounds : Bounds) → Side Number (as_number (value_at world n)) (is_number (value_at world n)) s (row bounds) (in_bounds world.kind world.numbers ok bounds) (e bounds)
        (side back_row (under l)) (λ x. not (passes l (λ i. ok (world.kind.compare (number_at world.kind world.numbers i) x))))
    under_side None bounds = λ x. refl
    under_side (Some i) bounds = eb (record { lower = None; upper = Some i }) ∙ passes_same (as_number (value_at world n)) _ _ (always (as_number (value_at world n)) _ (λ x. swap (number_at world.kind world.numbers i) x))

    over_side : (u : Option ℕ) (bounds : Bounds) → Side Number (as_number (value_at world n)) (is_number (value_at world n)) s (row bounds) (in_bounds world.kind world.numbers ok bounds) (e bounds)
        (side back_row (over u)) (λ x. not (passes u (λ i. ok (world.kind.compare x (number_at world.kind world.numbers i)))))
    over_side None bounds = λ x. refl
    over_side (Some i) bounds = eb (record { lower = Some i; upper = None })
        ∙ passes_same (as_number (value_at world n)) _ _ (always (as_number (value_at world n)) _ (λ x. and_true (back (world.kind.compare (number_at world.kind world.numbers i) x)) ∙ swap x (number_at world.kind world.numbers i)))

    bounds_fits : (bounds : Bounds) → Follow s (around_bounds s row back_row bounds).rows →
        Fits (around_bounds s row back_row bounds) (passes (as_number (value_at world n)) (in_bounds world.kind world.numbers ok bounds))
    bounds_fits bounds follow =
        outside_fits Number (as_number (value_at world n)) (is_number (value_at world n)) s (row bounds) (in_bounds world.kind world.numbers ok bounds) (e bounds) _ _ _ _
        (under_side bounds.lower bounds) (over_side bounds.upper bounds)
        (λ x. sym (not_and (passes bounds.lower (λ i. ok (world.kind.compare (number_at world.kind world.numbers i) x))) (passes bounds.upper (λ i. ok (world.kind.compare x (number_at world.kind world.numbers i)))))) follow

  other_says : (t : ValueType) (k : ℕ) → k < 5 → V (other_type t k) n ≡ eqb (other_type t k) (type_index (type_of (value_at world n)))
  other_says t k h = kth_type (other_type t k) (other_lt t k h)

  type_fits : (t : ValueType) (d s : ℕ) (places : ℕ → Place) → Follow s (adds places d s (OfType t)).rows →
      Fits (adds places d s (OfType t)) (same_type t (type_of (value_at world n)))
  type_fits t d s places follow = (
    typed t,
    follow 3 (lit< tt)
        ∙ ap₂ ◌||◌ (follow 2 (lit< tt) ∙ ap₂ ◌||◌ (follow 1 (lit< tt) ∙ ap₂ ◌||◌ (head_says s _ (Or s (other_type t 2) ∷ Or (s + 1) (other_type t 3) ∷ Or (s + 2) (other_type t 4) ∷ []) follow ∙ ap₂ ◌||◌ (other_says t 0 (lit< tt)) (other_says t 1 (lit< tt))) (other_says t 2 (lit< tt))) (other_says t 3 (lit< tt))) (other_says t 4 (lit< tt))
        ∙ others t (type_of (value_at world n)),
  )

  -- Each operator, where the complements are turned round at what the row looks at.
  module _ (turns : (x y : K) → world.kind.compare y x ≡ turned (world.kind.compare x y)) (original : Book) (places : ℕ → Place)
      (variable : (v : ℕ) → v < length original.definitions →
      (body_at book v ≡ (places (body_at original v)).positive) × (body_at book (length original.definitions + v) ≡ (places (body_at original v)).negative)) where
    -- the complement of row o is turned round at node m
    abbrev pub Turned : ℕ → ℕ → Type 0
    Turned o m = V (places o).negative m ≡ not (V (places o).positive m)

    pub row_fits : (s : ℕ) (row : Row) → AllByRecursion (λ o. Turned o n) (needs original row) → AllByRecursion (λ o. AllByRecursion (Turned o) (parts (value_at world n))) (operands row) →
        AllByRecursion (λ v. v < length original.definitions) (variables row) →
        Follow s (adds places (length original.definitions) s row).rows →
        Fits (adds places (length original.definitions) s row) (says world original (λ r m. V (places r).positive m) row n)
    row_fits s True h b v follow = (base 6 (lit< tt), base 7 (lit< tt))
    row_fits s False h b v follow = (base 7 (lit< tt), base 6 (lit< tt))
    row_fits s (OfType t) h b v follow = type_fits t (length original.definitions) s places follow
    row_fits s (BooleanIs c) h b v follow =
        turn_fits Boolean (as_boolean (value_at world n)) (is_boolean (value_at world n)) s (BooleanIs c) (beq c) refl
        (BooleanIs (not c)) (beq (not c)) refl (always (as_boolean (value_at world n)) _ (beq_not c)) follow
    row_fits s (Pattern p) h b v follow =
        turn_fits Text (as_text (value_at world n)) (is_text (value_at world n)) s (Pattern p) (world.matches p) refl
        (NotPattern p) (λ x. not (world.matches p x)) refl (always (as_text (value_at world n)) _ (λ x. refl)) follow
    row_fits s (NotPattern p) h b v follow =
        turn_fits Text (as_text (value_at world n)) (is_text (value_at world n)) s (NotPattern p) (λ x. not (world.matches p x)) refl
        (Pattern p) (world.matches p) refl (always (as_text (value_at world n)) _ (λ x. sym (not_not (world.matches p x)))) follow
    row_fits s (Length range) h b v follow = range_fits Text (as_text (value_at world n)) (is_text (value_at world n)) s Length length (λ _. refl) range follow
    row_fits s (Between bounds) h b v follow =
        bounds_fits turns s Between StrictlyBetween not_after is_before before_turned (λ _. refl) (λ _. refl) bounds follow
    row_fits s (StrictlyBetween bounds) h b v follow =
        bounds_fits turns s StrictlyBetween Between is_before not_after after_turned (λ _. refl) (λ _. refl) bounds follow
    row_fits s (Multiple q) h b v follow =
        turn_fits Number (as_number (value_at world n)) (is_number (value_at world n)) s (Multiple q) (λ x. world.kind.multiple x (number_at world.kind world.numbers q)) refl
        (NotMultiple q) (λ x. not (world.kind.multiple x (number_at world.kind world.numbers q))) refl (always (as_number (value_at world n)) _ (λ x. refl)) follow
    row_fits s (NotMultiple q) h b v follow =
        turn_fits Number (as_number (value_at world n)) (is_number (value_at world n)) s (NotMultiple q) (λ x. not (world.kind.multiple x (number_at world.kind world.numbers q))) refl
        (Multiple q) (λ x. world.kind.multiple x (number_at world.kind world.numbers q)) refl (always (as_number (value_at world n)) _ (λ x. sym (not_not (world.kind.multiple x (number_at world.kind world.numbers q))))) follow
    row_fits s (EveryMember p o) h b v follow =
        turn_fits Object (as_object (value_at world n)) (is_object (value_at world n)) s (EveryMember p (places o).positive) _ refl
        (SomeMember p (places o).negative) _ refl
        (weaker (as_object (value_at world n)) (λ ms. AllByRecursion (λ m. Turned o m.node) ms) _
        (λ ms k. not_all _ _ ms (All-weaker (λ m. Turned o m.node) _ (λ m e. some_member (world.matches p m.name) (V (places o).positive m.node) (V (places o).negative m.node) e) ms k))
        (in_object (value_at world n) (Turned o) b.0))
        follow
    row_fits s (SomeMember p o) h b v follow =
        turn_fits Object (as_object (value_at world n)) (is_object (value_at world n)) s (SomeMember p (places o).positive) _ refl
        (EveryMember p (places o).negative) _ refl
        (weaker (as_object (value_at world n)) (λ ms. AllByRecursion (λ m. Turned o m.node) ms) _
        (λ ms k. not_any _ _ ms (All-weaker (λ m. Turned o m.node) _ (λ m e. every_member (world.matches p m.name) (V (places o).positive m.node) (V (places o).negative m.node) e) ms k))
        (in_object (value_at world n) (Turned o) b.0))
        follow
    row_fits s (Members range) h b v follow = range_fits Object (as_object (value_at world n)) (is_object (value_at world n)) s Members length (λ _. refl) range follow
    row_fits s (EveryElement o) h b v follow =
        turn_fits Listed (as_list (value_at world n)) (is_list (value_at world n)) s (EveryElement (places o).positive) (all (V (places o).positive)) refl
        (SomeElement (places o).negative) (any (V (places o).negative)) refl
        (weaker (as_list (value_at world n)) (λ es. AllByRecursion (Turned o) es) _ (not_all _ _) (in_list (value_at world n) (Turned o) b.0)) follow
    row_fits s (SomeElement o) h b v follow =
        turn_fits Listed (as_list (value_at world n)) (is_list (value_at world n)) s (SomeElement (places o).positive) (any (V (places o).positive)) refl
        (EveryElement (places o).negative) (all (V (places o).negative)) refl
        (weaker (as_list (value_at world n)) (λ es. AllByRecursion (Turned o) es) _ (not_any _ _) (in_list (value_at world n) (Turned o) b.0)) follow
    row_fits s (Count o range) h b v follow =
        range_fits Listed (as_list (value_at world n)) (is_list (value_at world n)) s (Count (places o).positive) (count (V (places o).positive)) (λ _. refl) range follow
    row_fits s (And a c) h b v follow = (
      head_says s _ (Or (places a).negative (places c).negative ∷ []) follow,
      follow 1 (lit< tt) ∙ ap₂ ◌||◌ h.0 h.1.0 ∙ sym (not_and (V (places a).positive n) (V (places c).positive n)),
    )
    row_fits s (Or a c) h b v follow = (
      head_says s _ (And (places a).negative (places c).negative ∷ []) follow,
      follow 1 (lit< tt) ∙ ap₂ ◌&&◌ h.0 h.1.0 ∙ sym (not_or (V (places a).positive n) (V (places c).positive n)),
    )
    row_fits s (Not o) h b v follow = (h.0, sym (not_not (V (places o).positive n)))
    row_fits s (Variable w) h b v follow = (
      head_says s _ (Variable (length original.definitions + w) ∷ []) follow ∙ ap (λ r. V r n) (variable w v.0).0,
      follow 1 (lit< tt) ∙ ap (λ r. V r n) (variable w v.0).1 ∙ h.0,
    )
