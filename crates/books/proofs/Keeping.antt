-- A book passes the tests exactly if it keeps the rules.
use Rattle.std.proofs.Common.{◌≡◌, ℕ, zero, suc, ◌+◌, ◌<◌, ◌≤◌, Bool, true, false, not, ◌&&◌, eqb, ltb, leb, List, [], ◌∷◌, length, get_or, is_ok, Some, None, Ok, Err, Option, sym, refl, ap, ◌∙◌, subst, inl, inr, ⊎_elim, add-zero, zero-add, arith}
use Rattle.std.proofs.lemmas.List.{get_or_default}
use Rattle.std.proofs.lemmas.Bool.{ltb-true, lt-ltb, leb-true, le-leb, eqb-false, ne_eqb, not-true, not_from_false, and_parts, and_from, cases_order}
use Rattle.std.specs.Result.{result_and}
use Rattle.std.specs.List.{AllByRecursion}
use Rattle.rules.specs.Book.{Book, Limits, Reach, nothing, inner, both, negated, body, reach, called, row_at, body_at, operands, variables, IfThere, Ended, Numbered, Allowed, Guarded, Sealed}
use Rattle.rules.specs.Types.{is_short}
use Rattle.rules.specs.declared.row.Bounds.{Bounds}
use Rattle.rules.specs.declared.row.Range.{Range}
use Rattle.rules.specs.declared.row.Row.{Row}
use Rattle.rules.specs.declared.row.Row.TheVariants.{True, False, OfType, BooleanIs, Pattern, NotPattern, Length, Between, StrictlyBetween, Multiple, NotMultiple, EveryMember, SomeMember, Members, EveryElement, SomeElement, Count, And, Or, Not, Variable}
use Rattle.books.specs.declared.fault.BookFault.{BookFault}
use Rattle.books.specs.declared.fault.BookFault.TheVariants.{Unguarded}
use Rattle.books.specs.Guard.{Joined, Lowest}
use Rattle.books.specs.Tests.{Tested, passes, ask, is_ended, is_there, row_fits, row_above, row_test, counted_row, definition_test, call_test, variable_test, first_refused}
use Rattle.books.specs.Sealing.{plain_test, counts, ComesTo, Seals}

pub refused_passes : {X : Type 0} (e : BookFault) → Err e ≡ passes → X
refused_passes e h = let z : ◌≡◌ {A = ℕ} 0 1 = cc in absurd (omega arith)

pub both_pass : (a b : Tested) → result_and a b ≡ passes → (a ≡ passes) × (b ≡ passes)
both_pass (Ok u) b h = (refl, h)
both_pass (Err e) b h = refused_passes e h

pub pass_both : (a b : Tested) → a ≡ passes → b ≡ passes → result_and a b ≡ passes
pass_both a b p q = rw p q

-- after a test that passes the next one decides
pub passes_then : (a b r : Tested) → passes ≡ a → r ≡ b → r ≡ result_and a b
passes_then a b r p q = rw (← p) q

pub asked : (b : Bool) (e : BookFault) → ask b e ≡ passes → b ≡ true
asked true e h = refl
asked false e h = refused_passes e h

pub asks : (b : Bool) (e : BookFault) → b ≡ true → ask b e ≡ passes
asks b e h = rw h refl

module _ {A : Type 0} (test : ℕ → A → Tested) where
  each_from : (i : ℕ) (xs : List A) → first_refused test i xs ≡ passes → (k : ℕ) (d : A) → k < length xs → test (i + k) (get_or xs k d) ≡ passes
  each_from i [] h k d lt = absurd (omega arith)
  each_from i (x ∷ xs) h zero d lt = rw add-zero (both_pass (test i x) (first_refused test (i + 1) xs) h).0
  each_from i (x ∷ xs) h (suc k) d lt =
      let e : i + 1 + k ≡ i + suc k = omega arith in
      subst (λ n. test n (get_or xs k d) ≡ passes) e (each_from (i + 1) xs (both_pass (test i x) (first_refused test (i + 1) xs) h).1 k d (omega arith))

  -- each item passes
  pub each : (xs : List A) → first_refused test 0 xs ≡ passes → (k : ℕ) (d : A) → k < length xs → test k (get_or xs k d) ≡ passes
  each xs h k d lt = subst (λ n. test n (get_or xs k d) ≡ passes) (zero-add k) (each_from 0 xs h k d lt)

  all_from : (i : ℕ) (xs : List A) → ((k : ℕ) (d : A) → k < length xs → test (i + k) (get_or xs k d) ≡ passes) → first_refused test i xs ≡ passes
  all_from i [] h = refl
  all_from i (x ∷ xs) h = pass_both (test i x) (first_refused test (i + 1) xs)
      (subst (λ n. test n x ≡ passes) (add-zero i) (h 0 x (omega arith)))
      (all_from (i + 1) xs (λ k d lt. let e : i + suc k ≡ i + 1 + k = omega arith in subst (λ n. test n (get_or xs k d) ≡ passes) e (h (suc k) d (omega arith))))

  pub all : (xs : List A) → ((k : ℕ) (d : A) → k < length xs → test k (get_or xs k d) ≡ passes) → first_refused test 0 xs ≡ passes
  all xs h = all_from 0 xs (λ k d lt. subst (λ n. test n (get_or xs k d) ≡ passes) (sym (zero-add k)) (h k d lt))

short_from : (u : Option ℕ) → is_short u ≡ true → IfThere u (λ u. u ≤ 65534)
short_from None h = tt
short_from (Some u) h = let lt = ltb-true u 65535 h in omega arith

short_back : (u : Option ℕ) → IfThere u (λ u. u ≤ 65534) → is_short u ≡ true
short_back None h = refl
short_back (Some u) h = lt-ltb u 65535 (omega arith)

ended_from : (range : Range) → is_ended range ≡ true → Ended range
ended_from range h =
    let p = and_parts (leb range.lower 65535) (is_short range.upper) h in
    (leb-true range.lower 65535 p.0, short_from range.upper p.1)

ended_back : (range : Range) → Ended range → is_ended range ≡ true
ended_back range h = and_from (leb range.lower 65535) (is_short range.upper) (le-leb range.lower 65535 h.0) (short_back range.upper h.1)

there_from : (n : ℕ) (i : Option ℕ) → is_there n i ≡ true → IfThere i (λ i. i < n)
there_from n None h = tt
there_from n (Some i) h = ltb-true i n h

there_back : (n : ℕ) (i : Option ℕ) → IfThere i (λ i. i < n) → is_there n i ≡ true
there_back n None h = refl
there_back n (Some i) h = lt-ltb i n h

module _ (limits : Limits) (at : ℕ) where
  two_below : (a n b m : ℕ) → (ltb a n && ltb b m) ≡ true → (a < n) × (b < m)
  two_below a n b m h = let p = and_parts (ltb a n) (ltb b m) h in (ltb-true a n p.0, ltb-true b m p.1)

  below_two : (a n b m : ℕ) → a < n → b < m → (ltb a n && ltb b m) ≡ true
  below_two a n b m p q = and_from (ltb a n) (ltb b m) (lt-ltb a n p) (lt-ltb b m q)

  numbered : (bounds : Bounds) → (is_there limits.numbers bounds.lower && is_there limits.numbers bounds.upper) ≡ true → Numbered limits bounds
  numbered bounds h =
      let p = and_parts (is_there limits.numbers bounds.lower) (is_there limits.numbers bounds.upper) h in
      (there_from limits.numbers bounds.lower p.0, there_from limits.numbers bounds.upper p.1)

  numbered_back : (bounds : Bounds) → Numbered limits bounds → (is_there limits.numbers bounds.lower && is_there limits.numbers bounds.upper) ≡ true
  numbered_back bounds h = and_from (is_there limits.numbers bounds.lower) (is_there limits.numbers bounds.upper)
      (there_back limits.numbers bounds.lower h.0) (there_back limits.numbers bounds.upper h.1)

  -- a row that fits keeps its rules
  fit_rules : (row : Row) → row_fits limits.patterns limits.numbers at row ≡ true → row_above limits row ≡ true → Allowed limits row × AllByRecursion (λ o. o < at) (operands row)
  fit_rules True h u = (tt, tt)
  fit_rules False h u = (tt, tt)
  fit_rules (OfType t) h u = (tt, tt)
  fit_rules (BooleanIs b) h u = (tt, tt)
  fit_rules (Pattern p) h u = (ltb-true p limits.patterns h, tt)
  fit_rules (NotPattern p) h u = (ltb-true p limits.patterns h, tt)
  fit_rules (Length range) h u = (ended_from range h, tt)
  fit_rules (Between bounds) h u = (numbered bounds h, tt)
  fit_rules (StrictlyBetween bounds) h u = (numbered bounds h, tt)
  fit_rules (Multiple q) h u = ((ltb-true q limits.numbers h, u), tt)
  fit_rules (NotMultiple q) h u = ((ltb-true q limits.numbers h, u), tt)
  fit_rules (EveryMember p o) h u = let t = two_below p limits.patterns o at h in (t.0, (t.1, tt))
  fit_rules (SomeMember p o) h u = let t = two_below p limits.patterns o at h in (t.0, (t.1, tt))
  fit_rules (Members range) h u = (ended_from range h, tt)
  fit_rules (EveryElement o) h u = (tt, (ltb-true o at h, tt))
  fit_rules (SomeElement o) h u = (tt, (ltb-true o at h, tt))
  fit_rules (Count o range) h u = let t = and_parts (ltb o at) (is_ended range) h in (ended_from range t.1, (ltb-true o at t.0, tt))
  fit_rules (And a b) h u = let t = two_below a at b at h in (tt, (t.0, (t.1, tt)))
  fit_rules (Or a b) h u = let t = two_below a at b at h in (tt, (t.0, (t.1, tt)))
  fit_rules (Not o) h u = (tt, (ltb-true o at h, tt))
  fit_rules (Variable v) h u = (tt, tt)

  -- and a row that keeps them fits
  rules_fit : (row : Row) → Allowed limits row → AllByRecursion (λ o. o < at) (operands row) → (row_fits limits.patterns limits.numbers at row ≡ true) × (row_above limits row ≡ true)
  rules_fit True h l = (refl, refl)
  rules_fit False h l = (refl, refl)
  rules_fit (OfType t) h l = (refl, refl)
  rules_fit (BooleanIs b) h l = (refl, refl)
  rules_fit (Pattern p) h l = (lt-ltb p limits.patterns h, refl)
  rules_fit (NotPattern p) h l = (lt-ltb p limits.patterns h, refl)
  rules_fit (Length range) h l = (ended_back range h, refl)
  rules_fit (Between bounds) h l = (numbered_back bounds h, refl)
  rules_fit (StrictlyBetween bounds) h l = (numbered_back bounds h, refl)
  rules_fit (Multiple q) h l = (lt-ltb q limits.numbers h.0, h.1)
  rules_fit (NotMultiple q) h l = (lt-ltb q limits.numbers h.0, h.1)
  rules_fit (EveryMember p o) h l = (below_two p limits.patterns o at h l.0, refl)
  rules_fit (SomeMember p o) h l = (below_two p limits.patterns o at h l.0, refl)
  rules_fit (Members range) h l = (ended_back range h, refl)
  rules_fit (EveryElement o) h l = (lt-ltb o at l.0, refl)
  rules_fit (SomeElement o) h l = (lt-ltb o at l.0, refl)
  rules_fit (Count o range) h l = (and_from (ltb o at) (is_ended range) (lt-ltb o at l.0) (ended_back range h), refl)
  rules_fit (And a b) h l = (below_two a at b at l.0 l.1.0, refl)
  rules_fit (Or a b) h l = (below_two a at b at l.0 l.1.0, refl)
  rules_fit (Not o) h l = (lt-ltb o at l.0, refl)
  rules_fit (Variable v) h l = (refl, refl)

  pub row_passes : (place : ℕ) (row : Row) → row_test limits at place row ≡ passes → Allowed limits row × AllByRecursion (λ o. o < at) (operands row)
  row_passes place row h =
      let t = both_pass (ask (row_fits limits.patterns limits.numbers at row) _) (ask (row_above limits row) _) h in
      fit_rules row (asked (row_fits limits.patterns limits.numbers at row) _ t.0) (asked (row_above limits row) _ t.1)

  pub passes_row : (place : ℕ) (row : Row) → Allowed limits row → AllByRecursion (λ o. o < at) (operands row) → row_test limits at place row ≡ passes
  passes_row place row h l =
      let t = rules_fit row h l in
      pass_both (ask (row_fits limits.patterns limits.numbers at row) _) (ask (row_above limits row) _) (asks (row_fits limits.patterns limits.numbers at row) _ t.0) (asks (row_above limits row) _ t.1)

pub call_from : (d place : ℕ) (to : Reach) → call_test d place to ≡ passes → AllByRecursion (λ v. v < d) (called to)
call_from d place nothing h = tt
call_from d place (inner o) h = tt
call_from d place (both a b) h = tt
call_from d place (negated o) h = tt
call_from d place (body v) h = (ltb-true v d (asked (ltb v d) _ h), tt)

pub call_back : (d place : ℕ) (to : Reach) → AllByRecursion (λ v. v < d) (called to) → call_test d place to ≡ passes
call_back d place nothing h = refl
call_back d place (inner o) h = refl
call_back d place (both a b) h = refl
call_back d place (negated o) h = refl
call_back d place (body v) h = asks (ltb v d) _ (lt-ltb v d h.0)

-- all the rules of a sealed book but the guard
pub record Kept (limits : Limits) (book : Book) : Type 0 where
  pub few_rows : length book.rows ≤ 2048
  pub few_numbers : limits.numbers ≤ 1024
  pub some_definition : 1 ≤ length book.definitions
  pub few_definitions : length book.definitions ≤ 128
  pub allowed : (r : ℕ) → r < length book.rows → Allowed limits (row_at book r)
  pub lower : (r : ℕ) → r < length book.rows → AllByRecursion (λ o. o < r) (operands (row_at book r))
  pub defined : (r : ℕ) → r < length book.rows → AllByRecursion (λ v. v < length book.definitions) (variables (row_at book r))
  pub bodies : (v : ℕ) → v < length book.definitions → body_at book v < length book.rows

-- what passes has at most so many items
few : (n most : ℕ) → ((k : ℕ) → k < n → ltb k most ≡ true) → n ≤ most
few zero most h = omega arith
few (suc n) most h = let lt = ltb-true n most (h n (omega arith)) in omega arith

module _ (limits : Limits) (book : Book) where
  kept_from : plain_test limits book ≡ passes → Kept limits book
  kept_from h =
      let d = length book.definitions in
      let n = length book.rows in
      let a = both_pass (ask (leb limits.numbers 1024) _) _ h in
      let b = both_pass (first_refused (counted_row limits) 0 book.rows) _ a.1 in
      let c = both_pass (first_refused (definition_test n) 0 book.definitions) _ b.1 in
      let e = both_pass (ask (not (eqb d 0)) _) (first_refused (variable_test d) 0 book.rows) c.1 in
      let row : (r : ℕ) → r < n → (ltb r 2048 ≡ true) × (row_test limits r r (row_at book r) ≡ passes) =
      λ r lt. let t = both_pass (ask (ltb r 2048) _) (row_test limits r r (row_at book r)) (each (counted_row limits) book.rows b.0 r False lt) in (asked (ltb r 2048) _ t.0, t.1) in
      let definition : (v : ℕ) → v < d → (ltb v 128 ≡ true) × (ltb (body_at book v) n ≡ true) =
      λ v lt. let t = both_pass (ask (ltb v 128) _) (ask (ltb (body_at book v) n) _) (each (definition_test n) book.definitions c.0 v 0 lt) in (asked (ltb v 128) _ t.0, asked (ltb (body_at book v) n) _ t.1) in
      let some : d ≡ 0 → ⊥ = eqb-false d 0 (not-true (eqb d 0) (asked (not (eqb d 0)) _ e.0)) in
      record {
        few_rows = few n 2048 (λ r lt. (row r lt).0);
        few_numbers = leb-true limits.numbers 1024 (asked (leb limits.numbers 1024) _ a.0);
        some_definition = omega (arith, some);
        few_definitions = few d 128 (λ v lt. (definition v lt).0);
        allowed = λ r lt. (row_passes limits r r (row_at book r) (row r lt).1).0;
        lower = λ r lt. (row_passes limits r r (row_at book r) (row r lt).1).1;
        defined = λ r lt. call_from d r (reach (row_at book r)) (each (variable_test d) book.rows e.1 r False lt);
        bodies = λ v lt. ltb-true (body_at book v) n (definition v lt).1;
      }

  pub kept_back : Kept limits book → plain_test limits book ≡ passes
  kept_back k =
      let d = length book.definitions in
      let n = length book.rows in
      pass_both (ask (leb limits.numbers 1024) _) _ (asks (leb limits.numbers 1024) _ (le-leb limits.numbers 1024 k.few_numbers))
      (pass_both (first_refused (counted_row limits) 0 book.rows) _ (all (counted_row limits) book.rows (λ r x lt.
      subst (λ row. counted_row limits r row ≡ passes) (get_or_default book.rows r False x lt)
      (pass_both (ask (ltb r 2048) _) (row_test limits r r (row_at book r)) (asks (ltb r 2048) _ (lt-ltb r 2048 (omega (arith, k.few_rows)))) (passes_row limits r r (row_at book r) (k.allowed r lt) (k.lower r lt)))))
      (pass_both (first_refused (definition_test n) 0 book.definitions) _ (all (definition_test n) book.definitions (λ v x lt.
      subst (λ b. definition_test n v b ≡ passes) (get_or_default book.definitions v 0 x lt)
      (pass_both (ask (ltb v 128) _) (ask (ltb (body_at book v) n) _) (asks (ltb v 128) _ (lt-ltb v 128 (omega (arith, k.few_definitions)))) (asks (ltb (body_at book v) n) _ (lt-ltb (body_at book v) n (k.bodies v lt))))))
      (pass_both (ask (not (eqb d 0)) _) (first_refused (variable_test d) 0 book.rows) (asks (not (eqb d 0)) _ (not_from_false (eqb d 0) (ne_eqb d 0 (λ z. omega (arith, k.some_definition)))))
      (all (variable_test d) book.rows (λ r x lt.
      subst (λ row. variable_test d r row ≡ passes) (get_or_default book.rows r False x lt) (call_back d r (reach (row_at book r)) (k.defined r lt)))))))

  kept_joined : Kept limits book → Joined book
  kept_joined k = record { few = k.few_rows; lower = k.lower; defined = k.defined; bodies = k.bodies }

  pub kept_sealed : Kept limits book → Guarded book → Sealed limits book
  kept_sealed k guarded = record {
    few_rows = k.few_rows;
    few_numbers = k.few_numbers;
    some_definition = k.some_definition;
    few_definitions = k.few_definitions;
    allowed = k.allowed;
    lower = k.lower;
    defined = k.defined;
    bodies = k.bodies;
    guarded = guarded;
  }

  pub sealed_kept : Sealed limits book → Kept limits book
  sealed_kept s = record {
    few_rows = s.few_rows;
    few_numbers = s.few_numbers;
    some_definition = s.some_definition;
    few_definitions = s.few_definitions;
    allowed = s.allowed;
    lower = s.lower;
    defined = s.defined;
    bodies = s.bodies;
  }

  -- what the tests refuse is not sealed
  pub refused_by : (e : BookFault) → Err e ≡ plain_test limits book → ComesTo limits book (Err e) × Seals limits book (Err e)
  refused_by e h = (inl (sym h), λ s. refused_passes e (h ∙ kept_back (sealed_kept s)))

  -- what they pass has no loose ends
  pub passed_joined : passes ≡ plain_test limits book → Joined book
  passed_joined h = kept_joined (kept_from (sym h))

  -- but a row may need itself
  pub unguarded_at : (r : ℕ) → passes ≡ plain_test limits book → Lowest book r → ComesTo limits book (Err (Unguarded r)) × Seals limits book (Err (Unguarded r))
  unguarded_at r h lowest = (inr (sym h, (r, refl, lowest)), λ s. s.guarded r lowest.there lowest.itself)

  -- and it is sealed if none does
  pub sealed_by : passes ≡ plain_test limits book → Guarded book → ComesTo limits book (Ok tt) × Seals limits book (Ok tt)
  sealed_by h guarded = ((sym h, guarded), kept_sealed (kept_from (sym h)) guarded)

pub lowest_one : (book : Book) (r s : ℕ) → Lowest book r → Lowest book s → r ≡ s
lowest_one book r s a b = ⊎_elim (λ (e : r ≡ s). e)
    (⊎_elim (λ (lt : r < s). absurd (b.before r lt a.itself)) (λ (gt : s < r). absurd (a.before s gt b.itself)))
    (cases_order r s)

-- a test has one outcome
pub only_one : (limits : Limits) (book : Book) (r other : Tested) → ComesTo limits book r → ComesTo limits book other → other ≡ r
only_one limits book (Ok u) (Ok v) a b = refl
only_one limits book (Ok u) (Err e) a (inl h) = refused_passes e (sym h ∙ a.0)
only_one limits book (Ok u) (Err e) a (inr h) = absurd (a.1 h.1.0 h.1.2.there h.1.2.itself)
only_one limits book (Err e) (Ok v) (inl h) b = refused_passes e (sym h ∙ b.0)
only_one limits book (Err e) (Ok v) (inr h) b = absurd (b.1 h.1.0 h.1.2.there h.1.2.itself)
only_one limits book (Err e) (Err f) (inl h) (inl k) = sym k ∙ h
only_one limits book (Err e) (Err f) (inl h) (inr k) = refused_passes e (sym h ∙ k.0)
only_one limits book (Err e) (Err f) (inr h) (inl k) = refused_passes f (sym k ∙ h.0)
only_one limits book (Err e) (Err f) (inr h) (inr k) =
    ap Err (k.1.1 ∙ ap Unguarded (lowest_one book k.1.0 h.1.0 k.1.2 h.1.2) ∙ sym h.1.1)

is_passed : (t : Tested) → is_ok t ≡ true → t ≡ passes
is_passed (Ok u) h = refl
is_passed (Err e) h = let z : ◌≡◌ {A = ℕ} 0 1 = cc in absurd (omega arith)

-- what a view of a book keeps makes it a sealed one
pub view_sealed : (limits : Limits) (book : Book) → is_ok (plain_test limits book) ≡ true → Guarded book → Sealed limits book
view_sealed limits book h guarded = kept_sealed limits book (kept_from limits book (is_passed (plain_test limits book) h)) guarded

-- limits that only count ask no more
any_above : (p n : ℕ) (row : Row) → row_above (counts p n) row ≡ true
any_above p n True = refl
any_above p n False = refl
any_above p n (OfType t) = refl
any_above p n (BooleanIs b) = refl
any_above p n (Pattern i) = refl
any_above p n (NotPattern i) = refl
any_above p n (Length range) = refl
any_above p n (Between bounds) = refl
any_above p n (StrictlyBetween bounds) = refl
any_above p n (Multiple q) = refl
any_above p n (NotMultiple q) = refl
any_above p n (EveryMember i o) = refl
any_above p n (SomeMember i o) = refl
any_above p n (Members range) = refl
any_above p n (EveryElement o) = refl
any_above p n (SomeElement o) = refl
any_above p n (Count o range) = refl
any_above p n (And a b) = refl
any_above p n (Or a b) = refl
any_above p n (Not o) = refl
any_above p n (Variable v) = refl

module _ (limits : Limits) (book : Book) where
  counted : (r : ℕ) → Allowed limits (row_at book r) → AllByRecursion (λ o. o < r) (operands (row_at book r)) → Allowed (counts limits.patterns limits.numbers) (row_at book r)
  counted r h l =
      (fit_rules (counts limits.patterns limits.numbers) r (row_at book r) (rules_fit limits r (row_at book r) h l).0 (any_above limits.patterns limits.numbers (row_at book r))).0

  -- what is sealed passes the tests, also when its limits are only counted
  pub counts_pass : Sealed limits book → is_ok (plain_test (counts limits.patterns limits.numbers) book) ≡ true
  counts_pass s = ap is_ok (kept_back (counts limits.patterns limits.numbers) book (record {
    few_rows = s.few_rows;
    few_numbers = s.few_numbers;
    some_definition = s.some_definition;
    few_definitions = s.few_definitions;
    allowed = λ r lt. counted r (s.allowed r lt) (s.lower r lt);
    lower = s.lower;
    defined = s.defined;
    bodies = s.bodies;
  }))
