-- How marks spread: a visit keeps what is known of them.
use Rattle.std.proofs.Common.{◌≡◌, ℕ, zero, suc, ◌+◌, ◌-◌, ◌<◌, ◌≤◌, Bool, true, false, cond, ◌≢◌, ◌⊎◌, List, [], ◌∷◌, ◌++◌, length, get_or, set, replicate, Some, None, Option, sym, refl, ap, ◌∙◌, subst, inl, inr, ⊎_elim, arith}
use Rattle.std.specs.List.{AllByRecursion}
use Rattle.std.proofs.lemmas.List.{append-nil, length-set, get_or-set_same, get_or-set_other, get_or_past}
use Rattle.std.proofs.lemmas.List.Sums.{sum_by-set, get_or-le-sum_by}
use Rattle.std.proofs.ByRecursion.{sum_by_le}
use Rattle.std.proofs.lemmas.Bool.{cases_Bool, cases_eq, cases_lt, both_ways}
use Rattle.rules.specs.Value.{◌∈◌, first, later}
use Rattle.rules.specs.Book.{Book, row_at, needs, Needs, direct}
use Rattle.rules.proofs.Guard.{then, closed_holds, all_in, all_each}
use Rattle.books.specs.Guard.{Reaches, Marked, Joined, if_there}
use Rattle.books.proofs.Needing.{needs_inside}
use Rattle.books.specs.Spread.{Work, work, IsMarked, visit, visit_all, pop, top, Room, unmarked, left, Waits, Spreading, EveryRoom, Fresh}

-- a marked row lies within the marks
marked_inside : (marks : List Bool) (o : ℕ) → get_or marks o false ≡ true → o < length marks
marked_inside marks o h = ⊎_elim (λ (lt : o < length marks). lt) (λ (le : length marks ≤ o). absurd (both_ways (get_or marks o false) (get_or_past marks o false le) h)) (cases_lt o (length marks))

-- nothing is marked at first
pub blank : (n o : ℕ) → get_or (replicate n false) o false ≡ false
blank zero o = refl
blank (suc n) zero = refl
blank (suc n) (suc o) = blank n o

-- a row that is not marked takes room
unmarked_at : (marks : List Bool) (o : ℕ) → o < length marks → get_or marks o false ≡ false → 1 ≤ unmarked marks
unmarked_at marks o h e = let n = get_or-le-sum_by (λ b. cond b 0 1) marks o false h in rw e at n

-- marking a row
module _ (marks : List Bool) (o : ℕ) (inside : o < length marks) (new : get_or marks o false ≡ false) where
  marked_here : get_or (set marks o true) o false ≡ true
  marked_here = get_or-set_same marks o true false inside

  marked_still : (i : ℕ) → get_or marks i false ≡ true → get_or (set marks o true) i false ≡ true
  marked_still i h = ⊎_elim (λ (e : i ≡ o). rw e marked_here) (λ (ne : i ≢ o). get_or-set_other marks o i true false ne ∙ h) (cases_eq i o)

  marked_before : (i : ℕ) → get_or (set marks o true) i false ≡ true → (i ≡ o) ⊎ (get_or marks i false ≡ true)
  marked_before i h = ⊎_elim (λ (e : i ≡ o). inl e) (λ (ne : i ≢ o). inr (sym (get_or-set_other marks o i true false ne) ∙ h)) (cases_eq i o)

  fewer : unmarked (set marks o true) + 1 ≡ unmarked marks
  fewer = let n = sum_by-set (λ b. cond b 0 1) marks o true false inside in let m = rw new at n in omega (arith, m)

module _ (book : Book) (start : ℕ) where
  pub has_room : (todo : List ℕ) (w : Work) (o : ℕ) → Spreading book start todo w → o < length book.rows → Room o w
  has_room todo w o s h =
      (omega (arith, s.long), λ new. omega (arith, s.room, unmarked_at w.marks o (omega (arith, s.long)) new))

  -- visiting the first of the rows to be visited
  new_visit : (os : List ℕ) (w : Work) (o : ℕ) → Spreading book start (o ∷ os) w → o < length book.rows → Reaches book start o → get_or w.marks o false ≡ false →
      Spreading book start os (work (set w.marks o true) (set w.stack w.height o) (w.height + 1))
  new_visit os w o s h r new =
      let inside : o < length w.marks = omega (arith, s.long) in
      let high : w.height < length w.stack = (has_room (o ∷ os) w o s h).1 new in
      let still = marked_still w.marks o inside new in
      let here : get_or (set w.marks o true) o false ≡ true = marked_here w.marks o inside new in
      let below : (k : ℕ) → k < w.height → get_or (set w.stack w.height o) k 0 ≡ get_or w.stack k 0 = λ k lt. get_or-set_other w.stack w.height k o 0 (λ e. omega arith) in
      record {
        long = rw length-set s.long;
        room = rw length-set (omega (arith, fewer w.marks o inside new, s.room));
        begun = still start s.begun;
        within = λ i m. ⊎_elim (λ (e : i ≡ o). rw e (h, r)) (λ (old : get_or w.marks i false ≡ true). s.within i old) (marked_before w.marks o inside new i m);
        stacked = λ k lt. ⊎_elim
            (λ (e : k ≡ w.height). rw (e, get_or-set_same w.stack w.height o 0 high) here)
            (λ (ne : k ≢ w.height). let lower : k < w.height = omega arith in rw (below k lower) (still (get_or w.stack k 0) (s.stacked k lower)))
            (cases_eq k w.height);
        closed = λ i m. ⊎_elim
            (λ (e : i ≡ o). inl (w.height, omega arith, get_or-set_same w.stack w.height o 0 high ∙ sym e))
            (λ (old : get_or w.marks i false ≡ true). ⊎_elim
            (λ (q : Waits w i). inl (q.0, omega (arith, q.1), below q.0 q.1 ∙ q.2))
            (λ (all : (x : ℕ) → x ∈ needs book (row_at book i) → IsMarked w x ⊎ (x ∈ (o ∷ os))). inr (λ x mem. ⊎_elim
            (λ (d : IsMarked w x). inl (still x d))
            (λ (t : x ∈ (o ∷ os)). pending x t here)
            (all x mem)))
            (s.closed i old))
            (marked_before w.marks o inside new i m);
      }
    where
      pending : (x : ℕ) → x ∈ (o ∷ os) → get_or (set w.marks o true) o false ≡ true → (get_or (set w.marks o true) x false ≡ true) ⊎ (x ∈ os)
      pending x first here = inl here
      pending x (later m) here = inr m

  old_visit : (os : List ℕ) (w : Work) (o : ℕ) → Spreading book start (o ∷ os) w → IsMarked w o → Spreading book start os w
  old_visit os w o s old =
      record {
        long = s.long;
        room = s.room;
        begun = s.begun;
        within = s.within;
        stacked = s.stacked;
        closed = λ i m. ⊎_elim (λ (q : Waits w i). inl q)
            (λ (all : (x : ℕ) → x ∈ needs book (row_at book i) → IsMarked w x ⊎ (x ∈ (o ∷ os))). inr (λ x mem. ⊎_elim (λ (d : IsMarked w x). inl d) (λ (t : x ∈ (o ∷ os)). pending x t) (all x mem)))
            (s.closed i m);
      }
    where
      pending : (x : ℕ) → x ∈ (o ∷ os) → IsMarked w x ⊎ (x ∈ os)
      pending x first = inl old
      pending x (later m) = inr m

  -- a visit leaves what is known, and as many rows as there were
  pub visit_keeps : (os : List ℕ) (w : Work) (o : ℕ) → Spreading book start (o ∷ os) w → o < length book.rows → Reaches book start o →
      Spreading book start os (visit o w) × (left (visit o w) ≡ left w)
  visit_keeps os w o s h r = ⊎_elim
      (λ (old : get_or w.marks o false ≡ true). rw old (old_visit os w o s old, refl))
      (λ (new : get_or w.marks o false ≡ false). rw new (new_visit os w o s h r new, omega (arith, fewer w.marks o (omega (arith, s.long)) new)))
      (cases_Bool (get_or w.marks o false))

  -- the uppermost row is looked at: what it needs is to be visited
  pub pop_keeps : (w : Work) → Spreading book start [] w → 0 < w.height → Spreading book start (needs book (row_at book (top w))) (pop w)
  pop_keeps w s h =
      record {
        long = s.long;
        room = omega (arith, s.room);
        begun = s.begun;
        within = s.within;
        stacked = λ k lt. s.stacked k (omega arith);
        closed = λ i m. ⊎_elim
            (λ (q : Waits w i). ⊎_elim
            (λ (e : q.0 ≡ w.height - 1). inr (λ x mem. inr (subst (λ j. x ∈ needs book (row_at book j)) (sym q.2 ∙ ap (λ k. get_or w.stack k 0) e) mem)))
            (λ (ne : q.0 ≢ w.height - 1). inl (q.0, omega (arith, q.1, ne), q.2))
            (cases_eq q.0 (w.height - 1)))
            (λ (all : (x : ℕ) → x ∈ needs book (row_at book i) → IsMarked w x ⊎ (x ∈ [])). inr (λ x mem. ⊎_elim (λ (d : IsMarked w x). inl d) (λ (t : x ∈ []). elim t [ ]) (all x mem)))
            (s.closed i m);
      }

  -- nothing waits: the marks are complete
  pub all_marked : (w : Work) → Spreading book start [] w → w.height ≡ 0 → Marked book start w.marks
  all_marked w s empty = λ o. ((λ m. (s.within o m).1), ⊎_elim (λ (e : o ≡ start). rw e s.begun) (λ (n : Needs book start o). closed_holds book (λ i. get_or w.marks i false) closed (λ x mem. closed start x s.begun mem) n))
    where
      closed : (m x : ℕ) → IsMarked w m → x ∈ needs book (row_at book m) → IsMarked w x
      closed m x h mem = ⊎_elim
          (λ (q : Waits w m). absurd (omega (arith, q.1)))
          (λ (all : (x : ℕ) → x ∈ needs book (row_at book m) → IsMarked w x ⊎ (x ∈ [])). ⊎_elim (λ (d : IsMarked w x). d) (λ (t : x ∈ []). elim t [ ]) (all x mem))
          (s.closed m h)

  -- the first row is marked, and waits
  pub started : (n : ℕ) (w : Work) → start < length book.rows → length book.rows ≤ n → Fresh n w → Room start w × Spreading book start [] (visit start w)
  started n w h fits fresh =
      let marks = w.marks in
      let stack = w.stack in
      let new : get_or marks start false ≡ false = fresh.3 start in
      let inside : start < length marks = omega (arith, fresh.0) in
      let bottom : 0 < length stack = omega (arith, fresh.1) in
      let few : unmarked marks ≤ length marks = omega (arith, sum_by_le (λ b. cond b 0 1) 1 marks (each_few marks)) in
      let only : (i : ℕ) → get_or (set marks start true) i false ≡ true → i ≡ start =
      λ i m. ⊎_elim (λ (e : i ≡ start). e) (λ (old : get_or marks i false ≡ true). absurd (both_ways (get_or marks i false) (fresh.3 i) old)) (marked_before marks start inside new i m) in
      let here : get_or (set marks start true) start false ≡ true = marked_here marks start inside new in (
        (inside, λ _. rw fresh.2 bottom),
        rw (new, fresh.2) (record {
          long = rw length-set (omega (arith, fresh.0));
          room = rw length-set (omega (arith, fewer marks start inside new, fresh.0, fresh.1));
          begun = here;
          within = λ i m. rw (only i m) (h, inl refl);
          stacked = λ k lt. let zero_k : k ≡ 0 = omega arith in rw (zero_k, get_or-set_same stack 0 start 0 bottom) here;
          closed = λ i m. inl (0, omega arith, get_or-set_same stack 0 start 0 bottom ∙ sym (only i m));
        }),
      )
    where
      each_few : (bs : List Bool) → AllByRecursion (λ b. cond b 0 1 ≤ 1) bs
      each_few [] = tt
      each_few (true ∷ bs) = (omega arith, each_few bs)
      each_few (false ∷ bs) = (omega arith, each_few bs)

  -- visiting a row that may be there
  pub visits : (o : Option ℕ) (os : List ℕ) (w : Work) → Spreading book start (if_there o ++ os) w → AllByRecursion (λ x. (x < length book.rows) × Reaches book start x) (if_there o) →
      EveryRoom o w × (Spreading book start os (visit_all (if_there o) w) × (left (visit_all (if_there o) w) ≡ left w))
  visits None os w s h = (tt, (s, refl))
  visits (Some o) os w s h = (has_room (o ∷ os) w o s h.0.0, visit_keeps os w o s h.0.0 h.0.1)

  onward : (r o : ℕ) → Reaches book start r → o ∈ needs book (row_at book r) → Reaches book start o
  onward r o (inl e) mem = inr (direct (subst (λ k. o ∈ needs book (row_at book k)) e mem))
  onward r o (inr n) mem = inr (then o n mem)

  halves : (P : ℕ → Type 0) (a b : Option ℕ) → AllByRecursion P (if_there a ++ if_there b) → AllByRecursion P (if_there a) × AllByRecursion P (if_there b)
  halves P None b h = (tt, h)
  halves P (Some x) b h = ((h.0, tt), h.1)

  -- one turn: the uppermost row is looked at
  module _ (joined : Joined book) (w : Work) (s : Spreading book start [] w) (high : 0 < w.height) where
    pub top_inside : top w < length book.rows
    top_inside = (s.within (top w) (s.stacked (w.height - 1) (omega arith))).0

    module _ (a b : Option ℕ) (is : if_there a ++ if_there b ≡ needs book (row_at book (top w))) where
      fit : AllByRecursion (λ x. (x < length book.rows) × Reaches book start x) (if_there a) × AllByRecursion (λ x. (x < length book.rows) × Reaches book start x) (if_there b)
      fit = halves (λ x. (x < length book.rows) × Reaches book start x) a b
          (subst (AllByRecursion (λ x. (x < length book.rows) × Reaches book start x)) (sym is)
          (all_each (λ x. (x < length book.rows) × Reaches book start x) (needs book (row_at book (top w))) (λ x mem. (
            all_in (λ o. o < length book.rows) (needs book (row_at book (top w))) (needs_inside book joined (top w) top_inside) mem,
            onward (top w) x (s.within (top w) (s.stacked (w.height - 1) (omega arith))).1 mem,
          ))))

      pub one : EveryRoom a (pop w) × (Spreading book start (if_there b) (visit_all (if_there a) (pop w)) × (left (visit_all (if_there a) (pop w)) ≡ left (pop w)))
      one = visits a (if_there b) (pop w) (subst (λ os. Spreading book start os (pop w)) (sym is) (pop_keeps w s high)) fit.0

      pub two : (v : Work) → v ≡ visit_all (if_there a) (pop w) →
          EveryRoom b v × (Spreading book start [] (visit_all (if_there b) v) × (left (visit_all (if_there b) v) < left w))
      two v e =
          let t = visits b [] v (rw (e, append-nil) one.1.0) fit.1 in
          (t.0, (t.1.0, omega (arith, t.1.1, one.1.1, ap left e)))

      -- with both rows visited, the turn is over
      pub record Turn (popped : Work) : Type 0 where
        pub first_room : EveryRoom a popped
        pub second_room : (v : Work) → v ≡ visit_all (if_there a) popped → EveryRoom b v
        pub keeps : (v u : Work) → v ≡ visit_all (if_there a) popped → u ≡ visit_all (if_there b) v → Spreading book start [] u
        pub fewer : (v u : Work) → v ≡ visit_all (if_there a) popped → u ≡ visit_all (if_there b) v → left u < left w

      pub turn : (popped : Work) → popped ≡ pop w → Turn popped
      turn popped e = rw e (record {
        first_room = one.0;
        second_room = λ v p. (two v p).0;
        keeps = λ v u p q. subst (Spreading book start []) (sym q) (two v p).1.0;
        fewer = λ v u p q. subst (λ u. left u < left w) (sym q) (two v p).1.1;
      })
