-- The lowest row that needs itself is a variable.
use Rattle.std.proofs.Common.{◌≡◌, ℕ, zero, suc, ◌<◌, ◌≤◌, min, Bool, true, false, ◌⊎◌, List, [], ◌∷◌, ◌++◌, length, get_or, Some, None, Option, sym, refl, ap, ◌∙◌, subst, inl, inr, ⊎_elim, arith}
use Rattle.std.specs.List.{AllByRecursion, range_with_len}
use Rattle.std.proofs.lemmas.Bool.{eqb-true, eq-eqb, cases_lt, both_ways}
use Rattle.std.proofs.lemmas.List.{length_push, get_or_push, get_or_append_left}
use Rattle.std.proofs.lemmas.List.FromFn.{length-range_with_len, get_or-range_with_len}
use Rattle.rules.specs.declared.row.Row.TheVariants.{False}
use Rattle.rules.specs.Value.{◌∈◌, first, later}
use Rattle.rules.specs.Book.{Book, row_at, body_at, Reach, nothing, inner, both, negated, body, reach, named, called, needed, needs, Needs, direct, through, Guarded}
use Rattle.rules.proofs.Guard.{then, all_in}
use Rattle.books.specs.Guard.{book_of, Joined, Finds, Reaches, Marked, names, calls, LowestOf, lower_of, FirstCall, FirstCycle}

-- the first step of a chain of needs
first_step : (book : Book) (r o : ℕ) → Needs book r o → (m : ℕ) × (m ∈ needs book (row_at book r)) × Reaches book m o
first_step book r o (direct mem) = (o, mem, inl refl)
first_step book r o (through {m = m} mem n) = (m, mem, inr n)

from_step : (book : Book) (r m o : ℕ) → m ∈ needs book (row_at book r) → Reaches book m o → Needs book r o
from_step book r m o mem (inl e) = direct (subst (λ k. k ∈ needs book (row_at book r)) (sym e) mem)
from_step book r m o mem (inr n) = through mem n

alone : (m x : ℕ) → m ∈ (x ∷ []) → m ≡ x
alone m x first = refl
alone m x (later t) = elim t [ ]

is_body : (to : Reach) (v : ℕ) → names to v ≡ true → to ≡ body v
is_body nothing v h = absurd (both_ways false refl h)
is_body (inner o) v h = absurd (both_ways false refl h)
is_body (both a b) v h = absurd (both_ways false refl h)
is_body (negated o) v h = absurd (both_ways false refl h)
is_body (body u) v h = ap body (eqb-true u v h)

module _ (book : Book) where
  -- a variable needs itself exactly if its definition's body reaches it
  pub cycle_marked : (r v : ℕ) (marks : List Bool) → calls (row_at book r) v ≡ true → Marked book (body_at book v) marks →
      (get_or marks r false ≡ true → Needs book r r) × (Needs book r r → get_or marks r false ≡ true)
  cycle_marked r v marks call marked =
      let is : needs book (row_at book r) ≡ body_at book v ∷ [] = ap (needed book) (is_body (reach (row_at book r)) v call) in (
        (λ m. from_step book r (body_at book v) r (subst (λ os. body_at book v ∈ os) (sym is) first) ((marked r).0 m)),
        (λ n. let s = first_step book r r n in
            (marked r).1 (subst (λ k. Reaches book k r) (alone s.0 (body_at book v) (subst (λ os. s.0 ∈ os) is s.1)) s.2)),
      )

  -- what a row needs is below it, unless it is a variable
  below : (s m : ℕ) (to : Reach) → AllByRecursion (λ o. o < s) (named to) → m ∈ needed book to → ((v : ℕ) × (to ≡ body v)) ⊎ (m < s)
  below s m nothing lower mem = elim mem [ ]
  below s m (inner o) lower mem = elim mem [ ]
  below s m (both a b) lower mem = inr (all_in (λ o. o < s) (a ∷ b ∷ []) lower mem)
  below s m (negated o) lower mem = inr (all_in (λ o. o < s) (o ∷ []) lower mem)
  below s m (body v) lower mem = inl (v, refl)

  pub record VariableCycle (s : ℕ) : Type 0 where
    pub row : ℕ
    pub variable : ℕ
    pub low : row ≤ s
    pub defined : variable < length book.definitions
    pub names_it : calls (row_at book row) variable ≡ true
    pub itself : Needs book row row

  module _ (joined : Joined book) where
    -- where a row needs itself, a variable at or below it does
    variable_within : (k s : ℕ) → s < k → s < length book.rows → Needs book s s → VariableCycle s
    variable_within zero s few h n = absurd (omega arith)
    variable_within (suc k) s few h n =
        let step = first_step book s s n in
        let m = step.0 in
        ⊎_elim
        (λ (var : (v : ℕ) × (reach (row_at book s) ≡ body v)). record {
          row = s;
          variable = var.0;
          low = omega arith;
          defined = (subst (λ to. AllByRecursion (λ v. v < length book.definitions) (called to)) var.1 (joined.defined s h)).0;
          names_it = ap (λ to. names to var.0) var.1 ∙ eq-eqb var.0 var.0 refl;
          itself = n;
        })
        (λ (lt : m < s).
        let again : Needs book m m = ⊎_elim (λ (e : s ≡ m). absurd (omega arith)) (λ (back : Needs book m s). then m back step.1) step.2 in
        let lower = variable_within k m (omega arith) (omega arith) again in
        record { row = lower.row; variable = lower.variable; low = omega (arith, lower.low); defined = lower.defined; names_it = lower.names_it; itself = lower.itself })
        (below s m (reach (row_at book s)) (joined.lower s h) step.1)

    pub variable_below : (s : ℕ) → s < length book.rows → Needs book s s → VariableCycle s
    variable_below s h n = variable_within (suc s) s (omega arith) h n

-- a row is known to need itself, once the variables of these definitions are looked at
abbrev pub Known : Book → (ds : List ℕ) → (s : ℕ) → Type 0
Known book ds s = Needs book s s × ((i : ℕ) × (i < length ds) × (calls (row_at book s) (get_or ds i 0) ≡ true))

-- the lowest one that is known
abbrev pub Best : Book → List ℕ → Option ℕ → Type 0
Best book ds lowest = LowestOf (length book.rows) (Known book ds) lowest

pub none_yet : (book : Book) → Best book [] None
none_yet book s h known = absurd (omega (arith, known.1.1))

-- a marked variable of a definition needs itself
pub first_cycle : (book : Book) (v : ℕ) (r : Option ℕ) (marks : List Bool) → Marked book (body_at book v) marks → FirstCall book.rows v marks r → FirstCycle book v r
first_cycle book v None marks marked call = λ s h cycle. call s h ((cycle_marked book s v marks cycle.0 marked).1 cycle.1, cycle.0)
first_cycle book v (Some r) marks marked call = (
  call.0,
  (call.1.1, (cycle_marked book r v marks call.1.1 marked).0 call.1.0),
  λ s h cycle. call.2 s h ((cycle_marked book s v marks cycle.0 marked).1 cycle.1, cycle.0),
)

module _ (book : Book) (ds : List ℕ) (d : ℕ) where
  -- what is known with one more definition
  newer : (s : ℕ) → (Known book ds s → ⊥) → ((calls (row_at book s) d ≡ true) × Needs book s s → ⊥) → Known book (ds ++ (d ∷ [])) s → ⊥
  newer s old here known =
      let i = known.1.0 in
      let few = length_push ds d in
      ⊎_elim
      (λ (lt : i < length ds). old (known.0, (i, lt, subst (λ u. calls (row_at book s) u ≡ true) (get_or_append_left ds (d ∷ []) 0 i lt) known.1.2)))
      (λ (ge : length ds ≤ i). here (subst (λ u. calls (row_at book s) u ≡ true) (get_or_push ds d 0 i (omega (arith, few, known.1.1))) known.1.2, known.0))
      (cases_lt i (length ds))

  still : (s : ℕ) → Known book ds s → Known book (ds ++ (d ∷ [])) s
  still s known =
      let few = length_push ds d in
      (known.0, (known.1.0, omega (arith, few, known.1.1), subst (λ u. calls (row_at book s) u ≡ true) (sym (get_or_append_left ds (d ∷ []) 0 known.1.0 known.1.1)) known.1.2))

  now : (s : ℕ) → (calls (row_at book s) d ≡ true) × Needs book s s → Known book (ds ++ (d ∷ [])) s
  now s cycle =
      let few = length_push ds d in
      (cycle.1, (length ds, omega (arith, few), subst (λ u. calls (row_at book s) u ≡ true) (sym (get_or_push ds d 0 (length ds) refl)) cycle.0))

  -- the variables of one more definition
  pub next_best : (lowest r : Option ℕ) → Best book ds lowest → FirstCycle book d r → Best book (ds ++ (d ∷ [])) (lower_of lowest r)
  next_best None None best here = λ s h. newer s (best s h) (here s h)
  next_best None (Some r) best here = (here.0, now r here.1, λ s h. newer s (best s (omega (arith, here.0))) (here.2 s h))
  next_best (Some l) None best here = (best.0, still l best.1, λ s h. newer s (best.2 s h) (here s (omega (arith, best.0))))
  next_best (Some l) (Some r) best here = ⊎_elim
      (λ (lt : l < r). let e : min l r ≡ l = omega arith in rw e (best.0, still l best.1, λ s h. newer s (best.2 s h) (here.2 s (omega arith))))
      (λ (le : r ≤ l). let e : min l r ≡ r = omega arith in rw e (here.0, now r here.1, λ s h. newer s (best.2 s (omega arith)) (here.2 s h)))
      (cases_lt l r)

-- once all definitions are looked at, it is the lowest row that needs itself
module _ (book : Book) (joined : Joined book) where
  abbrev every : List ℕ
  every = range_with_len 0 (length book.definitions)

  known_below : (s : ℕ) → s < length book.rows → Needs book s s → (t : ℕ) × (t ≤ s) × Known book every t
  known_below s h n =
      let c = variable_below book joined s h n in
      let many : length every ≡ length book.definitions = length-range_with_len 0 (length book.definitions) in
      let it : c.variable ≡ get_or every c.variable 0 = omega (arith, get_or-range_with_len 0 (length book.definitions) c.variable 0 c.defined) in
      (c.row, c.low, (c.itself, (c.variable, omega (arith, many, c.defined), subst (λ u. calls (row_at book c.row) u ≡ true) it c.names_it)))

  pub finds : (lowest : Option ℕ) → Best book every lowest → Finds book lowest
  finds None best = λ s h n. let k = known_below s h n in best k.0 (omega (arith, k.1)) k.2
  finds (Some r) best = record {
    there = best.0;
    itself = best.1.0;
    before = λ s h n. let k = known_below s (omega (arith, best.0)) n in best.2 k.0 (omega (arith, k.1)) k.2;
  }

-- a book of one row that is false needs nothing
pub false_guarded : Guarded (book_of (False ∷ []) (0 ∷ []))
false_guarded zero h n = let s = first_step (book_of (False ∷ []) (0 ∷ [])) 0 0 n in elim s.1 [ ]
false_guarded (suc r) h n = absurd (omega arith)
