-- In a guarded book every chain of direct needs ends.
use Rattle.std.proofs.Common.{◌≡◌, ℕ, zero, suc, ◌+◌, ◌<◌, ◌≤◌, Bool, true, false, cond, ◌||◌, eqb, List, [], ◌∷◌, length, sym, refl, ap, ◌∙◌, subst, ⊎_elim, arith}
use Rattle.std.specs.List.{AllByRecursion}
use Rattle.std.proofs.ByRecursion.{All-weaker}
use Rattle.std.proofs.lemmas.Bool.{eqb-true, eq-eqb, ne_eqb, cases_eq, cases_Bool, or_cases, or_from, both_ways}
use Rattle.rules.specs.Value.{◌∈◌, first, later}
use Rattle.rules.specs.Book.{Book, row_at, needs, Needs, direct, through, Guarded}

pub all_in : {A : Type 0} {x : A} (P : A → Type 0) (xs : List A) → AllByRecursion P xs → x ∈ xs → P x
all_in P [] h m = elim m [ ]
all_in P (y ∷ ys) h first = h.0
all_in P (y ∷ ys) h (later m) = all_in P ys h.1 m

pub all_each : {A : Type 0} (P : A → Type 0) (xs : List A) → ((x : A) → x ∈ xs → P x) → AllByRecursion P xs
all_each P [] h = tt
all_each P (x ∷ xs) h = (h x first, all_each P xs (λ y m. h y (later m)))

-- every chain of direct needs from this row ends
pub data Ends (book : Book) : ℕ → Type 0 where
  ends : {r : ℕ} → ((o : ℕ) → o ∈ needs book (row_at book r) → Ends book o) → Ends book r

-- every chain of direct needs from this row has fewer than k steps
abbrev pub Within : Book → ℕ → ℕ → Type 0
Within book zero r = ⊥
Within book (suc k) r = AllByRecursion (Within book k) (needs book (row_at book r))

pub within_more : (book : Book) (k r : ℕ) → Within book k r → Within book (suc k) r
within_more book zero r h = absurd h
within_more book (suc k) r h = All-weaker (Within book k) (Within book (suc k)) (within_more book k) (needs book (row_at book r)) h

pub within_ends : (book : Book) (k r : ℕ) → Within book k r → Ends book r
within_ends book zero r h = absurd h
within_ends book (suc k) r h = ends (λ o m. within_ends book k o (all_in (Within book k) (needs book (row_at book r)) h m))

-- how many of the numbers below n are not marked
free : (ℕ → Bool) → ℕ → ℕ
free seen zero = 0
free seen (suc n) = cond (seen n) 0 1 + free seen n

mark : (ℕ → Bool) → ℕ → ℕ → Bool
mark seen r k = eqb k r || seen k

one_more : (b c : Bool) → cond (b || c) 0 1 ≤ cond {A = ℕ} c 0 1
one_more true true = omega arith
one_more true false = omega arith
one_more false true = omega arith
one_more false false = omega arith

free_le : (seen : ℕ → Bool) (r n : ℕ) → free (mark seen r) n ≤ free seen n
unfolding free mark
free_le seen r zero = omega arith
free_le seen r (suc n) = omega (arith, free_le seen r n, one_more (eqb n r) (seen n))

one_less : (b c : Bool) → b ≡ true → c ≡ false → cond (b || c) 0 1 < cond {A = ℕ} c 0 1
one_less b c p q = rw (p, q) (omega arith)

free_lt : (seen : ℕ → Bool) (r n : ℕ) → r < n → seen r ≡ false → free (mark seen r) n < free seen n
unfolding free mark
free_lt seen r zero h e = omega arith
free_lt seen r (suc n) h e = ⊎_elim
    (λ same. omega (arith, free_le seen r n, one_less (eqb n r) (seen n) (eq-eqb n r same) (ap seen same ∙ e)))
    (λ other. let lower : r < n = omega arith in omega (arith, free_lt seen r n lower e, one_more (eqb n r) (seen n)))
    (cases_eq n r)

-- a chain, one direct need longer
pub then : {book : Book} {k r : ℕ} (o : ℕ) → Needs book k r → o ∈ needs book (row_at book r) → Needs book k o
then o (direct m) h = through m (direct h)
then o (through m n) h = through m (then o n h)

-- A set that holds what r directly needs, and with a row what that needs, holds all that r needs.
-- So if r needs each of its members too, r needs itself just where the set holds r: a test for the seal.
pub closed_holds : (book : Book) (S : ℕ → Bool) → ((m o : ℕ) → S m ≡ true → o ∈ needs book (row_at book m) → S o ≡ true) →
    {r k : ℕ} → ((o : ℕ) → o ∈ needs book (row_at book r) → S o ≡ true) → Needs book r k → S k ≡ true
closed_holds book S closed {r} {k} start (direct h) = start k h
closed_holds book S closed start (through {m = m} h n) = closed_holds book S closed (λ o i. closed m o (start m h) i) n

module _ (book : Book) (guarded : Guarded book)
    (inside : (r : ℕ) → r < length book.rows → AllByRecursion (λ o. o < length book.rows) (needs book (row_at book r))) where
  -- `seen` holds rows that need r, and r is not among them
  from : (fuel : ℕ) (seen : ℕ → Bool) (r : ℕ) → r < length book.rows → free seen (length book.rows) ≤ fuel →
      seen r ≡ false → ((k : ℕ) → seen k ≡ true → Needs book k r) → Within book fuel r
  unfolding mark
  from zero seen r h few new reach = absurd (omega (arith, free_lt seen r (length book.rows) h new))
  from (suc fuel) seen r h few new reach =
      all_each (Within book fuel) (needs book (row_at book r)) (λ o m.
      let lower : o < length book.rows = all_in (λ o. o < length book.rows) (needs book (row_at book r)) (inside r h) m in
      from fuel (mark seen r) o lower
      (omega (arith, free_lt seen r (length book.rows) h new))
      (or_from (eqb o r) (seen o)
      (ne_eqb o r (λ e. guarded r h (subst (λ k. Needs book r k) e (direct m))))
      (⊎_elim (λ t. absurd (guarded r h (through m (reach o t)))) (λ f. f) (cases_Bool (seen o))))
      (λ k t. ⊎_elim
      (λ e. subst (λ i. Needs book i o) (sym (eqb-true k r e)) (direct m))
      (λ e. then o (reach k e) m)
      (or_cases (eqb k r) (seen k) t)))

  none_seen : (n : ℕ) → free (λ _. false) n ≤ n
  unfolding free
  none_seen zero = omega arith
  none_seen (suc n) = omega (arith, none_seen n)

  -- no chain is longer than the book
  pub all_within : (r : ℕ) → r < length book.rows → Within book (length book.rows) r
  all_within r h = from (length book.rows) (λ _. false) r h (none_seen (length book.rows)) refl (λ k e. absurd (both_ways false refl e))

  pub all_end : (r : ℕ) → r < length book.rows → Ends book r
  all_end r h = within_ends book (length book.rows) r (all_within r h)
