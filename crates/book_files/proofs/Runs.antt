-- Runs of fields of one tag: grown by one at the end, and taken apart in one way only.
use Rattle.std.proofs.Common.{◌≡◌, ℕ, zero, suc, ◌+◌, ◌*◌, ◌<◌, ◌≤◌, List, [], ◌∷◌, ◌++◌, length, get_or, sym, refl, ap, ◌∙◌, subst, append_assoc, add-zero, arith, length-append}
use Rattle.std.proofs.lemmas.List.{append-nil}
use Rattle.fields.specs.Fields.{field_bytes}
use Rattle.fields.proofs.Rows.{same_field}
use Rattle.book_files.specs.Drafts.{fields}
use Rattle.book_files.specs.Files.{Each}

module _ {A : Type 0} (P : ℕ → A → Type 0) where
  each_push : (n : ℕ) (xs : List A) (x : A) → Each P n xs → P (n + length xs) x → Each P n (xs ++ x ∷ [])
  each_push n [] x each p = (subst (λ k. P k x) (add-zero n) p, tt)
  each_push n (y ∷ xs) x each p = (
    each.0,
    each_push (n + 1) xs x each.1 (let e : n + suc (length xs) ≡ n + 1 + length xs = omega arith in subst (λ k. P k x) e p),
  )

  each_from : (n : ℕ) (xs : List A) → Each P n xs → (k : ℕ) (d : A) → k < length xs → P (n + k) (get_or xs k d)
  each_from n [] each k d lt = absurd (omega arith)
  each_from n (x ∷ xs) each zero d lt = subst (λ i. P i x) (sym (add-zero n)) each.0
  each_from n (x ∷ xs) each (suc k) d lt =
      let e : n + 1 + k ≡ n + suc k = omega arith in
      subst (λ i. P i (get_or xs k d)) e (each_from (n + 1) xs each.1 k d (omega arith))

  -- by index
  pub each_at : (xs : List A) → Each P 0 xs → (k : ℕ) (d : A) → k < length xs → P k (get_or xs k d)
  each_at xs each k d lt = let e : 0 + k ≡ k = omega arith in subst (λ i. P i (get_or xs k d)) e (each_from 0 xs each k d lt)

  from_each : (n : ℕ) (xs : List A) → ((k : ℕ) (d : A) → k < length xs → P (n + k) (get_or xs k d)) → Each P n xs
  from_each n [] h = tt
  from_each n (x ∷ xs) h = (
    subst (λ i. P i x) (add-zero n) (h 0 x (omega arith)),
    from_each (n + 1) xs (λ k d lt. let e : n + suc k ≡ n + 1 + k = omega arith in subst (λ i. P i (get_or xs k d)) e (h (suc k) d (omega arith))),
  )

  pub each_by : (xs : List A) → ((k : ℕ) (d : A) → k < length xs → P k (get_or xs k d)) → Each P 0 xs
  each_by xs h = from_each 0 xs (λ k d lt. let e : k ≡ 0 + k = omega arith in subst (λ i. P i (get_or xs k d)) e (h k d lt))

  pub each_more : (xs : List A) (x : A) → Each P 0 xs → P (length xs) x → Each P 0 (xs ++ x ∷ [])
  each_more xs x each p = let e : length xs ≡ 0 + length xs = omega arith in each_push 0 xs x each (subst (λ k. P k x) e p)

-- so many fit, if each does
pub each_few : {A : Type 0} (P : ℕ → A → Type 0) (most : ℕ) → ((n : ℕ) (x : A) → P n x → n < most) → (xs : List A) → Each P 0 xs → length xs ≤ most
each_few P most small [] each = omega arith
each_few P most small (x ∷ xs) each =
    let last = small (length xs) (get_or (x ∷ xs) (length xs) x) (each_at P (x ∷ xs) each (length xs) x (omega arith)) in
    omega arith

module _ {A : Type 0} (tag : ℕ) (body : A → List ℕ) where
  pub fields_push : (xs : List A) (x : A) → fields tag body (xs ++ x ∷ []) ≡ fields tag body xs ++ field_bytes tag (body x)
  fields_push [] x = append-nil (field_bytes tag (body x))
  fields_push (y ∷ xs) x =
      ap (λ bs. field_bytes tag (body y) ++ bs) (fields_push xs x)
      ∙ sym (append_assoc (field_bytes tag (body y)) (fields tag body xs) (field_bytes tag (body x)))

  -- the length of a run whose bodies are all of one length
  pub fields_length : (n : ℕ) → ((x : A) → length (body x) ≡ n) → (xs : List A) → length (fields tag body xs) ≡ (3 + n) * length xs
  fields_length n long [] = omega arith
  fields_length n long (x ∷ xs) =
      let rest = fields_length n long xs in
      let here = long x in
      let step : length (field_bytes tag (body x) ++ fields tag body xs) ≡ 3 + n + length (fields tag body xs) = simp length-append (omega arith) in
      step ∙ ap (λ k. 3 + n + k) rest ∙ omega arith

  -- no item that fits can be taken off the front
  abbrev pub Stuck : (ℕ → A → Type 0) → ℕ → List ℕ → Type 0
  Stuck P n bytes = (x : A) (more : List ℕ) → P n x → bytes ≡ field_bytes tag (body x) ++ more → ⊥

  module _ (P : ℕ → A → Type 0) (same : (n : ℕ) (x y : A) → P n x → P n y → body x ≡ body y → x ≡ y) where
    -- a run that goes on as far as items fit is one only
    one_run : (n : ℕ) (xs ys : List A) (u v : List ℕ) → Each P n xs → Each P n ys → Stuck P (n + length xs) u → Stuck P (n + length ys) v →
        fields tag body xs ++ u ≡ fields tag body ys ++ v → (xs ≡ ys) × (u ≡ v)
    one_run n [] [] u v ex ey su sv e = (refl, e)
    one_run n [] (y ∷ ys) u v ex ey su sv e =
        absurd (su y (fields tag body ys ++ v) (subst (λ k. P k y) (sym (add-zero n)) ey.0) (e ∙ append_assoc (field_bytes tag (body y)) (fields tag body ys) v))
    one_run n (x ∷ xs) [] u v ex ey su sv e =
        absurd (sv x (fields tag body xs ++ u) (subst (λ k. P k x) (sym (add-zero n)) ex.0) (sym e ∙ append_assoc (field_bytes tag (body x)) (fields tag body xs) u))
    one_run n (x ∷ xs) (y ∷ ys) u v ex ey su sv e =
        let split = same_field tag (body x) (body y) (fields tag body xs ++ u) (fields tag body ys ++ v)
        (sym (append_assoc (field_bytes tag (body x)) (fields tag body xs) u) ∙ e ∙ append_assoc (field_bytes tag (body y)) (fields tag body ys) v) in
        let first = same n x y ex.0 ey.0 split.0 in
        let shift : (zs : List A) → n + suc (length zs) ≡ n + 1 + length zs = λ zs. omega arith in
        let rest = one_run (n + 1) xs ys u v ex.1 ey.1 (subst (λ k. Stuck P k u) (shift xs) su) (subst (λ k. Stuck P k v) (shift ys) sv) split.1 in
        (rw (first, rest.0) refl, rest.1)

    pub run_once : (xs ys : List A) (u v : List ℕ) → Each P 0 xs → Each P 0 ys → Stuck P (length xs) u → Stuck P (length ys) v →
        fields tag body xs ++ u ≡ fields tag body ys ++ v → (xs ≡ ys) × (u ≡ v)
    run_once xs ys u v ex ey su sv e =
        let none : (zs : List A) → length zs ≡ 0 + length zs = λ zs. omega arith in
        one_run 0 xs ys u v ex ey (subst (λ k. Stuck P k u) (none xs) su) (subst (λ k. Stuck P k v) (none ys) sv) e
