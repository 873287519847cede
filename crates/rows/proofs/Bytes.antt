-- The ten bytes of fields: what is written is read, and nothing else.
use Rattle.std.proofs.Common.{◌≡◌, ℕ, ◌+◌, ◌*◌, ◌/◌, ◌%◌, ◌<◌, Bool, true, false, cond, ◌&&◌, eqb, ◌⊎◌, List, [], ◌∷◌, length, get_or, Some, None, Option, sym, refl, ap, ◌∙◌, inl, inr, ⊎_elim, arith}
use Rattle.std.proofs.lemmas.List.FromFn.{fill_by_all}
use Rattle.std.proofs.lemmas.Bool.{eqb-true, and_parts}
use Rattle.rows.specs.declared.fields.Ends.{Ends}
use Rattle.rows.specs.declared.fields.Fields.{Fields}
use Rattle.rows.specs.Fields.{ends, fields, held, present, bytes_of, ends_from}

-- a test that passed, or did not
cond_some : {A : Type 0} (b : Bool) (x y : A) (rest : Option A) → cond b (Some x) rest ≡ Some y → ((b ≡ true) × (x ≡ y)) ⊎ (rest ≡ Some y)
cond_some true x y rest h = inl (refl, cc)
cond_some false x y rest h = inr h

-- ends as their byte and their numbers
pub record WrittenEnds (bits lower upper : ℕ) (e : Ends) : Type 0 where
  pub flags : bits ≡ present e
  pub low : lower ≡ held e.lower
  pub high : upper ≡ held e.upper

pub ends_written : (bits lower upper : ℕ) (e : Ends) → ends_from bits lower upper ≡ Some e → WrittenEnds bits lower upper e
ends_written bits lower upper e h =
    ⊎_elim
    (λ a. let t = and_parts (eqb bits 0) (eqb lower 0 && eqb upper 0) a.0 in let u = and_parts (eqb lower 0) (eqb upper 0) t.1 in
    rw (← a.1) (record { flags = eqb-true bits 0 t.0; low = eqb-true lower 0 u.0; high = eqb-true upper 0 u.1 }))
    (λ h. ⊎_elim
    (λ a. let t = and_parts (eqb bits 1) (eqb upper 0) a.0 in
    rw (← a.1) (record { flags = eqb-true bits 1 t.0; low = refl; high = eqb-true upper 0 t.1 }))
    (λ h. ⊎_elim
    (λ a. let t = and_parts (eqb bits 2) (eqb lower 0) a.0 in
    rw (← a.1) (record { flags = eqb-true bits 2 t.0; low = eqb-true lower 0 t.1; high = refl }))
    (λ h. ⊎_elim
    (λ a. rw (← a.1) (record { flags = eqb-true bits 3 a.0; low = refl; high = refl }))
    (λ h. cc)
    (cond_some (eqb bits 3) _ e _ h))
    (cond_some (eqb bits 2 && eqb lower 0) _ e _ h))
    (cond_some (eqb bits 1 && eqb upper 0) _ e _ h))
    (cond_some (eqb bits 0 && (eqb lower 0 && eqb upper 0)) _ e _ h)

pub ends_back : (lower upper : Option ℕ) → ends_from (present (ends lower upper)) (held lower) (held upper) ≡ Some (ends lower upper)
ends_back None None = refl
ends_back None (Some u) = refl
ends_back (Some l) None = refl
ends_back (Some l) (Some u) = refl

-- the number of two bytes
pub word : (n : ℕ) → n / 256 * 256 + n % 256 ≡ n
word n = omega arith

-- ten bytes are read as the fields that they were written from
pub fields_written : (bytes : List ℕ) (f : Fields) → length bytes ≡ 10 → ((i : ℕ) → get_or bytes i 0 < 256) →
    f.operator ≡ get_or bytes 0 0 → f.first ≡ get_or bytes 2 0 * 256 + get_or bytes 3 0 → f.second ≡ get_or bytes 4 0 * 256 + get_or bytes 5 0 →
    WrittenEnds (get_or bytes 1 0) (get_or bytes 6 0 * 256 + get_or bytes 7 0) (get_or bytes 8 0 * 256 + get_or bytes 9 0) f.ends →
    bytes ≡ bytes_of f
fields_written bytes f ten small op first second e =
    let a = small 3 in let b = small 5 in let c = small 7 in let d = small 9 in
    let h2 : get_or bytes 2 0 ≡ f.first / 256 = omega arith in
    let h3 : get_or bytes 3 0 ≡ f.first % 256 = omega arith in
    let h4 : get_or bytes 4 0 ≡ f.second / 256 = omega arith in
    let h5 : get_or bytes 5 0 ≡ f.second % 256 = omega arith in
    let h6 : get_or bytes 6 0 ≡ held f.ends.lower / 256 = omega (arith, e.low) in
    let h7 : get_or bytes 7 0 ≡ held f.ends.lower % 256 = omega (arith, e.low) in
    let h8 : get_or bytes 8 0 ≡ held f.ends.upper / 256 = omega (arith, e.high) in
    let h9 : get_or bytes 9 0 ≡ held f.ends.upper % 256 = omega (arith, e.high) in
    let whole : bytes ≡ get_or bytes 0 0 ∷ get_or bytes 1 0 ∷ get_or bytes 2 0 ∷ get_or bytes 3 0 ∷ get_or bytes 4 0 ∷ get_or bytes 5 0 ∷ get_or bytes 6 0 ∷ get_or bytes 7 0 ∷ get_or bytes 8 0 ∷ get_or bytes 9 0 ∷ [] =
    fill_by_all (λ k. get_or bytes k 0) bytes 10 0 ten (λ k h. refl) in
    cc e.flags

-- bytes of fields have ends that can be read
pub ends_read : (bytes : List ℕ) (f : Fields) → bytes ≡ bytes_of f →
    ends_from (get_or bytes 1 0) (get_or bytes 6 0 * 256 + get_or bytes 7 0) (get_or bytes 8 0 * 256 + get_or bytes 9 0) ≡ Some f.ends
ends_read bytes f e =
    rw (e, word (held f.ends.lower), word (held f.ends.upper)) (ends_back f.ends.lower f.ends.upper)

pub same_fields : (f : Fields) {k a b : ℕ} {e : Ends} → f.operator ≡ k → f.first ≡ a → f.second ≡ b → f.ends ≡ e → f ≡ fields k a b e
same_fields f p q r s = rw (← p, ← q, ← r, ← s) refl

-- bytes hold one set of fields only
pub same_bytes : (f g : Fields) → bytes_of f ≡ bytes_of g → f ≡ g
same_bytes f g e =
    let at : (i : ℕ) → get_or (bytes_of f) i 0 ≡ get_or (bytes_of g) i 0 = λ i. ap (λ bs. get_or bs i 0) e in
    let op : f.operator ≡ g.operator = at 0 in
    let first : f.first ≡ g.first = omega (arith, at 2, at 3) in
    let second : f.second ≡ g.second = omega (arith, at 4, at 5) in
    let some : Some f.ends ≡ Some g.ends = sym (ends_read (bytes_of f) f refl) ∙ ends_read (bytes_of f) g e in
    same_fields f op first second (cc)
