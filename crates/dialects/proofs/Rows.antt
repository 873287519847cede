-- Files of patterns: what a field's bytes say, and that a file can be taken apart in one way only.
use Rattle.std.proofs.Common.{◌≡◌, ℕ, suc, ◌+◌, ◌<◌, ◌≤◌, Bool, true, false, cond, not, ◌||◌, eqb, ltb, leb, List, [], ◌∷◌, ◌++◌, map, length, take, drop, Some, None, Ok, Err, Option, Result, sym, refl, ap, ◌∙◌, subst, ⊎_elim, append_assoc, add-zero, arith, length-append}
use native.Mathlib.Nat.{div-add-mod}
use Rattle.fields.proofs.Rows.{field_cut, same_field}
use Rattle.fields.specs.Fields.{field_bytes, tag_of, stated_length}
use Rattle.fields.specs.Parts.{part, part_bytes}
use Rattle.std.proofs.lemmas.List.{append-nil, take_at, drop_at, drop-drop}
use Rattle.std.proofs.lemmas.Bool.{cases_lt, ltb-false, eqb-true, not-false, or_parts, le-ltb, eq-eqb, lt-leb}
use Rattle.dialects.specs.declared.fault.PatternFault.{PatternFault}
use Rattle.dialects.specs.declared.fault.PatternFault.TheVariants.{TooMany}
use Rattle.dialects.specs.Files.{file, Short, places, refuses, Stops, Outcome}

-- a test that refuses nothing came out false
cond_none : {A : Type 0} (b : Bool) (e : A) (rest : Option A) → cond b (Some e) rest ≡ None → (b ≡ false) × (rest ≡ None)
cond_none true e rest h = let z : ◌≡◌ {A = ℕ} 0 1 = cc in absurd (omega arith)
cond_none false e rest h = (refl, h)

-- what stands in a field that nothing refuses
pub record Good (tag : ℕ) (bytes : List ℕ) : Type 0 where
  pub tagged : tag_of bytes ≡ tag
  pub within : 3 + stated_length bytes ≤ length bytes
  pub short : stated_length bytes ≤ 255

pub good_from : (tag place : ℕ) (bytes : List ℕ) → refuses tag false place bytes ≡ None → Good tag bytes
good_from tag place bytes h =
    let a = cond_none (ltb (length bytes) 3) _ _ h in
    let b = cond_none (not (eqb (tag_of bytes) tag)) _ _ a.1 in
    let c = cond_none (ltb (length bytes) (3 + stated_length bytes) || ltb 255 (stated_length bytes)) _ _ b.1 in
    let lengths = or_parts (ltb (length bytes) (3 + stated_length bytes)) (ltb 255 (stated_length bytes)) c.0 in
    record {
      tagged = eqb-true (tag_of bytes) tag (not-false (eqb (tag_of bytes) tag) b.0);
      within = ltb-false (length bytes) (3 + stated_length bytes) lengths.0;
      short = ltb-false 255 (stated_length bytes) lengths.1;
    }

-- such a field may still be one too many
pub full_refused : (tag place : ℕ) (bytes : List ℕ) → refuses tag false place bytes ≡ None → refuses tag true place bytes ≡ Some (TooMany place)
full_refused tag place bytes h =
    let a = cond_none (ltb (length bytes) 3) _ _ h in
    let b = cond_none (not (eqb (tag_of bytes) tag)) _ _ a.1 in
    let c = cond_none (ltb (length bytes) (3 + stated_length bytes) || ltb 255 (stated_length bytes)) _ _ b.1 in
    rw (a.0, b.0, c.0) refl

-- a good field's pattern, and what follows it
pub good_cut : (tag : ℕ) (bytes : List ℕ) → Good tag bytes →
    bytes ≡ field_bytes tag (take (stated_length bytes) (drop 3 bytes)) ++ drop (3 + stated_length bytes) bytes
good_cut tag bytes good =
    let body = take (stated_length bytes) (drop 3 bytes) in
    field_cut bytes good.within (omega (arith, good.short))
    ∙ ap (λ t. field_bytes t body ++ drop (3 + stated_length bytes) bytes) good.tagged

-- the field of a short pattern is refused only for want of room
pub not_refused : (tag place : ℕ) (p xs : List ℕ) → length p ≤ 255 → refuses tag false place (field_bytes tag p ++ xs) ≡ None
not_refused tag place p xs short =
    let long : length (field_bytes tag p ++ xs) ≡ 3 + length p + length xs = simp length-append (omega arith) in
    let stated : stated_length (field_bytes tag p ++ xs) ≡ length p = omega (arith, div-add-mod (length p) 256) in
    rw (
      le-ltb (length (field_bytes tag p ++ xs)) 3 (omega arith),
      eq-eqb tag tag refl,
      le-ltb (length (field_bytes tag p ++ xs)) (3 + stated_length (field_bytes tag p ++ xs)) (omega arith),
      le-ltb 255 (stated_length (field_bytes tag p ++ xs)) (omega arith),
    )

-- one place has one outcome
same_stop : (tag most count place : ℕ) (rest : List ℕ) (o other : Result ℕ PatternFault) →
    Stops tag most count place rest o → Stops tag most count place rest other → other ≡ o
same_stop tag most count place rest (Ok n) (Ok m) a b = ap Ok (b.1 ∙ sym a.1)
same_stop tag most count place rest (Ok n) (Err e) a b = absurd (omega (arith, ap length a.0, b.0))
same_stop tag most count place rest (Err e) (Ok m) a b = absurd (omega (arith, ap length b.0, a.0))
same_stop tag most count place rest (Err e) (Err f) a b = let same : Some f ≡ Some e = sym b.1 ∙ a.1 in cc

-- no outcome stands where one more pattern can be taken
never_stops : (tag most count place : ℕ) (p xs : List ℕ) (o : Result ℕ PatternFault) → length p ≤ 255 → count < most →
    Stops tag most count place (field_bytes tag p ++ xs) o → ⊥
never_stops tag most count place p xs (Ok n) short space stop = omega (arith, ap length stop.0)
never_stops tag most count place p xs (Err e) short space stop =
    let none : refuses tag (leb most count) place (field_bytes tag p ++ xs) ≡ None = rw (lt-leb most count space) (not_refused tag place p xs short) in
    let z : ◌≡◌ {A = ℕ} 0 1 = cc (stop.1, none) in omega arith

moved : (tag most : ℕ) (rest : List ℕ) (o : Result ℕ PatternFault) {count place count' place' : ℕ} → count ≡ count' → place ≡ place' →
    Stops tag most count place rest o → Stops tag most count' place' rest o
moved tag most rest o {count} {place} {count'} {place'} e f h = subst (λ k. Stops tag most k place' rest o) e (subst (λ k. Stops tag most count k rest o) f h)

-- A file is taken apart in one way only, so it has one outcome. `count` patterns stand before it, up to `place`.
same_outcome : (tag most count place : ℕ) (ps qs : List (List ℕ)) (xs ys : List ℕ) (o other : Result ℕ PatternFault) →
    file tag ps ++ xs ≡ file tag qs ++ ys → Short ps → Short qs → count + length ps ≤ most → count + length qs ≤ most →
    Stops tag most (count + length ps) (place + length (file tag ps)) xs o →
    Stops tag most (count + length qs) (place + length (file tag qs)) ys other → other ≡ o
same_outcome tag most count place [] [] xs ys o other e sp sq fp fq a b =
    same_stop tag most (count + 0) (place + 0) xs o other a (subst (λ zs. Stops tag most (count + 0) (place + 0) zs other) (sym e) b)
same_outcome tag most count place [] (q ∷ qs) xs ys o other e sp sq fp fq a b =
    absurd (never_stops tag most (count + 0) (place + 0) q (file tag qs ++ ys) o sq.0 (omega arith)
    (subst (λ zs. Stops tag most (count + 0) (place + 0) zs o) (e ∙ append_assoc (field_bytes tag q) (file tag qs) ys) a))
same_outcome tag most count place (p ∷ ps) [] xs ys o other e sp sq fp fq a b =
    absurd (never_stops tag most (count + 0) (place + 0) p (file tag ps ++ xs) other sp.0 (omega arith)
    (subst (λ zs. Stops tag most (count + 0) (place + 0) zs other) (sym e ∙ append_assoc (field_bytes tag p) (file tag ps) xs) b))
same_outcome tag most count place (p ∷ ps) (q ∷ qs) xs ys o other e sp sq fp fq a b =
    let same = same_field tag p q (file tag ps ++ xs) (file tag qs ++ ys) (sym (append_assoc (field_bytes tag p) (file tag ps) xs) ∙ e ∙ append_assoc (field_bytes tag q) (file tag qs) ys) in
    let long : length p ≡ length q = ap length same.0 in
    same_outcome tag most (count + 1) (place + (3 + length p)) ps qs xs ys o other same.1 sp.1 sq.1 (omega arith) (omega arith)
    (moved tag most xs o (omega arith) (simp length-append (omega arith)) a)
    (moved tag most ys other (omega arith) (simp length-append (omega arith)) b)

pub only_outcome : (tag most : ℕ) (bytes : List ℕ) (o other : Result ℕ PatternFault) → Outcome tag most bytes o → Outcome tag most bytes other → other ≡ o
only_outcome tag most bytes o other a b =
    ⊎_elim
    (λ (long : 65535 < length bytes). b.0 long ∙ sym (a.0 long))
    (λ (short : length bytes ≤ 65535).
    let x = a.1 short in
    let y = b.1 short in
    same_outcome tag most 0 0 x.patterns y.patterns x.rest y.rest o other (sym x.cut ∙ y.cut) x.short y.short
    (omega (arith, x.fit)) (omega (arith, y.fit))
    (moved tag most x.rest o (omega arith) (omega arith) x.stop) (moved tag most y.rest other (omega arith) (omega arith) y.stop))
    (cases_lt 65535 (length bytes))

-- a file has one list of patterns
pub same_patterns : (tag : ℕ) (ps qs : List (List ℕ)) → file tag ps ≡ file tag qs → ps ≡ qs
same_patterns tag [] [] e = refl
same_patterns tag [] (q ∷ qs) e = absurd (omega (arith, ap length e))
same_patterns tag (p ∷ ps) [] e = absurd (omega (arith, ap length e))
same_patterns tag (p ∷ ps) (q ∷ qs) e =
    let same = same_field tag p q (file tag ps) (file tag qs) e in
    let rest = same_patterns tag ps qs same.1 in
    cc same.0

-- one more pattern at the end
pub file_push : (tag : ℕ) (ps : List (List ℕ)) (p : List ℕ) → file tag (ps ++ p ∷ []) ≡ file tag ps ++ field_bytes tag p
file_push tag [] p = append-nil (field_bytes tag p)
file_push tag (q ∷ ps) p = ap (λ xs. field_bytes tag q ++ xs) (file_push tag ps p) ∙ sym (append_assoc (field_bytes tag q) (file tag ps) (field_bytes tag p))

pub short_push : (ps : List (List ℕ)) (p : List ℕ) → Short ps → length p ≤ 255 → Short (ps ++ p ∷ [])
short_push [] p sp s = (s, tt)
short_push (q ∷ ps) p sp s = (sp.0, short_push ps p sp.1 s)

pub places_push : (tag at : ℕ) (ps : List (List ℕ)) (p : List ℕ) → places at (ps ++ p ∷ []) ≡ places at ps ++ part (at + length (file tag ps) + 3) (length p) ∷ []
places_push tag at [] p = rw add-zero
places_push tag at (q ∷ ps) p =
    let e : at + 3 + length q + length (file tag ps) ≡ at + length (file tag (q ∷ ps)) = simp length-append (omega arith) in
    ap (λ xs. part (at + 3) (length q) ∷ xs) (places_push tag (at + 3 + length q) ps p ∙ rw e)

pub length_places : (at : ℕ) (ps : List (List ℕ)) → length (places at ps) ≡ length ps
length_places at [] = refl
length_places at (p ∷ ps) = ap (λ n. suc n) (length_places (at + 3 + length p) ps)

-- the parts of a file are its patterns
pub places_read : (tag at : ℕ) (ps : List (List ℕ)) (bytes : List ℕ) → drop at bytes ≡ file tag ps → map (part_bytes bytes) (places at ps) ≡ ps
places_read tag at [] bytes e = refl
places_read tag at (p ∷ ps) bytes e =
    let body : drop (at + 3) bytes ≡ p ++ file tag ps = sym (drop-drop 3 at bytes) ∙ ap (drop 3) e in
    let here : part_bytes bytes (part (at + 3) (length p)) ≡ p = ap (take (length p)) body ∙ take_at p (file tag ps) (length p) refl in
    let after : drop (at + 3 + length p) bytes ≡ file tag ps = sym (drop-drop (length p) (at + 3) bytes) ∙ ap (drop (length p)) body ∙ drop_at p (file tag ps) (length p) refl in
    let more = places_read tag (at + 3 + length p) ps bytes after in
    cc here
