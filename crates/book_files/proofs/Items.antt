-- What the field of a number, a row or a definition that is read says.
use Rattle.std.proofs.Common.{◌≡◌, ℕ, ◌+◌, ◌/◌, ◌%◌, ◌<◌, ◌≤◌, Bool, true, false, cond, eqb, ltb, List, [], ◌∷◌, length, get_or, take, drop, Some, None, Ok, Err, Option, Result, sym, refl, ap, ◌∙◌, subst, ⊎_elim, arith}
use Rattle.std.proofs.lemmas.List.{get_or-take, get_or-drop, get_or_past, length-take}
use Rattle.std.proofs.lemmas.Bool.{eqb-true, ltb-true, cases_lt}
use Rattle.std.specs.Result.{result_and}
use Rattle.numbers.specs.Kinds.{Kind}
use Rattle.kinds.specs.Causes.{outcome}
use Rattle.kinds.specs.declared.number.Cause.{Cause}
use Rattle.rules.specs.Book.{Limits}
use Rattle.rules.specs.declared.row.Row.{Row}
use Rattle.rows.specs.Rows.{row_of}
use Rattle.books.specs.Tests.{Tested, passes, row_test}
use Rattle.books.specs.declared.fault.BookFault.{BookFault}
use Rattle.books.specs.declared.fault.BookFault.TheVariants.{TooMany}
use Rattle.book_fields.specs.Items.{if_room, with_cause, number_from, tested, row_from, named, definition_from}
use Rattle.book_files.specs.Drafts.{body_bytes}

refused : {A X : Type 0} (e : BookFault) (x : A) → ◌≡◌ {A = Result A BookFault} (Err e) (Ok x) → X
refused e x h = let z : ◌≡◌ {A = ℕ} 0 1 = cc in absurd (omega arith)

roomy : {A : Type 0} (full : Bool) (place : ℕ) (r : Result A BookFault) (x : A) → if_room full place r ≡ Ok x → (full ≡ false) × (r ≡ Ok x)
roomy true place r x h = refused (TooMany place) x h
roomy false place r x h = (refl, h)

-- to be told twice that there is no room is to be told it once
pub told_once : {A : Type 0} (full : Bool) (place : ℕ) (r : Result A BookFault) → if_room full place (if_room full place r) ≡ if_room full place r
told_once true place r = refl
told_once false place r = refl

caused : {K : Type 0} (place : ℕ) (r : Result K Cause) (x : K) → with_cause place r ≡ Ok x → r ≡ Ok x
caused place (Ok y) x h = let same : y ≡ x = cc in ap Ok same
caused place (Err cause) x h = let z : ◌≡◌ {A = ℕ} 0 1 = cc in absurd (omega arith)

-- what a number's field that is read says
pub number_read : {K : Type 0} (kind : Kind K) (full : Bool) (place : ℕ) (token : List ℕ) (x : K) → number_from kind full place token ≡ Ok x →
    (full ≡ false) × (outcome kind token ≡ Ok x)
number_read kind full place token x h = let r = roomy full place _ x h in (r.0, caused place (outcome kind token) x r.1)

then_ok : (t : Tested) (row x : Row) → result_and t (Ok row) ≡ Ok x → (t ≡ passes) × (row ≡ x)
then_ok (Ok u) row x h = (refl, cc)
then_ok (Err e) row x h = refused e x h

row_tested : (within : Limits) (at place : ℕ) (o : Option Row) (x : Row) → tested within at place o ≡ Ok x → (o ≡ Some x) × (row_test within at place x ≡ passes)
row_tested within at place None x h = refused _ x h
row_tested within at place (Some row) x h =
    let t = then_ok (row_test within at place row) row x h in
    (ap Some t.1, subst (λ r. row_test within at place r ≡ passes) t.1 t.0)

-- and what a row's
pub row_read : (within : Limits) (full : Bool) (at place : ℕ) (body : List ℕ) (x : Row) → row_from within full at place body ≡ Ok x →
    (full ≡ false) × (row_of body ≡ Some x) × (row_test within at place x ≡ passes)
row_read within full at place body x h =
    let r = roomy full place _ x h in
    let t = row_tested within at place (row_of body) x r.1 in
    (r.0, t.0, t.1)

two_cond : (a b : Bool) (n x : ℕ) (e f : BookFault) → cond a (cond b (Ok n) (Err e)) (Err f) ≡ Ok x → (a ≡ true) × (b ≡ true) × (n ≡ x)
two_cond true true n x e f h = (refl, refl, cc)
two_cond true false n x e f h = refused e x h
two_cond false b n x e f h = refused f x h

-- and what a definition's
pub definition_read : (full : Bool) (place rows : ℕ) (body : List ℕ) (x : ℕ) → definition_from full place rows body ≡ Ok x →
    (full ≡ false) × (length body ≡ 2) × (x < rows) × (named body ≡ x)
definition_read full place rows body x h =
    let r = roomy full place _ x h in
    let t = two_cond (eqb (length body) 2) (ltb (named body) rows) (named body) x _ _ r.1 in
    let lt = ltb-true (named body) rows t.1 in
    (r.0, eqb-true (length body) 2 t.0, subst (λ n. n < rows) t.2 lt, t.2)

pub named_bytes : (body : List ℕ) (x : ℕ) → length body ≡ 2 → ((i : ℕ) → get_or body i 0 < 256) → named body ≡ x → body ≡ body_bytes x
named_bytes [] x two small is = absurd (omega arith)
named_bytes (h ∷ []) x two small is = absurd (omega arith)
named_bytes (h ∷ l ∷ []) x two small is =
    let low = small 1 in
    let high : x / 256 ≡ h = omega arith in
    let rest : x % 256 ≡ l = omega arith in
    rw (high, rest) refl
named_bytes (h ∷ l ∷ m ∷ more) x two small is = absurd (omega arith)

length_take_most : (n : ℕ) (xs : List ℕ) (i : ℕ) → n ≤ i → length (take n xs) ≤ i
length_take_most n xs i past = omega (arith, length-take n xs)

-- bytes of bytes are bytes
pub part_small : (bytes : List ℕ) (n k : ℕ) → ((i : ℕ) → get_or bytes i 0 < 256) → (i : ℕ) → get_or (take n (drop k bytes)) i 0 < 256
part_small bytes n k small i =
    ⊎_elim
    (λ (in_part : i < n). subst (λ x. x < 256) (sym (get_or-take n (drop k bytes) i 0 in_part ∙ get_or-drop k bytes i 0)) (small (k + i)))
    (λ (past : n ≤ i). subst (λ x. x < 256) (sym (get_or_past (take n (drop k bytes)) i 0 (length_take_most n (drop k bytes) i past))) (omega arith))
    (cases_lt i n)
