-- Whole numbers are read as the grammar says, and keep the laws of a kind.
use Rattle.std.proofs.Common.{◌≡◌, ℕ, ◌^◌, ◌<◌, ◌≤◌, ◌&&◌, eqb, leb, List, [], ◌∷◌, ◌++◌, length, ℤ, pos, nat_abs, Some, None, decimal, Option, sym, refl, ap, ◌∙◌, subst, inl, inr, ⊎_elim, arith, length-append}
use Rattle.std.proofs.lemmas.Fmt.{length-decimal-le, digits_value-decimal}
use Rattle.std.proofs.lemmas.List.{append-nil, nil_from_length}
use Rattle.std.proofs.lemmas.Bool.{and_parts, and_from, and_left, and_right, cases_lt, cond-true, cond-false, eqb-true, ne_eqb, lt-leb, eq-eqb, leb-true, le-leb}
use Rattle.std.specs.Fmt.{signed_decimal}
use Rattle.std.specs.Ordering.{int_cmp}
use Rattle.std.proofs.lemmas.Cmp.{int_cmp_total}
use Rattle.numbers.specs.Grammar.{Int}
use Rattle.numbers.specs.Kinds.{WritesBack, Kept}
use Rattle.numbers.specs.Values.{number, places, signed_by, MeansWhole}
use Rattle.numbers.specs.Reading.{Plain, taken_apart, pointed, signed_if, minus_of, whole_of, whole}
use Rattle.numbers.specs.Laws.{Lawful, Keeps, WholeReads}
use Rattle.numbers.proofs.Digits.{numerals}
use Rattle.numbers.proofs.Numerals.{signed_some, signed_cond, nat_abs_signed, minus_written, signed_is, int_decimal, int_again, sign_kept}
use Rattle.numbers.proofs.Tokens.{some_if, parts_of, parts_found, found_parts}

-- what a token that is read as z was taken apart into
record From (o : Option Plain) (z : ℤ) : Type 0 where
  plain : Plain
  taken : o ≡ Some plain
  no_places : plain.places ≡ []
  small : number plain.int ≤ 10 ^ 15
  value : z ≡ signed_if plain.minus (number plain.int)

from : (o : Option Plain) (z : ℤ) → whole_of o ≡ Some z → From o z
from None z h = cc
from (Some p) z h =
    let s = some_if (eqb (length p.places) 0 && leb (number p.int) (10 ^ 15)) _ z h in
    let t = and_parts (eqb (length p.places) 0) _ s.0 in
    record { plain = p; taken = refl; no_places = nil_from_length p.places (eqb-true _ _ t.0); small = leb-true _ _ t.1; value = sym s.1 }

means : (bs : List ℕ) (z : ℤ) → From (taken_apart bs) z → MeansWhole bs z
means bs z f = record {
  parts = parts_of f.plain;
  token = found_parts bs f.plain f.taken;
  no_frac = ap pointed f.no_places;
  no_exp = refl;
  small = f.small;
  value = f.value ∙ sym (signed_cond f.plain.minus (number f.plain.int));
}

reads : (bs : List ℕ) (z : ℤ) → MeansWhole bs z → whole.read bs ≡ Some z
reads bs z m =
    ap whole_of (parts_found bs m.parts m.token m.no_exp)
    ∙ cond-true _ _ _ (and_from (eqb (length (places m.parts.frac)) 0) _ (eq-eqb _ _ (ap (λ x. length (places x)) m.no_frac)) (le-leb _ _ m.small))
    ∙ ap Some (sym (m.value ∙ signed_some m.parts.minus (number m.parts.int)))

pub whole_reads : WholeReads
whole_reads bs z = (λ h. means bs z (from (taken_apart bs) z h), reads bs z)

-- every number of at most 10^15, written, means itself
written_means : (z : ℤ) → nat_abs z ≤ 10 ^ 15 → MeansWhole (signed_decimal z) z
written_means z h = record {
  parts = record { minus = minus_of z; int = decimal (nat_abs z); frac = []; exp = [] };
  token = record {
    joined = signed_is z ∙ ap (λ x. minus_of z ++ x) (sym (append-nil (decimal (nat_abs z))));
    minus = (minus_written z).0;
    int = int_decimal (nat_abs z) (omega arith);
    frac = inl refl;
    exp = inl refl;
  };
  no_frac = refl;
  no_exp = refl;
  small = subst (λ n. n ≤ 10 ^ 15) (sym (digits_value-decimal numerals (nat_abs z) (omega arith))) h;
  value = (minus_written z).1 ∙ ap (signed_by (minus_of z)) (sym (digits_value-decimal numerals (nat_abs z) (omega arith)));
}

written_short : (z : ℤ) → nat_abs z ≤ 10 ^ 15 → length (signed_decimal z) ≤ 17
written_short z h =
    omega (arith, ap length (signed_is z), length-append (minus_of z) (decimal (nat_abs z)), (minus_written z).2, length-decimal-le 16 (nat_abs z) (omega arith) (omega arith) (omega arith))

bounded : (bs : List ℕ) (z : ℤ) → MeansWhole bs z → nat_abs z ≤ 10 ^ 15
bounded bs z m = subst (λ n. n ≤ 10 ^ 15) (sym (ap nat_abs m.value ∙ nat_abs_signed m.parts.minus (number m.parts.int))) m.small

writes_back : WritesBack whole
writes_back bs z h =
    let small = bounded bs z ((whole_reads bs z).0 h) in
    let m = written_means z small in
    ((m.parts, m.token), written_short z small, (whole_reads (signed_decimal z) z).1 m)

-- a token that is read is kept
kept : (bs : List ℕ) (o : Option ℤ) → whole.read bs ≡ o → Kept whole bs o
kept bs None e = tt
kept bs (Some z) e =
    let m = (whole_reads bs z).0 e in
    let n = number m.parts.int in
    let joined : bs ≡ m.parts.minus ++ m.parts.int =
    m.token.joined ∙ ap (λ x. m.parts.minus ++ (m.parts.int ++ (x ++ m.parts.exp))) m.no_frac
    ∙ ap (λ x. m.parts.minus ++ (m.parts.int ++ x)) m.no_exp ∙ ap (λ x. m.parts.minus ++ x) (append-nil m.parts.int) in
    let size : nat_abs z ≡ n = ap nat_abs m.value ∙ nat_abs_signed m.parts.minus n in
    let int_is : decimal (nat_abs z) ≡ m.parts.int = ap decimal size ∙ int_again m.parts.int m.token.int (omega (arith, m.small)) in
    let written : signed_decimal z ≡ minus_of (signed_by m.parts.minus n) ++ m.parts.int =
    signed_is z ∙ ap (λ x. minus_of z ++ x) int_is ∙ ap (λ v. minus_of v ++ m.parts.int) m.value in
    ⊎_elim (λ (same : bs ≡ minus_of (signed_by m.parts.minus n) ++ m.parts.int). inl (same ∙ sym written))
    (λ (zero : (bs ≡ 0x2D ∷ (minus_of (signed_by m.parts.minus n) ++ m.parts.int)) × (signed_by m.parts.minus n ≡ pos 0)).
    inr (zero.0 ∙ ap (λ x. 0x2D ∷ x) (sym written), ap (λ v. int_cmp v (pos 0)) (m.value ∙ zero.1)))
    (sign_kept m.parts.minus n m.parts.int bs m.token.minus joined)

pub whole_keeps : Keeps whole
whole_keeps bs = kept bs (whole.read bs) refl

pub whole_lawful : Lawful whole
whole_lawful = record {
  turns = λ x y. int_cmp_total.antisymm y x;
  levels = int_cmp_total.congr;
  reads_tokens = λ bs z h. let m = (whole_reads bs z).0 h in (m.parts, m.token);
  reads_zero = refl;
  writes_back = writes_back;
}

-- what a reader finds step by step
module _ (p : Plain) where
  pub unsuited_places : 0 < length p.places → whole_of (Some p) ≡ None
  unsuited_places h = cond-false _ _ _ (and_left (eqb (length p.places) 0) _ (ne_eqb _ _ (λ e. omega arith)))

  pub unsuited_great : 10 ^ 15 < number p.int → whole_of (Some p) ≡ None
  unsuited_great h = cond-false _ _ _ (and_right (eqb (length p.places) 0) _ (lt-leb _ _ h))

  pub unsuited_long : Int p.int → 16 < length p.int → whole_of (Some p) ≡ None
  unsuited_long i h =
      ⊎_elim (λ (great : 10 ^ 15 < number p.int). unsuited_great great)
      (λ (small : number p.int ≤ 10 ^ 15).
      absurd (omega (arith, ap length (int_again p.int i (omega arith)), length-decimal-le 16 (number p.int) (omega arith) (omega arith) (omega arith))))
      (cases_lt (10 ^ 15) (number p.int))
