-- Decimals are read as the grammar says, and keep the laws of a kind.
use Rattle.std.proofs.Common.{◌≡◌, ℕ, ◌+◌, ◌/◌, ◌%◌, ◌^◌, ◌<◌, ◌≤◌, cond, ◌&&◌, leb, List, [], ◌∷◌, ◌++◌, length, ℤ, pos, nat_abs, Some, None, decimal, Option, sym, refl, ap, ◌∙◌, subst, inl, inr, ⊎_elim, arith, length-append}
use Rattle.std.proofs.lemmas.List.{append-nil}
use Rattle.std.proofs.lemmas.Str.Parse.{digits_value_short}
use Rattle.std.proofs.lemmas.Bool.{and_parts, and_from, cond-true, leb-true, le-leb}
use Rattle.std.specs.Ordering.{int_cmp}
use Rattle.std.proofs.lemmas.Cmp.{int_cmp_total}
use Rattle.numbers.specs.Grammar.{Digits, SomeDigits, Frac, Optional}
use Rattle.numbers.specs.Kinds.{Kept}
use Rattle.numbers.specs.Values.{number, places, signed_by, in_millionths, Fixed, MeansDecimal}
use Rattle.numbers.specs.Reading.{Plain, taken_apart, pointed, signed_if, minus_of, decimal_of, fraction, fixed_written, fixed}
use Rattle.numbers.specs.Laws.{Lawful, Keeps, DecimalReads}
use Rattle.numbers.proofs.Digits.{numerals}
use Rattle.numbers.proofs.Numerals.{signed_some, signed_cond, nat_abs_signed, minus_written, int_again, sign_kept}
use Rattle.numbers.proofs.Places.{millionths_of, six}
use Rattle.numbers.proofs.Tokens.{some_if, parts_of, parts_found, found_parts, int_digits}

-- what a token that is read as x was taken apart into
record From (o : Option Plain) (x : Fixed) : Type 0 where
  plain : Plain
  taken : o ≡ Some plain
  few : length plain.int + length plain.places ≤ 12
  fine : length plain.places ≤ 6
  value : x.millionths ≡ signed_if plain.minus (in_millionths plain.int plain.places)
  count : x.places ≡ length plain.places

from : (o : Option Plain) (x : Fixed) → decimal_of o ≡ Some x → From o x
from None x h = cc
from (Some p) x h =
    let s = some_if (leb (length p.int + length p.places) 12 && leb (length p.places) 6) _ x h in
    let t = and_parts (leb (length p.int + length p.places) 12) _ s.0 in
    record {
      plain = p;
      taken = refl;
      few = leb-true _ _ t.0;
      fine = leb-true _ _ t.1;
      value = sym (ap (λ (y : Fixed). y.millionths) s.1);
      count = sym (ap (λ (y : Fixed). y.places) s.1);
    }

places_pointed : (ds : List ℕ) → places (pointed ds) ≡ ds
places_pointed [] = refl
places_pointed (d ∷ ds) = refl

pointed_places : (frac : List ℕ) → Optional Frac frac → pointed (places frac) ≡ frac
pointed_places [] f = refl
pointed_places (b ∷ bs) (inl e) = absurd (omega (arith, ap length e))
pointed_places (b ∷ bs) (inr f) = again bs f.1 ∙ ap (λ x. x ∷ bs) (sym f.0)
  where
    again : (bs : List ℕ) → SomeDigits bs → pointed bs ≡ 0x2E ∷ bs
    again [] h = absurd h
    again (b ∷ bs) h = refl

means : (bs : List ℕ) (x : Fixed) → From (taken_apart bs) x → MeansDecimal bs x
means bs x f =
    let same : f.plain.places ≡ places (pointed f.plain.places) = sym (places_pointed f.plain.places) in
    record {
      parts = parts_of f.plain;
      token = found_parts bs f.plain f.taken;
      no_exp = refl;
      few = subst (λ ds. length f.plain.int + length ds ≤ 12) same f.few;
      fine = subst (λ ds. length ds ≤ 6) same f.fine;
      value =
          f.value ∙ sym (signed_cond f.plain.minus (in_millionths f.plain.int f.plain.places))
          ∙ ap (λ ds. signed_by (cond f.plain.minus (0x2D ∷ []) []) (in_millionths f.plain.int ds)) same;
      count = f.count ∙ ap length same;
    }

reads : (bs : List ℕ) (x : Fixed) → MeansDecimal bs x → fixed.read bs ≡ Some x
reads bs x m =
    ap decimal_of (parts_found bs m.parts m.token m.no_exp)
    ∙ cond-true _ _ _ (and_from (leb (length m.parts.int + length (places m.parts.frac)) 12) _ (le-leb _ _ m.few) (le-leb _ _ m.fine))
    ∙ ap Some (same _ _ x (m.value ∙ signed_some m.parts.minus _) m.count)
  where
    same : (z : ℤ) (n : ℕ) (x : Fixed) → x.millionths ≡ z → x.places ≡ n → record { millionths = z; places = n } ≡ x
    same z n x p q = ap (λ v. record { millionths = v; places = n }) (sym p) ∙ ap (λ v. record { millionths = x.millionths; places = v }) (sym q)

pub decimal_reads : DecimalReads
decimal_reads bs x = (λ h. means bs x (from (taken_apart bs) x h), reads bs x)

places_digits : (frac : List ℕ) → Optional Frac frac → Digits (places frac)
places_digits [] f = tt
places_digits (b ∷ bs) (inl e) = absurd (omega (arith, ap length e))
places_digits (b ∷ bs) (inr f) = all bs f.1
  where
    all : (bs : List ℕ) → SomeDigits bs → Digits bs
    all [] h = absurd h
    all (b ∷ bs) h = h

fraction_again : (ds : List ℕ) → Digits ds → length ds ≤ 6 → fraction (length ds) (millionths_of ds) ≡ pointed ds
fraction_again ds h l = ap pointed (six ds h l).again

-- a value that a token stands for is written as that token, but for a minus before zero
written_is : (bs : List ℕ) (x : Fixed) (m : MeansDecimal bs x) → fixed_written x ≡ minus_of x.millionths ++ (m.parts.int ++ m.parts.frac)
written_is bs x m =
    let int = m.parts.int in
    let frac = m.parts.frac in
    let ds = places frac in
    let size : nat_abs x.millionths ≡ in_millionths int ds = ap nat_abs m.value ∙ nat_abs_signed m.parts.minus _ in
    let less : millionths_of ds < 10 ^ 6 = (six ds (places_digits frac m.token.frac) m.fine).less in
    let high : nat_abs x.millionths / 10 ^ 6 ≡ number int = omega arith in
    let low : nat_abs x.millionths % 10 ^ 6 ≡ millionths_of ds = omega arith in
    ap (λ v. minus_of x.millionths ++ (decimal v ++ fraction x.places (nat_abs x.millionths % 10 ^ 6))) high
    ∙ ap (λ v. minus_of x.millionths ++ (decimal (number int) ++ fraction x.places v)) low
    ∙ ap (λ v. minus_of x.millionths ++ (v ++ fraction x.places (millionths_of ds))) (int_again int m.token.int (omega (arith, digits_value_short numerals int 12 (int_digits int m.token.int) (omega (arith, m.few)))))
    ∙ ap (λ v. minus_of x.millionths ++ (int ++ fraction v (millionths_of ds))) m.count
    ∙ ap (λ v. minus_of x.millionths ++ (int ++ v)) (fraction_again ds (places_digits frac m.token.frac) m.fine ∙ pointed_places frac m.token.frac)

written_means : (bs : List ℕ) (x : Fixed) → MeansDecimal bs x → MeansDecimal (fixed_written x) x
written_means bs x m =
    let z = x.millionths in
    let size : nat_abs z ≡ in_millionths m.parts.int (places m.parts.frac) = ap nat_abs m.value ∙ nat_abs_signed m.parts.minus _ in
    record {
      parts = record { minus = minus_of z; int = m.parts.int; frac = m.parts.frac; exp = [] };
      token = record {
        joined = written_is bs x m ∙ ap (λ v. minus_of z ++ (m.parts.int ++ v)) (sym (append-nil m.parts.frac));
        minus = (minus_written z).0;
        int = m.token.int;
        frac = m.token.frac;
        exp = inl refl;
      };
      no_exp = refl;
      few = m.few;
      fine = m.fine;
      value = (minus_written z).1 ∙ ap (signed_by (minus_of z)) size;
      count = m.count;
    }

length_places : (frac : List ℕ) → length frac ≤ length (places frac) + 1
length_places [] = omega arith
length_places (b ∷ bs) = omega arith

written_short : (bs : List ℕ) (x : Fixed) → MeansDecimal bs x → length (fixed_written x) ≤ 14
written_short bs x m =
    omega (
      arith,
      ap length (written_is bs x m),
      length-append (minus_of x.millionths) (m.parts.int ++ m.parts.frac),
      length-append m.parts.int m.parts.frac,
      (minus_written x.millionths).2,
      length_places m.parts.frac,
      m.few,
    )

-- a token that is read is kept
kept : (bs : List ℕ) (o : Option Fixed) → fixed.read bs ≡ o → Kept fixed bs o
kept bs None e = tt
kept bs (Some x) e =
    let m = (decimal_reads bs x).0 e in
    let n = in_millionths m.parts.int (places m.parts.frac) in
    let rest = m.parts.int ++ m.parts.frac in
    let joined : bs ≡ m.parts.minus ++ rest =
    m.token.joined ∙ ap (λ v. m.parts.minus ++ (m.parts.int ++ (m.parts.frac ++ v))) m.no_exp
    ∙ ap (λ v. m.parts.minus ++ (m.parts.int ++ v)) (append-nil m.parts.frac) in
    let written : fixed_written x ≡ minus_of (signed_by m.parts.minus n) ++ rest = written_is bs x m ∙ ap (λ v. minus_of v ++ rest) m.value in
    ⊎_elim (λ (same : bs ≡ minus_of (signed_by m.parts.minus n) ++ rest). inl (same ∙ sym written))
    (λ (zero : (bs ≡ 0x2D ∷ (minus_of (signed_by m.parts.minus n) ++ rest)) × (signed_by m.parts.minus n ≡ pos 0)).
    inr (zero.0 ∙ ap (λ v. 0x2D ∷ v) (sym written), ap (λ v. int_cmp v (pos 0)) (m.value ∙ zero.1)))
    (sign_kept m.parts.minus n rest bs m.token.minus joined)

pub decimal_keeps : Keeps fixed
decimal_keeps bs = kept bs (fixed.read bs) refl

pub decimal_lawful : Lawful fixed
decimal_lawful = record {
  turns = λ x y. int_cmp_total.antisymm y.millionths x.millionths;
  levels = λ x y z. int_cmp_total.congr x.millionths y.millionths z.millionths;
  reads_tokens = λ bs x h. let m = (decimal_reads bs x).0 h in (m.parts, m.token);
  reads_zero = refl;
  writes_back = λ bs x h.
      let m = (decimal_reads bs x).0 h in
      let w = written_means bs x m in
      ((w.parts, w.token), written_short bs x m, (decimal_reads (fixed_written x) x).1 w);
}
