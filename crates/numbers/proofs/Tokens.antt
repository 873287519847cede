-- Taking a token apart finds the parts that the grammar names, and only those.
use Rattle.std.proofs.Common.{◌≡◌, ℕ, ◌<◌, ◌≤◌, Bool, true, false, cond, ◌&&◌, eqb, ltb, List, [], ◌∷◌, ◌++◌, length, take, drop, Some, None, sym, refl, ap, ◌∙◌, subst, inl, inr, ⊎_elim, arith}
use Rattle.std.proofs.lemmas.List.{append-nil, take_at, drop_at, take-append-drop, nil_from_length}
use Rattle.std.proofs.lemmas.Bool.{cases_lt, cases_Bool, and_parts, and_from, cond-true, cond-false, eqb-true, eq-eqb, ne_eqb, lt-ltb, ltb-true, or_left, or_right, or_cases}
use Rattle.numbers.specs.Grammar.{Digit, DigitOneToNine, Digits, SomeDigits, Optional, Minus, Int, Frac, Parts, Number}
use Rattle.numbers.specs.Values.{places}
use Rattle.numbers.specs.Reading.{Plain, plain, is_digit, digit_count, well_begun, only_digits, with_rest, after_minus, taken_apart, pointed}
use Rattle.numbers.proofs.Digits.{Stops, count_digits, front_digits, all_digits, digits_all}

pub some_if : {X : Type 0} (b : Bool) (x y : X) → cond b (Some x) None ≡ Some y → (b ≡ true) × (x ≡ y)
some_if true x y h = (refl, cc)
some_if false x y h = cc

-- whether there is a minus
abbrev pub is_some : List ℕ → Bool
is_some [] = false
is_some (b ∷ bs) = true

abbrev pub parts_of : Plain → Parts
parts_of p = record { minus = cond p.minus (0x2D ∷ []) []; int = p.int; frac = pointed p.places; exp = [] }

abbrev pub plain_of : Parts → Plain
plain_of p = plain (is_some p.minus) p.int (places p.frac)

pub int_digits : (bs : List ℕ) → Int bs → Digits bs
int_digits [] h = absurd h
int_digits (b ∷ bs) h =
    ⊎_elim
    (λ (z : (b ≡ 0x30) × (bs ≡ [])). ((omega arith, omega arith), subst Digits (sym z.1) tt))
    (λ (z : DigitOneToNine b × Digits bs). ((omega arith, omega arith), z.1))
    h

some_digits : (bs : List ℕ) → SomeDigits bs → Digits bs
some_digits [] h = absurd h
some_digits (b ∷ bs) h = h

int_begins : (bs : List ℕ) → Int bs → well_begun bs ≡ true
int_begins [] h = absurd h
int_begins (b ∷ bs) h =
    ⊎_elim
    (λ (z : (b ≡ 0x30) × (bs ≡ [])). or_right (ltb 0x30 b) _ (eq-eqb (length bs) 0 (ap length z.1)))
    (λ (z : DigitOneToNine b × Digits bs). or_left _ (eqb (length bs) 0) (lt-ltb 0x30 b (omega arith)))
    h

pub begun_int : (bs : List ℕ) → Digits bs → well_begun bs ≡ true → Int bs
begun_int [] h e = cc
begun_int (b ∷ bs) h e =
    ⊎_elim
    (λ (l : ltb 0x30 b ≡ true). inr ((omega (arith, ltb-true 0x30 b l), omega arith), h.1))
    (λ (l : eqb (length bs) 0 ≡ true). ⊎_elim (λ (z : 0x30 < b). inr ((omega arith, omega arith), h.1)) (λ (z : b ≤ 0x30). inl (omega arith, nil_from_length bs (eqb-true _ _ l))) (cases_lt 0x30 b))
    (or_cases _ _ e)

frac_stops : (frac : List ℕ) → Optional Frac frac → Stops frac
frac_stops [] h = tt
frac_stops (b ∷ bs) (inl e) = absurd (omega (arith, ap length e))
frac_stops (b ∷ bs) (inr h) = subst (λ x. is_digit x ≡ false) (sym h.0) refl

only_yes : (bs : List ℕ) → SomeDigits bs → only_digits bs ≡ true
only_yes [] h = absurd h
only_yes (b ∷ bs) h = and_from _ _ (lt-ltb 0 (length (b ∷ bs)) (omega arith)) (digits_all (b ∷ bs) h)

yes_only : (bs : List ℕ) → only_digits bs ≡ true → SomeDigits bs
yes_only [] h = cc
yes_only (b ∷ bs) h = all_digits (b ∷ bs) (and_parts (ltb 0 (length (b ∷ bs))) _ h).1

-- from the grammar to the parts that are found

with_rest_finds : (m : Bool) (int frac : List ℕ) → Int int → Optional Frac frac → with_rest m int frac ≡ Some (plain m int (places frac))
with_rest_finds m int [] i f = cond-true (well_begun int) _ _ (int_begins int i)
with_rest_finds m int (b ∷ bs) i (inl e) = absurd (omega (arith, ap length e))
with_rest_finds m int (b ∷ bs) i (inr f) =
    cond-true _ _ _ (and_from (well_begun int) _ (int_begins int i) (and_from (eqb b 0x2E) _ (eq-eqb b 0x2E f.0) (only_yes bs f.1)))

after_minus_finds : (m : Bool) (int frac : List ℕ) → Int int → Optional Frac frac → after_minus m (int ++ frac) ≡ Some (plain m int (places frac))
after_minus_finds m int frac i f =
    let n : digit_count (int ++ frac) ≡ length int = count_digits int frac (int_digits int i) (frac_stops frac f) in
    ap (λ k. with_rest m (take k (int ++ frac)) (drop k (int ++ frac))) n
    ∙ ap (λ t. with_rest m t (drop (length int) (int ++ frac))) (take_at int frac (length int) refl)
    ∙ ap (with_rest m int) (drop_at int frac (length int) refl) ∙ with_rest_finds m int frac i f

-- a byte that begins an int is no minus
no_minus : (int frac : List ℕ) → Int int → taken_apart (int ++ frac) ≡ after_minus false (int ++ frac)
no_minus [] frac i = absurd i
no_minus (b ∷ bs) frac i = let d : Digit b = (int_digits (b ∷ bs) i).0 in cond-false (eqb b 0x2D) _ _ (ne_eqb b 0x2D (λ e. omega arith))

sign_finds : (minus int frac : List ℕ) → Optional Minus minus → Int int → Optional Frac frac → taken_apart (minus ++ (int ++ frac)) ≡ Some (plain (is_some minus) int (places frac))
sign_finds [] int frac s i f = no_minus int frac i ∙ after_minus_finds false int frac i f
sign_finds (b ∷ bs) int frac (inl e) i f = absurd (omega (arith, ap length e))
sign_finds (b ∷ bs) int frac (inr e) i f =
    ap (λ s. taken_apart (s ++ (int ++ frac))) e ∙ after_minus_finds true int frac i f ∙ refl

pub parts_found : (bs : List ℕ) (p : Parts) → Number bs p → p.exp ≡ [] → taken_apart bs ≡ Some (plain_of p)
parts_found bs p t e =
    ap taken_apart (t.joined ∙ ap (λ x. p.minus ++ (p.int ++ (p.frac ++ x))) e ∙ ap (λ x. p.minus ++ (p.int ++ x)) (append-nil p.frac))
    ∙ sign_finds p.minus p.int p.frac t.minus t.int t.frac

-- from the parts that are found to the grammar

-- p is what these bytes consist of, after a minus or none
record Found (m : Bool) (bs : List ℕ) (p : Plain) : Type 0 where
  minus : p.minus ≡ m
  int : Int p.int
  frac : Optional Frac (pointed p.places)
  joined : bs ≡ p.int ++ pointed p.places

pointed_frac : (ds : List ℕ) → SomeDigits ds → Frac (pointed ds) × (0x2E ∷ ds ≡ pointed ds)
pointed_frac [] h = absurd h
pointed_frac (d ∷ ds) h = ((refl, h), refl)

rest_found : (m : Bool) (int rest : List ℕ) (p : Plain) → Digits int → with_rest m int rest ≡ Some p → Found m (int ++ rest) p
rest_found m int [] p ds e =
    let s = some_if (well_begun int) (plain m int []) p e in
    subst (Found m (int ++ [])) s.1 (record { minus = refl; int = begun_int int ds s.0; frac = inl refl; joined = refl })
rest_found m int (b ∷ bs) p ds e =
    let s = some_if (well_begun int && (eqb b 0x2E && only_digits bs)) (plain m int bs) p e in
    let w = and_parts (well_begun int) _ s.0 in
    let v = and_parts (eqb b 0x2E) _ w.1 in
    let f = pointed_frac bs (yes_only bs v.1) in
    subst (Found m (int ++ (b ∷ bs))) s.1
    (record { minus = refl; int = begun_int int ds w.0; frac = inr f.0; joined = ap (λ x. int ++ (x ∷ bs)) (eqb-true b 0x2E v.0) ∙ ap (λ x. int ++ x) f.1 })

after_found : (m : Bool) (bs : List ℕ) (p : Plain) → after_minus m bs ≡ Some p → Found m bs p
after_found m bs p e =
    subst (λ x. Found m x p) (take-append-drop (digit_count bs) bs) (rest_found m (take (digit_count bs) bs) (drop (digit_count bs) bs) p (front_digits bs) e)

is_number : (m : Bool) (bs : List ℕ) (p : Plain) → Found m bs p → Number (cond m (0x2D ∷ []) [] ++ bs) (parts_of p)
is_number m bs p f = record {
  joined =
      ap (λ x. cond m (0x2D ∷ []) [] ++ x) (f.joined ∙ ap (λ x. p.int ++ x) (sym (append-nil (pointed p.places))))
      ∙ ap (λ b. cond b (0x2D ∷ []) [] ++ (p.int ++ (pointed p.places ++ []))) (sym f.minus);
  minus = sign p.minus;
  int = f.int;
  frac = f.frac;
  exp = inl refl;
}
  where
    sign : (b : Bool) → Optional Minus (cond b (0x2D ∷ []) [])
    sign true = inr refl
    sign false = inl refl

pub found_parts : (bs : List ℕ) (p : Plain) → taken_apart bs ≡ Some p → Number bs (parts_of p)
found_parts [] p e = cc
found_parts (b ∷ bs) p e =
    ⊎_elim
    (λ (t : eqb b 0x2D ≡ true).
    subst (λ x. Number (x ∷ bs) (parts_of p)) (sym (eqb-true b 0x2D t))
    (is_number true bs p (after_found true bs p (sym (cond-true (eqb b 0x2D) _ _ t) ∙ e))))
    (λ (t : eqb b 0x2D ≡ false). is_number false (b ∷ bs) p (after_found false (b ∷ bs) p (sym (cond-false (eqb b 0x2D) _ _ t) ∙ e)))
    (cases_Bool (eqb b 0x2D))

-- what a token was taken apart into are digits
pub plain_int : (bs : List ℕ) (p : Plain) → taken_apart bs ≡ Some p → Int p.int
plain_int bs p e = (found_parts bs p e).int

pub plain_places : (bs : List ℕ) (p : Plain) → taken_apart bs ≡ Some p → Digits p.places
plain_places bs p e = all p.places (found_parts bs p e).frac
  where
    all : (ds : List ℕ) → Optional Frac (pointed ds) → Digits ds
    all [] f = tt
    all (d ∷ ds) (inl e) = absurd (omega (arith, ap length e))
    all (d ∷ ds) (inr f) = f.1
