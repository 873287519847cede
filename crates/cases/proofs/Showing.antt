-- Bytes shown as a word, and read back.
use Rattle.std.proofs.Common.{◌≡◌, ℕ, zero, suc, ◌+◌, ◌/◌, ◌%◌, ◌<◌, ◌≤◌, true, false, eqb, List, [], ◌∷◌, ◌++◌, length, get_or, drop, Some, sym, refl, ap, ◌∙◌, inl, inr, arith}
use Rattle.std.proofs.Math.Utf8.{encode}
use Rattle.std.proofs.lemmas.List.{append_assoc, append-nil, drop_more, drop_all}
use Rattle.std.proofs.lemmas.Bool.{cases_lt, le-leb, lt-leb, lt-ltb, le-ltb, ne_eqb, both_ways}
use Rattle.cases.specs.Bytes.{longest, byte_of, hex_digit, pairs, limited, bytes_of, hex_char, hex_text, shown}
use Rattle.cases.specs.Splits.{Free}
use Rattle.cases.proofs.Splitting.{split_free}
use Rattle.cases.proofs.Piecing.{limited_within}

-- two digits more
pub text_more :
    (out mid now xs : List ℕ) (i high low : ℕ) → i < length xs → high ≡ hex_char (get_or xs i 0 / 16)
    → low ≡ hex_char (get_or xs i 0 % 16) → encode high ≡ high ∷ [] → encode low ≡ low ∷ [] → mid ≡ out ++ encode high
    → now ≡ mid ++ encode low → out ++ hex_text (drop i xs) ≡ hex_text xs → now ++ hex_text (drop (i + 1) xs) ≡ hex_text xs
text_more out mid now xs i high low h is-high is-low one two first second inv =
    let rest : List ℕ = hex_text (drop (i + 1) xs) in
    let step : hex_text (drop i xs) ≡ high ∷ low ∷ rest = rw (is-high, is-low) (ap hex_text (drop_more xs i 0 h)) in
    let pushed : now ≡ (out ++ (high ∷ [])) ++ (low ∷ []) = second ∙ rw (first, one, two) in
    rw (pushed, append_assoc (out ++ (high ∷ [])) (low ∷ []) rest, append_assoc out (high ∷ []) (low ∷ rest)) (ap (λ (t : List ℕ). out ++ t) (sym step) ∙ inv)

pub text_done : (out xs : List ℕ) (i : ℕ) → length xs ≤ i → out ++ hex_text (drop i xs) ≡ hex_text xs → out ≡ hex_text xs
text_done out xs i h inv = sym (append-nil out) ∙ rw (drop_all i xs h) at inv

-- a digit is read back
digit_back : (d : ℕ) → d < 16 → hex_digit (hex_char d) ≡ Some d
digit_back d h =
    elim (cases_lt d 10) [
      | inl small ↦ rw (lt-ltb d 10 small, le-leb 48 (48 + d) (omega arith), le-leb (48 + d) 57 (omega arith)) (ap Some (omega arith))
      | inr large ↦
          rw (
            le-ltb d 10 large,
            le-leb 48 (87 + d) (omega arith),
            lt-leb (87 + d) 57 (omega arith),
            le-leb 97 (87 + d) (omega arith),
            le-leb (87 + d) 102 (omega arith),
          ) (ap Some (omega arith))
    ]

byte_back : (b : ℕ) → b < 256 → byte_of (hex_char (b / 16)) (hex_char (b % 16)) ≡ Some b
byte_back b h = rw (digit_back (b / 16) (omega arith), digit_back (b % 16) (omega arith)) (ap Some (omega arith))

pairs_back : (bs : List ℕ) → ((i : ℕ) → get_or bs i 0 < 256) → pairs (hex_text bs) ≡ Some bs
pairs_back [] h = refl
pairs_back (b ∷ bs) h = rw (byte_back b (h 0), pairs_back bs (λ i. h (suc i)))

char_ge : (d : ℕ) → 48 ≤ hex_char d
char_ge d = elim (cases_lt d 10) [ inl small ↦ rw (lt-ltb d 10 small) (omega arith) | inr large ↦ rw (le-ltb d 10 large) (omega arith) ]

text_ge : (bs : List ℕ) (k : ℕ) → k < length (hex_text bs) → 48 ≤ get_or (hex_text bs) k 0
text_ge [] k h = absurd (omega arith)
text_ge (b ∷ bs) zero h = char_ge (b / 16)
text_ge (b ∷ bs) (suc zero) h = char_ge (b % 16)
text_ge (b ∷ bs) (suc (suc k)) h = text_ge bs k (omega arith)

text_free : (bs : List ℕ) (mark : ℕ) → mark < 48 → Free mark (hex_text bs)
text_free bs mark low k h e = let ge = text_ge bs k h in omega arith

-- what is shown reads back
pub reads_back : (bs : List ℕ) → ((i : ℕ) → get_or bs i 0 < 256) → length bs ≤ longest → bytes_of (shown bs) ≡ Some bs
reads_back [] bytes few = refl
reads_back (b ∷ bs) bytes few =
    let ge = char_ge (b / 16) in
    rw (
      ne_eqb (hex_char (b / 16)) 45 (λ e. omega arith),
      split_free 46 (hex_text (b ∷ bs)) (text_free (b ∷ bs) 46 (omega arith)),
      split_free 42 (hex_text (b ∷ bs)) (text_free (b ∷ bs) 42 (omega arith)),
      pairs_back (b ∷ bs) bytes,
    )
    (ap (λ (t : List ℕ). limited (Some t)) (append-nil (b ∷ bs)) ∙ limited_within (b ∷ bs) few)

pub shown_some : (bs : List ℕ) → eqb (length bs) 0 ≡ false → shown bs ≡ hex_text bs
shown_some [] e = absurd (both_ways true e refl)
shown_some (b ∷ bs) e = refl
