-- An input cut at its first line end, or not at all.
use Rattle.std.proofs.Common.{◌≡◌, ℕ, zero, suc, ◌+◌, ◌-◌, ◌<◌, ◌≤◌, eqb, List, [], ◌∷◌, length, get_or, take, drop, Some, None, sym, refl, ⊎_elim, ap, ◌∙◌, add-one, arith, length-drop}
use Rattle.std.proofs.lemmas.List.{take_rest}
use Rattle.std.specs.List.{position, position_or_len}
use Rattle.std.proofs.lemmas.Bool.{ne_eqb, eqb-true, eqb-false, lt-ltb, cases_lt}
use Rattle.std.proofs.lemmas.Option.{none-some}
use Rattle.std.proofs.lemmas.List.Quantifiers.{position-Some}
use Rattle.std.proofs.lemmas.List.Sums.{fails_before_first}
use Rattle.lines.specs.Lines.{lines, FirstLine}

-- the line up to its end
pub lines_cut : (bytes : List ℕ) (i : ℕ) → i < length bytes → ((k : ℕ) → k < i → get_or bytes k 0 ≡ 10 → ⊥) → get_or bytes i 0 ≡ 10 →
    lines bytes ≡ take i bytes ∷ lines (drop (suc i) bytes)
lines_cut [] i inside none here = absurd (omega arith)
lines_cut (c ∷ s) zero inside none here = rw here
lines_cut (c ∷ s) (suc i) inside none here =
    let more = lines_cut s i (omega arith) (λ k below e. none (suc k) (omega arith) e) here in
    rw (ne_eqb c 10 (none 0 (omega arith)), more)

-- the last line, without an end
pub lines_last : (bytes : List ℕ) → 0 < length bytes → ((k : ℕ) → k < length bytes → get_or bytes k 0 ≡ 10 → ⊥) → lines bytes ≡ bytes ∷ []
lines_last [] some none = absurd (omega arith)
lines_last (c ∷ []) some none = rw (ne_eqb c 10 (none 0 (omega arith)))
lines_last (c ∷ d ∷ s) some none =
    let more = lines_last (d ∷ s) (omega arith) (λ k below e. none (suc k) (omega arith) e) in
    rw (ne_eqb c 10 (none 0 (omega arith)), more)

-- what `split_line` answers, as slices are read
pub first_line : (bytes : List ℕ) (i : ℕ) → i < length bytes → ((k : ℕ) → k < i → get_or bytes k 0 ≡ 10 → ⊥) → get_or bytes i 0 ≡ 10 →
    FirstLine bytes (take i bytes) (take (length bytes - (i + 1)) (drop (i + 1) bytes))
first_line bytes i inside none here =
    let whole : take (length bytes - (i + 1)) (drop (i + 1) bytes) ≡ drop (suc i) bytes = take_rest bytes (i + 1) ∙ ap (λ k. drop k bytes) (add-one i) in
    rw whole (lines_cut bytes i inside none here, simp length-drop (omega arith))

pub last_line : (bytes : List ℕ) → 0 < length bytes → ((k : ℕ) → k < length bytes → get_or bytes k 0 ≡ 10 → ⊥) → FirstLine bytes bytes []
last_line bytes some none = (lines_last bytes some none, some)

-- what `split_line` answers, by where the first line end is
pub closed_line : (bytes : List ℕ) (end : ℕ) → Some end ≡ position (λ byte. eqb byte 10) bytes →
    FirstLine bytes (take end bytes) (take (length bytes - (end + 1)) (drop (end + 1) bytes))
closed_line bytes end is =
    let first = position-Some (λ byte. eqb byte 10) bytes end 0 (sym is) in
    first_line bytes end first.0 (λ k below. eqb-false (get_or bytes k 0) 10 (first.2 k below)) (eqb-true (get_or bytes end 0) 10 first.1)

none_left : (bytes : List ℕ) (k : ℕ) → None ≡ position (λ byte. eqb byte 10) bytes → k < length bytes → get_or bytes k 0 ≡ 10 → ⊥
none_left bytes k is below here =
    ⊎_elim
    (λ (some : position_or_len (λ byte. eqb byte 10) bytes < length bytes).
    let found : position (λ byte. eqb byte 10) bytes ≡ Some (position_or_len (λ byte. eqb byte 10) bytes) = rw (lt-ltb (position_or_len (λ byte. eqb byte 10) bytes) (length bytes) some) refl in
    none-some (position_or_len (λ byte. eqb byte 10) bytes) (is ∙ found))
    (λ (past : length bytes ≤ position_or_len (λ byte. eqb byte 10) bytes).
    eqb-false (get_or bytes k 0) 10 (fails_before_first (λ byte. eqb byte 10) bytes k 0 (omega arith)) here)
    (cases_lt (position_or_len (λ byte. eqb byte 10) bytes) (length bytes))

pub open_line : (bytes : List ℕ) → 0 < length bytes → None ≡ position (λ byte. eqb byte 10) bytes → FirstLine bytes bytes []
open_line bytes some is = last_line bytes some (λ k below. none_left bytes k is below)
