-- Fields one after another: bytes that begin with a whole field are that field and a rest, in one way only.
use Rattle.std.proofs.Common.{◌≡◌, ℕ, ◌+◌, ◌*◌, ◌/◌, ◌%◌, ◌<◌, ◌≤◌, List, [], ◌∷◌, ◌++◌, length, get_or, take, drop, sym, refl, ap, ◌∙◌, arith}
use native.Mathlib.Nat.{div-add-mod}
use Rattle.std.proofs.lemmas.List.{take_at, drop_at, drop-drop, take-append-drop, length-take-le}
use Rattle.fields.specs.Fields.{field_bytes, tag_of, stated_length}

-- two ways to write a number in two bytes are one
two_bytes : (n high low : ℕ) → n ≡ high * 256 + low → low < 256 → (n / 256 ≡ high) × (n % 256 ≡ low)
two_bytes n high low e small = (omega arith, omega arith)

pub field_cut : (bytes : List ℕ) → 3 + stated_length bytes ≤ length bytes → get_or bytes 2 0 < 256 →
    bytes ≡ field_bytes (tag_of bytes) (take (stated_length bytes) (drop 3 bytes)) ++ drop (3 + stated_length bytes) bytes
field_cut [] within byte = absurd (omega arith)
field_cut (t ∷ []) within byte = absurd (omega arith)
field_cut (t ∷ h ∷ []) within byte = absurd (omega arith)
field_cut (t ∷ h ∷ l ∷ more) within byte =
    let n = h * 256 + l in
    let fits : n ≤ length more = omega arith in
    let bytes = two_bytes (length (take n more)) h l (length-take-le n more fits) byte in
    rw (bytes.0, bytes.1, ← drop-drop n 3 (t ∷ h ∷ l ∷ more)) (ap (λ xs. t ∷ h ∷ l ∷ xs) (sym (take-append-drop n more)))

pub same_field : (tag : ℕ) (p q xs ys : List ℕ) → field_bytes tag p ++ xs ≡ field_bytes tag q ++ ys → (p ≡ q) × (xs ≡ ys)
same_field tag p q xs ys e =
    let high : length p / 256 ≡ length q / 256 = ap (λ l. get_or l 1 0) e in
    let low : length p % 256 ≡ length q % 256 = ap (λ l. get_or l 2 0) e in
    let long : length p ≡ length q = omega (arith, div-add-mod (length p) 256, div-add-mod (length q) 256) in
    let rest : p ++ xs ≡ q ++ ys = ap (drop 3) e in (
      sym (take_at p xs (length q) long) ∙ ap (take (length q)) rest ∙ take_at q ys (length q) refl,
      sym (drop_at p xs (length q) long) ∙ ap (drop (length q)) rest ∙ drop_at q ys (length q) refl,
    )
