-- Digits two by two, and bytes joined.
use Rattle.std.proofs.Common.{◌≡◌, ℕ, zero, suc, ◌+◌, ◌/◌, ◌%◌, ◌<◌, ◌≤◌, List, [], ◌∷◌, ◌++◌, length, get_or, drop, Some, None, Option, sym, refl, ap, ◌∙◌, arith}
use Rattle.std.specs.Simd.{first_chunks}
use Rattle.std.proofs.lemmas.List.{append_assoc, append-nil, drop_more, drop_all}
use Rattle.cases.specs.Bytes.{both, alone, byte_of, pairs, hex_bytes}

pub both_assoc : (a b : List ℕ) (m : Option (List ℕ)) → both (Some a) (both (Some b) m) ≡ both (Some (a ++ b)) m
both_assoc a b None = refl
both_assoc a b (Some x) = ap Some (sym (append_assoc a b x))

both_none : (x : Option (List ℕ)) → both x None ≡ None
both_none None = refl
both_none (Some a) = refl

both_start : (m : Option (List ℕ)) → both (Some []) m ≡ m
both_start None = refl
both_start (Some a) = refl

-- the bytes of pairs of digits
abbrev pub chunk_bytes : List (List ℕ) → Option (List ℕ)
chunk_bytes [] = Some []
chunk_bytes (p ∷ ps) = both (alone (byte_of (get_or p 0 0) (get_or p 1 0))) (chunk_bytes ps)

chunks_are : (n : ℕ) (ds : List ℕ) → length ds ≡ n + n → chunk_bytes (first_chunks 2 n ds) ≡ pairs ds
chunks_are zero [] h = refl
chunks_are zero (a ∷ ds) h = absurd (omega arith)
chunks_are (suc n) [] h = absurd (omega arith)
chunks_are (suc n) (a ∷ []) h = absurd (omega arith)
chunks_are (suc n) (a ∷ b ∷ ds) h = ap (both (alone (byte_of a b))) (chunks_are n ds (omega arith))

odd_none : (n : ℕ) (ds : List ℕ) → length ds ≡ 1 + (n + n) → pairs ds ≡ None
odd_none n [] h = absurd (omega arith)
odd_none n (a ∷ []) h = refl
odd_none zero (a ∷ b ∷ ds) h = absurd (omega arith)
odd_none (suc n) (a ∷ b ∷ ds) h = rw (odd_none n ds (omega arith)) (both_none (alone (byte_of a b)))

hex_is : (ds : List ℕ) → 0 < length ds → hex_bytes ds ≡ pairs ds
hex_is [] h = absurd (omega arith)
hex_is (d ∷ ds) h = refl

-- fewer than two digits, or an odd one at the end, are no bytes
pub too_few : (ds : List ℕ) → length ds / 2 ≡ 0 → hex_bytes ds ≡ None
too_few [] h = refl
too_few (d ∷ []) h = refl
too_few (d ∷ e ∷ ds) h = absurd (omega arith)

pub odd_end : (ds : List ℕ) → 0 < length ds % 2 → hex_bytes ds ≡ None
odd_end ds h = hex_is ds (omega arith) ∙ odd_none (length ds / 2) ds (omega arith)

-- at first nothing is read, and the pairs are the whole
pub pairs_whole :
    (ds done : List ℕ) (ps : List (List ℕ)) → done ≡ [] → ps ≡ first_chunks 2 (length ds / 2) ds → 0 < length ds / 2 → length ds % 2 ≡ 0
    → both (Some done) (chunk_bytes ps) ≡ hex_bytes ds
pairs_whole ds done ps none is some even =
    rw (none, is) (both_start (chunk_bytes (first_chunks 2 (length ds / 2) ds)) ∙ chunks_are (length ds / 2) ds (omega arith) ∙ sym (hex_is ds (omega arith)))

-- a pair is read: what is read and what is left still make up the whole
pub pair_more :
    (done more : List ℕ) (ps : List (List ℕ)) (i b : ℕ) (whole : Option (List ℕ)) → i < length ps
    → byte_of (get_or (get_or ps i []) 0 0) (get_or (get_or ps i []) 1 0) ≡ Some b → more ≡ done ++ (b ∷ [])
    → both (Some done) (chunk_bytes (drop i ps)) ≡ whole → both (Some more) (chunk_bytes (drop (i + 1) ps)) ≡ whole
pair_more done more ps i b whole h e grown inv =
    rw grown (sym (both_assoc done (b ∷ []) _) ∙ ap (both (Some done)) (sym (rw e at (ap chunk_bytes (drop_more ps i [] h)))) ∙ inv)

-- a pair is no byte: neither is the whole
pub pair_none :
    (done : List ℕ) (ps : List (List ℕ)) (i : ℕ) (whole : Option (List ℕ)) → i < length ps
    → byte_of (get_or (get_or ps i []) 0 0) (get_or (get_or ps i []) 1 0) ≡ None
    → both (Some done) (chunk_bytes (drop i ps)) ≡ whole → whole ≡ None
pair_none done ps i whole h e inv = sym inv ∙ ap (both (Some done)) (rw e at (ap chunk_bytes (drop_more ps i [] h)))

-- no pair is left
pub pairs_done :
    (done : List ℕ) (ps : List (List ℕ)) (i : ℕ) (whole : Option (List ℕ)) → length ps ≤ i
    → both (Some done) (chunk_bytes (drop i ps)) ≡ whole → whole ≡ Some done
pairs_done done ps i whole h inv = sym inv ∙ ap (both (Some done)) (ap chunk_bytes (drop_all i ps h)) ∙ ap Some (append-nil done)
