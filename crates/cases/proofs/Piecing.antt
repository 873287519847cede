-- Pieces one after another, each repeated, within the limit.
use Rattle.std.proofs.Common.{◌≡◌, ℕ, zero, suc, ◌+◌, ◌-◌, ◌<◌, ◌≤◌, leb, List, ◌∷◌, ◌++◌, length, Some, None, Err, Option, Vec, sym, refl, ap, ◌∙◌, inl, inr, add-one, arith, length-append}
use Rattle.std.proofs.lemmas.List.{append_assoc, append-nil}
use Rattle.std.proofs.lemmas.Bool.{cases_Bool, leb-true, leb-false, le-leb, lt-leb}
use Rattle.cases.specs.Bytes.{longest, both, times, limited, piece_bytes, pieces_bytes}
use Rattle.cases.specs.Splits.{split}
use Rattle.cases.specs.Read.{Reads, Grows}
use Rattle.cases.specs.declared.fault.LineFault.{LineFault}
use Rattle.cases.specs.declared.fault.LineFault.TheVariants.{Unreadable, OutOfMemory}
use Rattle.std.specs.declared.alloc.Global.{Global}
use Rattle.cases.proofs.Hexing.{both_assoc}

-- the limit
limited_over : (bs : List ℕ) → longest < length bs → limited (Some bs) ≡ None
limited_over bs h = rw (lt-leb (length bs) longest h)

pub limited_within : (bs : List ℕ) → length bs ≤ longest → limited (Some bs) ≡ Some bs
limited_within bs h = rw (le-leb (length bs) longest h)

limited_some : (m : Option (List ℕ)) (x : List ℕ) → limited m ≡ Some x → (m ≡ Some x) × (length x ≤ longest)
limited_some None x e = cc
limited_some (Some bs) x e =
    elim (cases_Bool (leb (length bs) longest)) [
      | inl t ↦ let same : bs ≡ x = (let w = rw t at e in cc) in
          (ap Some same, rw (← same) (leb-true (length bs) longest t))
      | inr f ↦ (let w = rw f at e in cc)
    ]

limited_none : (bs : List ℕ) → limited (Some bs) ≡ None → longest < length bs
limited_none bs e =
    elim (cases_Bool (leb (length bs) longest)) [
      | inl t ↦ (let w = rw t at e in cc)
      | inr f ↦ leb-false (length bs) longest f
    ]

-- bytes over and over
times_swap : (n : ℕ) (bs : List ℕ) → bs ++ times n bs ≡ times n bs ++ bs
times_swap zero bs = append-nil bs
times_swap (suc n) bs = ap (λ (t : List ℕ). bs ++ t) (times_swap n bs) ∙ sym (append_assoc bs (times n bs) bs)

times_room : (i n : ℕ) (bs : List ℕ) → i < n → length (times i bs) + length bs ≤ length (times n bs)
times_room i zero bs h = absurd (omega arith)
times_room zero (suc n) bs h = simp length-append (omega arith)
times_room (suc i) (suc n) bs h = let more = times_room i n bs (omega arith) in simp length-append (omega arith)

-- one turn more
pub times_again :
    (old out now bs : List ℕ) (i : ℕ) → now ≡ out ++ bs → out ≡ old ++ times i bs → now ≡ old ++ times (i + 1) bs
times_again old out now bs i grew inv =
    grew ∙ ap (λ (t : List ℕ). t ++ bs) inv ∙ append_assoc old (times i bs) bs
    ∙ ap (λ (t : List ℕ). old ++ t) (rw add-one (sym (times_swap i bs)))

-- no room for one turn more
pub times_over :
    (old out bs : List ℕ) (i n len : ℕ) → len ≡ length out → longest - len < length bs → i < n
    → out ≡ old ++ times i bs → limited (Some (old ++ times n bs)) ≡ None
times_over old out bs i n len is over turn inv =
    limited_over (old ++ times n bs)
    (let room = times_room i n bs turn in
    let was = simp length-append at (ap length inv) in
    simp length-append (omega arith))

joins :
    (done grown : List ℕ) (m x : Option (List ℕ)) → limited (both (Some done) m) ≡ Some grown
    → (length grown ≤ longest) × (both (Some grown) x ≡ both (Some done) (both m x))
joins done grown None x e = cc
joins done grown (Some b) x e =
    let some = limited_some (Some (done ++ b)) grown e in
    let same : done ++ b ≡ grown = (let w = some.0 in cc) in
    (some.1, rw (← same) (sym (both_assoc done b x)))

breaks :
    (done : List ℕ) (m x : Option (List ℕ)) → limited (both (Some done) m) ≡ None
    → limited (both (Some done) (both m x)) ≡ None
breaks done None x e = refl
breaks done (Some b) None e = refl
breaks done (Some b) (Some c) e =
    limited_over (done ++ (b ++ c)) (let over = simp length-append at (limited_none (done ++ b) e) in simp length-append (omega arith))

-- a piece is read: what is read and what is left still make up the whole
pub piece_more :
    (done p grown : List ℕ) (ps left : List (List ℕ)) (whole : Option (List ℕ)) (len : ℕ) → len ≡ length grown
    → left ≡ p ∷ ps → limited (both (Some done) (piece_bytes (split 42 p))) ≡ Some grown
    → both (Some done) (pieces_bytes left) ≡ whole → (len ≤ longest) × (both (Some grown) (pieces_bytes ps) ≡ whole)
piece_more done p grown ps left whole len is first read inv =
    let j = joins done grown (piece_bytes (split 42 p)) (pieces_bytes ps) read in
    (omega (arith, j.0), j.1 ∙ rw first at inv)

-- a piece is refused: so is the whole, unless memory ran out
pub piece_broken :
    (done p : List ℕ) (ps left : List (List ℕ)) (whole : Option (List ℕ)) (fault : LineFault) (out : Vec ℕ Global)
    → left ≡ p ∷ ps → Grows (both (Some done) (piece_bytes (split 42 p))) (Err fault) out
    → both (Some done) (pieces_bytes left) ≡ whole → Reads (limited whole) (Err fault)
piece_broken done p ps left whole Unreadable out first refused inv =
    rw (← (rw first at inv)) (breaks done (piece_bytes (split 42 p)) (pieces_bytes ps) refused)
piece_broken done p ps left whole OutOfMemory out first refused inv = tt
