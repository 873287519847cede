-- What the parts of bytes are that a mark parts.
use Rattle.std.specs.Prelude.{◌≡◌, ℕ, ◌<◌, cond, List, [], ◌∷◌, ◌++◌, length, Some, None, Option, ◌==◌, ◌≢◌, slice_index, slice_index_or}
use Rattle.std.specs.Borrow.{Bor}

-- no byte is the mark
abbrev pub Free : ℕ → List ℕ → Type 0
Free mark bytes = (k : ℕ) → k < length bytes → slice_index bytes k ≢ mark

-- parts with a mark between each two
abbrev pub joined_by : ℕ → List (List ℕ) → List ℕ
joined_by mark [] = []
joined_by mark (p ∷ []) = p
joined_by mark (p ∷ q ∷ ps) = p ++ (mark ∷ joined_by mark (q ∷ ps))

-- the law of parts: joined by marks they are the bytes, and no mark stands in one
pub record Parted (mark : ℕ) (bytes : List ℕ) (ps : List (List ℕ)) : Type 0 where
  pub some : 0 < length ps
  pub joined : joined_by mark ps ≡ bytes
  pub free : (k : ℕ) → k < length ps → Free mark (slice_index_or ps k [])

-- a byte put before the first part
abbrev pub grown : ℕ → List (List ℕ) → List (List ℕ)
grown b [] = (b ∷ []) ∷ []
grown b (p ∷ ps) = (b ∷ p) ∷ ps

-- the parts, each mark beginning a new one
abbrev pub split : ℕ → List ℕ → List (List ℕ)
split mark [] = [] ∷ []
split mark (b ∷ bs) = cond (b == mark) ([] ∷ split mark bs) (grown b (split mark bs))

-- the index of the first mark, or none where no byte is the mark
abbrev pub FirstMark : ℕ → List ℕ → Option ℕ → Type 0
FirstMark mark bytes None = Free mark bytes
FirstMark mark bytes (Some i) =
    (i < length bytes) × (slice_index bytes i ≡ mark) × ((k : ℕ) → k < i → slice_index bytes k ≢ mark)

-- what a cut at the first mark gives: what stands before it, and what follows it
abbrev pub Cuts : ℕ → List ℕ → Option (Bor (List ℕ) × Bor (List ℕ)) → Type 0
Cuts mark bytes None = Free mark bytes
Cuts mark bytes (Some h) = (bytes ≡ h.0.now ++ (mark ∷ h.1.now)) × Free mark h.0.now

-- the parts, by such a cut
abbrev pub parts_after : ℕ → List ℕ → Option (Bor (List ℕ) × Bor (List ℕ)) → List (List ℕ)
parts_after mark bytes None = bytes ∷ []
parts_after mark bytes (Some h) = h.0.now ∷ split mark h.1.now
