-- What a dialect answers, and the counts and sets of names, masks and pairs.
use Rattle.std.specs.Prelude.{◌≡◌, ℕ, ◌+◌, ◌-◌, ◌<◌, ◌≤◌, min, Bool, false, cond, List, length, Some, None, Option, nat_lt, slice_index_or}
use Rattle.std.specs.Borrow.{Bor}
use Rattle.fields.specs.declared.part.Part.{Part}
use Rattle.fields.specs.Parts.{part, part_bytes}
use Rattle.std.specs.Str.{bytes_eq}
use Rattle.dialects.specs.Masks.{mask_holds}

-- whether the set of a pattern holds a string; a number at or past the count is no pattern's
abbrev pub answer : ℕ → (ℕ → List ℕ → Bool) → ℕ → List ℕ → Bool
answer count holds pattern text = cond (nat_lt pattern count) (holds pattern text) false

-- each part is a pattern, up to the greatest count
abbrev pub part_count : List Part → ℕ
part_count parts = min (length parts) 65535

-- the bytes of a pattern's part
abbrev pub pattern_bytes : List ℕ → List Part → ℕ → List ℕ
pattern_bytes file parts pattern = part_bytes file (slice_index_or parts pattern (part 0 0))

-- the bytes of a pattern are found exactly if there is one of that number
abbrev pub Finds : List ℕ → List Part → ℕ → Option (Bor (List ℕ)) → Type 0
Finds file parts pattern None = part_count parts ≤ pattern
Finds file parts pattern (Some bytes) = (pattern < part_count parts) × (bytes.now ≡ pattern_bytes file parts pattern)

-- the set of a pattern of a file: what its bytes match
abbrev pub listed_holds : (matched : List ℕ → List ℕ → Bool) → List ℕ → List Part → ℕ → List ℕ → Bool
listed_holds matched file parts pattern text = matched (pattern_bytes file parts pattern) text

-- a name's set: its own bytes
abbrev pub name_holds : List ℕ → List Part → ℕ → List ℕ → Bool
name_holds = listed_holds bytes_eq

-- a mask's set: what the mask matches
abbrev pub masked : List ℕ → List Part → ℕ → List ℕ → Bool
masked = listed_holds mask_holds

-- the count of two dialects side by side, up to the greatest
abbrev pub pair_count : ℕ → ℕ → ℕ
pair_count first second = min (first + second) 65535

-- numbers below the first's count are the first's, the others less that count the second's
abbrev pub pair_holds : ℕ → (ℕ → List ℕ → Bool) → (ℕ → List ℕ → Bool) → ℕ → List ℕ → Bool
pair_holds before first second pattern text = cond (nat_lt pattern before) (first pattern text) (second (pattern - before) text)
