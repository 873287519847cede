-- Where a comparison of a mask with a string stands, and what a step of it may do.
use Rattle.std.specs.Prelude.{◌≡◌, ℕ, suc, ◌+◌, ◌*◌, ◌<◌, ◌≤◌, Bool, true, false, ◌||◌, List, [], ◌∷◌, length, drop, Some, None, Option}
use Rattle.dialects.specs.declared.matcher.Cursor.{Cursor}
use Rattle.dialects.specs.declared.matcher.Retry.{Retry}
use Rattle.dialects.specs.Masks.{some_tail, mask_holds}

-- the string without some of its first bytes, one at least, passes the test
abbrev pub some_later_tail : (List ℕ → Bool) → List ℕ → Bool
some_later_tail test [] = false
some_later_tail test (c ∷ s) = some_tail test s

-- what follows the last star matches further on than where it was tried
abbrev pub later : Option Retry → Bool
later None = false
later (Some r) = some_later_tail (mask_holds r.mask.now) r.text.now

-- the mask matches here, or after another try
abbrev pub still : Cursor → Bool
still c = mask_holds c.mask.now c.text.now || later c.retry

-- a try that begins further on would also come to this rest of the mask further on, by as much
abbrev pub Ahead : (mask text : List ℕ) → Option Retry → Type 0
Ahead mask text None = Unit {0}
Ahead mask text (Some r) =
    (length mask ≤ length r.mask.now) × (length text ≤ length r.text.now)
    × ((k : ℕ) → mask_holds r.mask.now (drop (suc k) r.text.now) ≡ true → mask_holds mask (drop (suc k) text) ≡ true)

abbrev pub Sound : Cursor → Type 0
Sound c = Ahead c.mask.now c.text.now c.retry

-- how many steps are left, at most, with so many bytes of mask and string
abbrev pub steps : (mask text : ℕ) → Option Retry → ℕ
steps mask text None = (text + 1) * (mask + 1)
steps mask text (Some r) = length r.text.now * (length r.mask.now + 1) + mask

-- so a comparison takes no more steps than (length text + 1) * (length mask + 1)
abbrev pub steps_left : Cursor → ℕ
steps_left c = steps (length c.mask.now) (length c.text.now) c.retry

-- this rest of the mask is tried on this rest of the string, and remembered
abbrev pub Remembers : (mask text : List ℕ) → Option Retry → Type 0
Remembers mask text None = ⊥
Remembers mask text (Some r) = (r.mask.now ≡ mask) × (r.text.now ≡ text)

abbrev pub Begins : (mask text : List ℕ) → Cursor → Type 0
Begins mask text c = (c.mask.now ≡ mask) × (c.text.now ≡ text) × Remembers mask text c.retry

abbrev pub BeginsNext : (mask text : List ℕ) → Option Cursor → Type 0
BeginsNext mask text None = text ≡ []
BeginsNext mask text (Some c) = (0 < length text) × Begins mask (drop 1 text) c

-- a step keeps the answer and leaves fewer steps, or the answer is no
abbrev pub Steps : Cursor → Option Cursor → Type 0
Steps c None = still c ≡ false
Steps c (Some d) = Sound d × (still d ≡ still c) × (steps_left d < steps_left c)
