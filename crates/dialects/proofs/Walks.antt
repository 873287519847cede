-- The steps that compare a mask with a string.
use Rattle.std.proofs.Common.{◌≡◌, ℕ, suc, ◌+◌, ◌*◌, ◌<◌, ◌≤◌, true, false, ◌||◌, Bool, eqb, zero, ⊎_elim, ◌↔◌, ◌≢◌, List, [], ◌∷◌, length, get_or, drop, Some, None, Option, sym, refl, ap, ◌∙◌, add-one, arith, ne_eqb, mul-le-mul_left, mul-le-mul_right}
use Rattle.std.proofs.lemmas.List.{drop-drop}
use Rattle.std.specs.List.{EachIndex}
use Rattle.std.proofs.lemmas.Bool.{true≢false, cases_eq, cases_Bool}
use Rattle.dialects.specs.declared.matcher.Cursor.{Cursor}
use Rattle.dialects.specs.declared.matcher.Retry.{Retry}
use Rattle.dialects.specs.Masks.{star, any_byte, some_tail, byte_then, mask_holds}
use Rattle.dialects.specs.Cursors.{later, still, Ahead, Sound, steps, steps_left, Remembers, Begins, BeginsNext, Steps, some_later_tail}
use Rattle.dialects.proofs.Tails.{or_absorbs, some_tail_split, some_later_tail_gives, some_tail_longer, byte_then_rest}

-- a later try that succeeds also succeeds from here, further on
later_gives : (mask text : List ℕ) (o : Option Retry) → Ahead mask text o → later o ≡ true → (k : ℕ) × (mask_holds mask (drop (suc k) text) ≡ true)
later_gives mask text None a h = let z : ◌≡◌ {A = ℕ} 0 1 = cc in absurd (omega arith)
later_gives mask text (Some r) a h =
    let found = some_later_tail_gives (mask_holds r.mask.now) r.text.now h in
    (found.0, a.2 found.0 found.1)

-- where a comparison begins
record Begun (mask text : List ℕ) (m s : List ℕ) (o : Option Retry) : Type 0 where
  sound : Ahead m s o
  same : (mask_holds m s || later o) ≡ some_tail (mask_holds mask) text
  left : steps (length m) (length s) o ≡ length text * (length mask + 1) + length mask

begun_from : (mask text m s : List ℕ) (o : Option Retry) → m ≡ mask → s ≡ text → Remembers mask text o → Begun mask text m s o
begun_from mask text m s None e f none = absurd none
begun_from mask text m s (Some r) e f same =
    rw (e, f)
    (record {
      sound = (omega (arith, ap length same.0), omega (arith, ap length same.1), λ k h. rw (same.0, same.1) at h);
      same = rw (same.0, same.1) (some_tail_split (mask_holds mask) text);
      left = rw (same.0, same.1) refl;
    })

begun : (mask text : List ℕ) (d : Cursor) → Begins mask text d → Begun mask text d.mask.now d.text.now d.retry
begun mask text d begins = begun_from mask text d.mask.now d.text.now d.retry begins.0 begins.1 begins.2

-- a star is tried here first
star_fewer : (m t : ℕ) (mask text : List ℕ) (o : Option Retry) → m + 1 ≡ length mask → t ≡ length text → Ahead mask text o → t * (m + 1) + m < steps (length mask) (length text) o
star_fewer m t mask text None e f a = rw (← e, ← f) (omega arith)
star_fewer m t mask text (Some r) e f a =
    rw (← e)
    (let lower : t * (m + 1) ≤ t * (length r.mask.now + 1) = mul-le-mul_left t (omega (arith, a.0, e)) in
    let upper : t * (length r.mask.now + 1) ≤ length r.text.now * (length r.mask.now + 1) = mul-le-mul_right (length r.mask.now + 1) (omega (arith, a.1, f)) in
    omega arith)

star_keeps : (mask text : List ℕ) (o : Option Retry) → Ahead (star ∷ mask) text o → (some_tail (mask_holds mask) text || later o) ≡ some_tail (mask_holds mask) text
star_keeps mask text o ahead =
    or_absorbs (some_tail (mask_holds mask) text) (later o) (λ h.
    let found = later_gives (star ∷ mask) text o ahead h in
    some_tail_longer (mask_holds mask) text (suc found.0) found.1)

pub star_steps : (mask text : List ℕ) (o : Option Retry) (d : Cursor) → 1 ≤ length mask → get_or mask 0 0 ≡ star → Ahead mask text o → Begins (drop 1 mask) text d →
    Sound d × (still d ≡ (mask_holds mask text || later o)) × (steps_left d < steps (length mask) (length text) o)
star_steps [] text o d some is ahead begins = absurd (omega arith)
star_steps (m ∷ mask) text o d some is ahead begins =
    let b = begun mask text d begins in
    let starred : Ahead (star ∷ mask) text o = rw is at ahead in (
      b.sound,
      b.same ∙ sym (rw is (star_keeps mask text o starred)),
      rw b.left (star_fewer (length mask) (length text) (m ∷ mask) text o (omega arith) refl ahead),
    )

-- another byte takes a byte of the string
byte_ahead : (byte other : ℕ) (mask text : List ℕ) (o : Option Retry) → byte ≢ star → Ahead (byte ∷ mask) (other ∷ text) o → Ahead mask text o
byte_ahead byte other mask text None isnt ahead = tt
byte_ahead byte other mask text (Some r) isnt ahead = (
  omega (arith, ahead.0),
  omega (arith, ahead.1),
  λ k h.
      let there : mask_holds (byte ∷ mask) (drop k text) ≡ true = ahead.2 k h in
      let taken : byte_then byte (mask_holds mask) (drop k text) ≡ true = rw (ne_eqb byte star isnt) at there in
      rw (← add-one k, ← drop-drop 1 k text) (byte_then_rest (mask_holds mask) byte (drop k text) taken),
)

byte_fewer : (mask text : ℕ) (o : Option Retry) → steps mask text o < steps (suc mask) (suc text) o
byte_fewer mask text None = omega arith
byte_fewer mask text (Some r) = omega arith

pub byte_steps : (mask text : List ℕ) (o : Option Retry) → 1 ≤ length mask → 1 ≤ length text → get_or mask 0 0 ≢ star →
    (eqb (get_or mask 0 0) any_byte || eqb (get_or mask 0 0) (get_or text 0 0)) ≡ true → Ahead mask text o →
    Ahead (drop 1 mask) (drop 1 text) o × ((mask_holds (drop 1 mask) (drop 1 text) || later o) ≡ (mask_holds mask text || later o))
    × (steps (length (drop 1 mask)) (length (drop 1 text)) o < steps (length mask) (length text) o)
byte_steps [] text o some more isnt fits ahead = absurd (omega arith)
byte_steps (byte ∷ mask) [] o some more isnt fits ahead = absurd (omega arith)
byte_steps (byte ∷ mask) (other ∷ text) o some more isnt fits ahead = (
  byte_ahead byte other mask text o isnt ahead,
  rw (ne_eqb byte star isnt, fits) refl,
  byte_fewer (length mask) (length text) o,
)

-- a mask that can't match here is at its end, or stands for another byte
pub ended : (mask text : List ℕ) → length mask < 1 → 0 < length text → mask_holds mask text ≡ false
ended [] [] none more = absurd (omega arith)
ended [] (c ∷ text) none more = refl
ended (byte ∷ mask) text none more = absurd (omega arith)

pub differs : (mask text : List ℕ) → 1 ≤ length mask → 1 ≤ length text → get_or mask 0 0 ≢ star →
    (eqb (get_or mask 0 0) any_byte || eqb (get_or mask 0 0) (get_or text 0 0)) ≡ false → mask_holds mask text ≡ false
differs [] text some more isnt unlike = absurd (omega arith)
differs (byte ∷ mask) [] some more isnt unlike = absurd (omega arith)
differs (byte ∷ mask) (other ∷ text) some more isnt unlike = rw (ne_eqb byte star isnt, unlike) refl

-- the next try, where the mask can't match here
next_fewer : (mask : ℕ) (text : List ℕ) (m : ℕ) → 0 < length text → length (drop 1 text) * (m + 1) + m < length text * (m + 1) + mask
next_fewer mask [] m some = absurd (omega arith)
next_fewer mask (c ∷ text) m some = omega arith

next_tail : (test : List ℕ → Bool) (text : List ℕ) → 0 < length text → some_tail test (drop 1 text) ≡ some_later_tail test text
next_tail test [] some = absurd (omega arith)
next_tail test (c ∷ text) some = refl

pub try_steps : (c : Cursor) (r : Retry) (next : Option Cursor) → c.retry ≡ Some r → mask_holds c.mask.now c.text.now ≡ false → Sound c →
    BeginsNext r.mask.now r.text.now next → Steps c next
try_steps c r None is stuck ahead ends = rw (is, stuck, ends) refl
try_steps c r (Some d) is stuck ahead begins =
    let b = begun r.mask.now (drop 1 r.text.now) d begins.1 in (
      b.sound,
      b.same ∙ rw (is, stuck) (next_tail (mask_holds r.mask.now) r.text.now begins.0),
      rw (b.left, is) (next_fewer (length c.mask.now) r.text.now (length r.mask.now) begins.0),
    )

end_still : (mask text : List ℕ) (o : Option Retry) → length text ≡ 0 → Ahead mask text o → (mask_holds mask text || later o) ≡ mask_holds mask []
end_still mask [] o end ahead = or_absorbs (mask_holds mask []) (later o) (λ h. (later_gives mask [] o ahead h).1)
end_still mask (c ∷ text) o end ahead = absurd (omega arith)

-- at the end of the string a mask matches if nothing but stars is left of it
stars_match : (mask : List ℕ) → ((k : ℕ) → k < length mask → get_or mask k 0 ≡ star) → mask_holds mask [] ≡ true
stars_match [] every = refl
stars_match (byte ∷ mask) every = rw (every 0 (omega arith)) (stars_match mask (λ k below. every (suc k) (omega arith)))

star_first : (byte : ℕ) (mask : List ℕ) → byte ≡ star → ((k : ℕ) → k < length mask → get_or mask k 0 ≡ star) → (k : ℕ) → k < length (byte ∷ mask) → get_or (byte ∷ mask) k 0 ≡ star
star_first byte mask is every zero below = is
star_first byte mask is every (suc k) below = every k (omega arith)

match_stars : (mask : List ℕ) → mask_holds mask [] ≡ true → (k : ℕ) → k < length mask → get_or mask k 0 ≡ star
match_stars [] holds k below = absurd (omega arith)
match_stars (byte ∷ mask) holds k below =
    ⊎_elim
    (λ (is : byte ≡ star). star_first byte mask is (match_stars mask (rw is at holds)) k below)
    (λ (isnt : byte ≡ star → ⊥). absurd (true≢false (sym holds ∙ rw (ne_eqb byte star isnt) refl)))
    (cases_eq byte star)

stars_left : (mask : List ℕ) (b : Bool) → ((b ≡ true) ↔ EachIndex mask (λ k. get_or mask k 0 ≡ star)) → b ≡ mask_holds mask []
stars_left mask true stars = sym (stars_match mask (stars.0 refl))
stars_left mask false stars =
    ⊎_elim
    (λ (holds : mask_holds mask [] ≡ true). stars.1 (match_stars mask holds) ∙ sym holds)
    (λ (fails : mask_holds mask [] ≡ false). sym fails)
    (cases_Bool (mask_holds mask []))

-- and no later try is needed
pub at_end : (c : Cursor) (b : Bool) → length c.text.now ≡ 0 → Sound c → ((b ≡ true) ↔ EachIndex c.mask.now (λ k. get_or c.mask.now k 0 ≡ star)) → b ≡ still c
at_end c b end ahead stars = stars_left c.mask.now b stars ∙ sym (end_still c.mask.now c.text.now c.retry end ahead)
