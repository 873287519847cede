-- The tails of a string, and one byte of a mask.
use Rattle.std.proofs.Common.{◌≡◌, ℕ, zero, suc, Bool, true, false, ◌||◌, eqb, List, [], ◌∷◌, drop, sym, refl, ⊎_elim, arith}
use Rattle.std.proofs.lemmas.Bool.{or_cases, or_right, and_parts}
use Rattle.dialects.specs.Masks.{any_byte, some_tail, byte_then}
use Rattle.dialects.specs.Cursors.{some_later_tail}

-- an `or` with something that implies the first part
pub or_absorbs : (a b : Bool) → (b ≡ true → a ≡ true) → (a || b) ≡ a
or_absorbs true b h = refl
or_absorbs false true h = sym (h refl)
or_absorbs false false h = refl

module _ (test : List ℕ → Bool) where
  -- some tail: the string itself, or a later one
  pub some_tail_split : (s : List ℕ) → (test s || some_later_tail test s) ≡ some_tail test s
  some_tail_split [] = or_absorbs (test []) false (λ h. absurd (let z : ◌≡◌ {A = ℕ} 0 1 = cc in omega arith))
  some_tail_split (c ∷ s) = refl

  -- what is found is a tail that passes
  some_tail_gives : (s : List ℕ) → some_tail test s ≡ true → (k : ℕ) × (test (drop k s) ≡ true)
  some_tail_gives [] h = (0, h)
  some_tail_gives (c ∷ s) h =
      ⊎_elim
      (λ now. (0, now))
      (λ after. let more = some_tail_gives s after in (suc more.0, more.1))
      (or_cases (test (c ∷ s)) (some_tail test s) h)

  pub some_later_tail_gives : (s : List ℕ) → some_later_tail test s ≡ true → (k : ℕ) × (test (drop (suc k) s) ≡ true)
  some_later_tail_gives [] h = let z : ◌≡◌ {A = ℕ} 0 1 = cc in absurd (omega arith)
  some_later_tail_gives (c ∷ s) h = some_tail_gives s h

  -- a longer string has the tails of a shorter one
  pub some_tail_longer : (s : List ℕ) (k : ℕ) → some_tail test (drop k s) ≡ true → some_tail test s ≡ true
  some_tail_longer s zero h = h
  some_tail_longer [] (suc k) h = h
  some_tail_longer (c ∷ s) (suc k) h = or_right (test (c ∷ s)) (some_tail test s) (some_tail_longer s k h)

  -- a byte of the mask takes a byte of the string
  pub byte_then_rest : (m : ℕ) (s : List ℕ) → byte_then m test s ≡ true → test (drop 1 s) ≡ true
  byte_then_rest m [] h = let z : ◌≡◌ {A = ℕ} 0 1 = cc in absurd (omega arith)
  byte_then_rest m (c ∷ s) h = (and_parts (eqb m any_byte || eqb m c) (test s) h).1
