-- What has been written of a cleared book.
use Rattle.std.proofs.Common.{◌≡◌, ℕ, ◌+◌, ◌-◌, ◌<◌, ◌≤◌, List, [], ◌∷◌, ◌++◌, map, length, get_or, take, drop, set, sym, refl, ap, ◌∙◌, ap₂, add-one, arith, length-append, take-suc-set}
use lib.Seq.{paste}
use Rattle.std.proofs.lemmas.List.{get_or-map, length-map, drop-drop, drop_at}
use Rattle.std.proofs.lemmas.List.Edits.{paste_more, paste_all, paste-paste}
use Rattle.rules.specs.declared.place.Place.{Place}
use Rattle.rules.specs.declared.row.Row.{Row}
use Rattle.rules.specs.declared.row.Row.TheVariants.{True}
use Rattle.rules.specs.Clear.{Added, adds, look_up, clearing, begun}
use Rattle.rules.proofs.Standing.{row_more}
use Rattle.clearing.specs.Writing.{written_over}

module _ {A : Type 0} (E : List A) where
  pub over_all : (s : List A) (n : ℕ) → n ≡ length s → paste E 0 s n ≡ written_over s E
  over_all s n e = let same : 0 + n ≡ length s = omega arith in paste_all E 0 s n e ∙ ap (λ k. s ++ drop k E) same

  -- what was written before, and is written over again, doesn't matter
  pub over_front : (out a s : List A) → out ≡ paste E 0 a (length a) → length a ≤ length s → written_over s out ≡ written_over s E
  over_front out a s e h =
      let on : length s ≡ length a + (length s - length a) = omega arith in
      ap (λ xs. s ++ xs)
      (ap₂ drop on (e ∙ over_all a (length a) refl)
      ∙ sym (drop-drop (length s - length a) (length a) (a ++ drop (length a) E))
      ∙ ap (drop (length s - length a)) (drop_at a (drop (length a) E) (length a) refl)
      ∙ drop-drop (length s - length a) (length a) E
      ∙ ap (λ k. drop k E) (sym on))

-- one definition more
pub body_more : (E out : List ℕ) (k : ℕ) (f : ℕ → ℕ) (definitions : List ℕ) (v x : ℕ) → k < length definitions → length definitions ≤ length E →
    out ≡ paste E 0 (map f definitions) k → v ≡ f (get_or definitions k x) → set out k v ≡ paste E 0 (map f definitions) (k + 1)
body_more E out k f definitions v x h room e is =
    let at : k ≡ 0 + k = omega arith in
    ap₂ (λ o w. set o k w) e (is ∙ sym (get_or-map f definitions k x 0 h))
    ∙ ap (λ j. set (paste E 0 (map f definitions) k) j (get_or (map f definitions) k 0)) at
    ∙ paste_more E 0 (map f definitions) k 0 (omega arith) (omega (arith, length-map definitions f))

-- one row more
module _ (d : ℕ) (rows : List Row) (r count : ℕ) (places : List Place) (new : Added)
    (counted : count ≡ length (clearing d begun (take r rows)).written) (placed : take r places ≡ (clearing d begun (take r rows)).places)
    (here : r < length rows) (is : new ≡ adds (look_up (take r places)) d count (get_or rows r True)) where
  is_next : clearing d begun (take (r + 1) rows)
      ≡ record { written = (clearing d begun (take r rows)).written ++ new.rows; places = (clearing d begun (take r rows)).places ++ (new.stands ∷ []) }
  is_next = row_more d rows r True here
      ∙ ap (λ a. record { written = (clearing d begun (take r rows)).written ++ a.rows; places = (clearing d begun (take r rows)).places ++ (a.stands ∷ []) })
      (sym (is ∙ ap₂ (λ ps s. adds (look_up ps) d s (get_or rows r True)) placed counted))

  pub count_next : count + length new.rows ≡ length (clearing d begun (take (r + 1) rows)).written
  count_next = omega (arith, ap (λ c. length c.written) is_next, length-append (clearing d begun (take r rows)).written new.rows)

  pub rows_next : (E out after : List Row) → out ≡ paste E 0 (clearing d begun (take r rows)).written (length (clearing d begun (take r rows)).written) →
      after ≡ paste out count new.rows (length new.rows) →
      after ≡ paste E 0 (clearing d begun (take (r + 1) rows)).written (length (clearing d begun (take (r + 1) rows)).written)
  rows_next E out after before put =
      let W = (clearing d begun (take r rows)).written in
      let from : count ≡ 0 + length W = omega arith in
      put
      ∙ ap₂ (λ o k. paste o k new.rows (length new.rows)) before from
      ∙ paste-paste E 0 W new.rows (length W) (length new.rows) refl refl (omega arith)
      ∙ ap₂ (λ s n. paste E 0 s n) (sym (ap (λ c. c.written) is_next)) (ap (λ k. k + length new.rows) (sym counted) ∙ count_next)

  pub places_next : r < length places → take (r + 1) (set places r new.stands) ≡ (clearing d begun (take (r + 1) rows)).places
  places_next l = ap (λ k. take k (set places r new.stands)) (add-one r) ∙ take-suc-set places r new.stands l ∙ ap (λ ps. ps ++ (new.stands ∷ [])) placed
      ∙ sym (ap (λ c. c.places) is_next)
