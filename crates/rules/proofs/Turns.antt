-- The rows of a cleared book stand in turn.
use Rattle.std.proofs.Common.{◌≡◌, ℕ, ◌+◌, ◌<◌, length, get_or, drop, sym, refl, ap, ◌∙◌, arith, length-append}
use lib.ListN.{get_or-append}
use Rattle.std.proofs.lemmas.List.{take_all}
use Rattle.rules.specs.declared.row.Row.TheVariants.{False}
use Rattle.rules.specs.Book.{Book, row_at}
use Rattle.rules.specs.Clear.{fixed, adds, look_up, clearing, begun, place_of, positive_row, complement_row}
use Rattle.rules.specs.Theorems.{LaidOut, LaysOut}
use Rattle.rules.proofs.Founded.{WellFounded, founded}
use Rattle.rules.proofs.Standing.{row_more, written_grows, same_then, before, whole, operands_known, row_stands}
use Rattle.rules.proofs.Clearing.{two_bodies}

module _ (book : Book) (sealed : WellFounded book) where
  start : ℕ → ℕ
  start r = length (before book sealed r).written

  module _ (r : ℕ) (h : r < length book.rows) where
    goes_on : start (r + 1) ≡ start r + length (adds (place_of book) (length book.definitions) (start r) (row_at book r)).rows
    unfolding start
    goes_on =
        let d = length book.definitions in
        let c = before book sealed r in
        let same : adds (place_of book) d (length c.written) (row_at book r) ≡ adds (look_up c.places) d (length c.written) (row_at book r) =
        ap (λ e. adds (look_up e.places) d (length c.written) (row_at book r)) (whole book sealed r h) ∙ same_then d (row_at book r) (drop (r + 1) book.rows) c (operands_known book sealed r h) in
        ap (λ c. length c.written) (row_more d book.rows r False h)
        ∙ length-append c.written (adds (look_up c.places) d (length c.written) (row_at book r)).rows
        ∙ ap (λ a. length c.written + length a.rows) (sym same)

  laid_out : LaidOut book start
  unfolding start
  laid_out = record {
    begins = λ k h.
        let grown = written_grows (length book.definitions) book.rows begun in
        ap (λ rows. get_or rows k False) grown.1 ∙ get_or-append fixed grown.0 False k h;
    first = refl;
    each = λ r h. let here = row_stands book sealed r h in (here.placed, goes_on r h, here.reads);
    ends = ap (λ rows. length (clearing (length book.definitions) begun rows).written) (take_all (length book.rows) book.rows (omega arith));
    bodies = λ k h. two_bodies (positive_row book) (complement_row book) book.definitions k h;
  }

pub lays_out : LaysOut
lays_out limits book sealed = (start book (founded sealed), laid_out book (founded sealed))
