-- Where the book fits it is written, and where only its rows do it is refused.
use Rattle.std.proofs.Common.{length, Some, Ok, Err, sym, subst, rules}
use Rattle.std.proofs.lemmas.Bool.{leb-true, leb-false}
use Rattle.books.specs.Drafts.{drafted}
use Rattle.books.specs.Guard.{book_of}
use Rattle.clearing.specs.declared.fault.ClearFault.TheVariants.{TooManyDefinitions}
use Rattle.clearing.specs.Counting.{RowsCount}
use Rattle.clearing.specs.Outcomes.{memory_of}
use Rattle.clearing.proofs.Sealing.{seals, too_many_definitions, written}
use Rattle.clearing.proofs.clear.Goals as goal

pub returns-then-not-fits-2 : goal.returns-then-not-fits-2
returns-then-not-fits-2 c =
    let book = drafted c.args.draft in
    let before = memory_of c.args.out.now in
    let n = c.in_ok-count.count in
    let counted : RowsCount (length book.definitions) book.rows (Some n) =
    subst (RowsCount (length book.definitions) book.rows) c.in_ok-count.ensures.ok_part c.cleared_count.ensures in
    let o = too_many_definitions book before n counted (leb-true _ _ (sym c.if-not-fits.ensures)) (leb-false _ _ (sym c.if-not-fits-2.ensures)) in
    record { outcome = o; sealed = seals book before before (Err TooManyDefinitions) o; lent = search rules }

pub returns : goal.returns
returns c =
    let book = drafted c.args.draft in
    let before = memory_of c.args.out.now in
    let n = c.in_ok-count.count in
    let counted : RowsCount (length book.definitions) book.rows (Some n) =
    subst (RowsCount (length book.definitions) book.rows) c.in_ok-count.ensures.ok_part c.cleared_count.ensures in
    let rows = c.write_rows.new.out in
    let definitions = c.write_bodies.new.out in
    let o = written book before n counted (leb-true _ _ (sym c.if-not-fits.ensures)) (leb-true _ _ (sym c.if-not-fits-2.ensures))
    rows definitions c.write_rows.new.places c.write_rows.ensures c.write_bodies.ensures in
    record { outcome = o; sealed = seals book before (book_of rows definitions) (Ok n) o; lent = search rules }
