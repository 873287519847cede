-- The file's fields are read; then it is tested as a whole.
use Rattle.std.proofs.Common.{sym, arith}
use Rattle.std.proofs.lemmas.List.{length-take-le}
use Rattle.std.proofs.lemmas.Result.{err_from_is_err_and}
use Rattle.book_files.specs.Drafts.{memory}
use Rattle.book_files.proofs.Whole.{within, whole_read, whole_refused}
use Rattle.book_files.proofs.reading.read_whole.Goals as goal

pub slice_bounds-draft-end : goal.slice_bounds-draft-end
slice_bounds-draft-end g c =
    (within g.K.Number.kind c.args.patterns (memory c.args.numbers.now c.args.rows.now c.args.definitions.now) c.args.bytes.now
    (memory c.fill.new.numbers c.fill.new.rows c.fill.new.definitions) c.in_ok-counts.counts c.in_ok-counts.ensures).1

pub slice_bounds-draft-end-2 : goal.slice_bounds-draft-end-2
slice_bounds-draft-end-2 g c =
    sym (length-take-le c.in_ok-counts.counts.rows c.fill.new.rows (within g.K.Number.kind c.args.patterns (memory c.args.numbers.now c.args.rows.now c.args.definitions.now) c.args.bytes.now
    (memory c.fill.new.numbers c.fill.new.rows c.fill.new.definitions) c.in_ok-counts.counts c.in_ok-counts.ensures).1)

pub slice_bounds-draft-end-3 : goal.slice_bounds-draft-end-3
slice_bounds-draft-end-3 g c =
    (within g.K.Number.kind c.args.patterns (memory c.args.numbers.now c.args.rows.now c.args.definitions.now) c.args.bytes.now
    (memory c.fill.new.numbers c.fill.new.rows c.fill.new.definitions) c.in_ok-counts.counts c.in_ok-counts.ensures).2

pub slice_bounds-draft-end-4 : goal.slice_bounds-draft-end-4
slice_bounds-draft-end-4 g c =
    sym (length-take-le c.in_ok-counts.counts.definitions c.fill.new.definitions (within g.K.Number.kind c.args.patterns (memory c.args.numbers.now c.args.rows.now c.args.definitions.now) c.args.bytes.now
    (memory c.fill.new.numbers c.fill.new.rows c.fill.new.definitions) c.in_ok-counts.counts c.in_ok-counts.ensures).2)

pub slice_bounds-limits-end : goal.slice_bounds-limits-end
slice_bounds-limits-end g c =
    (within g.K.Number.kind c.args.patterns (memory c.args.numbers.now c.args.rows.now c.args.definitions.now) c.args.bytes.now
    (memory c.fill.new.numbers c.fill.new.rows c.fill.new.definitions) c.in_ok-counts.counts c.in_ok-counts.ensures).0

pub slice_bounds-limits-end-2 : goal.slice_bounds-limits-end-2
slice_bounds-limits-end-2 g c =
    sym (length-take-le c.in_ok-counts.counts.numbers c.fill.new.numbers (within g.K.Number.kind c.args.patterns (memory c.args.numbers.now c.args.rows.now c.args.definitions.now) c.args.bytes.now
    (memory c.fill.new.numbers c.fill.new.rows c.fill.new.definitions) c.in_ok-counts.counts c.in_ok-counts.ensures).0)

pub test_end-requires : goal.test_end-requires
test_end-requires g c =
    let w = within g.K.Number.kind c.args.patterns (memory c.args.numbers.now c.args.rows.now c.args.definitions.now) c.args.bytes.now
    (memory c.fill.new.numbers c.fill.new.rows c.fill.new.definitions) c.in_ok-counts.counts c.in_ok-counts.ensures in
    (omega arith, omega (arith, w.3, length-take-le c.in_ok-counts.counts.rows c.fill.new.rows w.1, length-take-le c.in_ok-counts.counts.definitions c.fill.new.definitions w.2))

pub returns-in_err-test_end : goal.returns-in_err-test_end
returns-in_err-test_end g c =
    let p = err_from_is_err_and c.from_residual-in_err-test_end.result c.from_residual-in_err-test_end.ensures.1 in
    rw (p.1, p.2)
    (whole_refused g.K.Number.kind c.args.patterns (memory c.args.numbers.now c.args.rows.now c.args.definitions.now) c.args.bytes.now
    (memory c.fill.new.numbers c.fill.new.rows c.fill.new.definitions) c.in_ok-counts.counts c.in_err-test_end.field-0.0 (omega arith) c.in_ok-counts.ensures c.in_err-test_end.ensures)

pub returns : goal.returns
returns g c =
    whole_read g.K.Number.kind c.args.patterns (memory c.args.numbers.now c.args.rows.now c.args.definitions.now) c.args.bytes.now
    (memory c.fill.new.numbers c.fill.new.rows c.fill.new.definitions) c.in_ok-counts.counts _ (omega arith) c.in_ok-counts.ensures c.in_ok-test_end.ensures
