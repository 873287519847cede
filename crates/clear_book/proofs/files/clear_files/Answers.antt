-- A file is refused, or the cleared book does not fit, or it is there.
use Rattle.clear_book.proofs.Handing.{book_sealed, ends_patterns, ends_book, ends_unfit, ends_cleared}
use Rattle.clear_book.proofs.files.clear_files.Goals as goal

pub returns-in_err-patterns : goal.returns-in_err-patterns
returns-in_err-patterns g c =
    ends_patterns g.K.Number.kind c.args.files c.args.memory.now c.in_err-patterns.field-0.0 c.from_residual.result c.in_err-patterns.ensures c.from_residual.ensures.1

pub returns-in_err-book : goal.returns-in_err-book
returns-in_err-book g c =
    ends_book g.K.Number.kind c.args.files c.args.memory.now c.in_ok-patterns.patterns c.in_ok-patterns.ensures c.in_err-book.field-0.0 c.from_residual-in_err-book.result
    c.in_err-book.ensures c.from_residual-in_err-book.ensures.1

pub cleared-requires : goal.cleared-requires
cleared-requires g c =
    book_sealed g.K.Number.kind c.args.files c.args.memory.now c.in_ok-patterns.patterns c.in_ok-patterns.ensures c.in_ok-book.book c.in_ok-book.ensures

pub returns-in_err-cleared : goal.returns-in_err-cleared
returns-in_err-cleared g c =
    ends_unfit g.K.Number.kind c.args.files c.args.memory.now c.in_ok-patterns.patterns c.in_ok-patterns.ensures c.in_ok-book.book c.in_ok-book.ensures
    c.in_err-cleared.field-0.0 c.from_residual-in_err-cleared.result c.in_err-cleared.ensures c.from_residual-in_err-cleared.ensures.1

pub returns : goal.returns
returns g c =
    ends_cleared g.K.Number.kind c.args.files c.args.memory.now c.in_ok-patterns.patterns c.in_ok-patterns.ensures c.in_ok-book.book c.in_ok-book.ensures
    c.in_ok-cleared.field-0 c.in_ok-cleared.ensures
