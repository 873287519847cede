-- What the file comes to is told and left.
use Rattle.std.proofs.Common.{sym, refl, rules}
use Rattle.book_files.specs.Drafts.{memory, held}
use Rattle.book_files.proofs.Whole.{told_refused, told_read}
use Rattle.book_files.proofs.reading.read_book.Goals as goal

pub returns-then-is_err : goal.returns-then-is_err
returns-then-is_err g c =
    let t = told_refused g.K.Number.kind c.args.patterns (held c.args.memory.now) c.args.bytes.now
    (memory c.read_whole-read.new.numbers c.read_whole-read.new.rows c.read_whole-read.new.definitions) (memory c.erase.new.numbers c.erase.new.rows c.erase.new.definitions)
    c.read_whole-read.result (sym c.if-is_err.ensures.value) c.read_whole-read.ensures (search rules) (search rules) (search rules) c.erase.ensures in
    record { reads = t.0; granted = t.1; lent = record { numbers = refl; rows = refl; definitions = refl } }

pub returns-else-is_err : goal.returns-else-is_err
returns-else-is_err g c =
    let t = told_read g.K.Number.kind c.args.patterns (held c.args.memory.now) c.args.bytes.now
    (memory c.read_whole-read.new.numbers c.read_whole-read.new.rows c.read_whole-read.new.definitions)
    c.read_whole-read.result (sym c.if-is_err.ensures.value) c.read_whole-read.ensures in
    record { reads = t.0; granted = t.1; lent = record { numbers = refl; rows = refl; definitions = refl } }
