-- From the book's own number on it is a complement.
use Rattle.std.proofs.Common.{◌≡◌, ◌-◌, arith}
use Rattle.std.proofs.lemmas.Bool.{le-ltb}
use Rattle.book_lines.proofs.page.Page.write_definition.Goals as goal

pub returns-in-Some : goal.returns-in-Some
returns-in-Some g c =
    let of : c.args.k - c.args.own ≡ c.in-Some.of = omega arith in
    rw (le-ltb c.args.k c.args.own (omega arith), of) c.writeln-in-Some.ensures
