-- What is printed, and what the rest of the input will add.
use Rattle.std.proofs.Common.{◌≡◌, ◌++◌, vec_items}
use Rattle.dialects.specs.Dialects.{answer}
use Rattle.patterns.specs.Report.{report}
use Rattle.patterns.proofs.report.report.Given as goal

abbrev pub invariant-loop-text : goal.invariant-loop-text
invariant-loop-text g l =
    let count = g.D.Dialect.count l.dialect in
    let test = answer count (g.D.Dialect.holds l.dialect) in
    vec_items l.out ++ report count test l.text-iterator.rest.now ≡ report count test l.input
