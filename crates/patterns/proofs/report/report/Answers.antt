-- One line more.
use Rattle.std.proofs.Common.{◌≡◌, ◌∷◌, vec_items, rules}
use Rattle.dialects.specs.Dialects.{answer}
use Rattle.lines.specs.Lines.{lines}
use Rattle.patterns.proofs.Shown.{report_more}
use Rattle.patterns.proofs.report.report.Goals as goal

pub loop-text-preserved : goal.loop-text-preserved
loop-text-preserved g c =
    let count = g.D.Dialect.count c.args.dialect.now in
    let cut : lines c.loop-text.text-iterator.rest.now ≡ c.in-Some.text.now ∷ lines c.next.new.self.rest.now = search rules in
    report_more count (answer count (g.D.Dialect.holds c.args.dialect.now))
    _ (vec_items c.loop-text.out) _ c.loop-text.text-iterator.rest.now c.in-Some.text.now c.next.new.self.rest.now _
    cut c.in_ok-matching.ensures c.in_ok-add_line.ensures c.loop-text.invariant
