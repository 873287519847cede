-- The numbers that pass the test are filtered out of all.
use Rattle.std.proofs.Common.{ℕ, Bool, ◌∙◌, arith, rules}
use Rattle.std.proofs.lemmas.Iterator.{YieldsList-from_range, items_from_collect}
use Rattle.std.proofs.lemmas.Iterator.Consumers.{YieldsList-from_filter}
use Rattle.std.proofs.lemmas.Result.{IfOk-weaker}
use Rattle.dialects.specs.Dialects.{answer}
use Rattle.patterns.proofs.Shown.{filter_passing}
use Rattle.patterns.proofs.report.matching.Goals as goal

pub returns : goal.returns
returns g c =
    let count = g.D.Dialect.count c.args.dialect.now in
    let test : ℕ → Bool = λ k. answer count (g.D.Dialect.holds c.args.dialect.now) k c.args.text.now in
    IfOk-weaker c.collect.result _ _ (λ v e. e ∙ filter_passing test count)
    (items_from_collect c.collect.result c.collect.ensures.ran
    (YieldsList-from_filter _ test (YieldsList-from_range 0 c.pattern_count.result count c.filter.ensures.source (omega (arith, c.pattern_count.ensures.0)))
    c.filter.ensures.closure (λ x b q k. search rules)))
