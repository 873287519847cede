use Rattle.std.proofs.Common.{◌+◌, cond, rules, tests, arith}
use Rattle.std.proofs.lemmas.Iterator.{text_from_collect, YieldsList-from_map, YieldsList-from_range}
use Rattle.dialects.specs.Dialects.{answer}
use Rattle.cases_dialects.proofs.Answering.{as_bits}
use Rattle.cases_dialects.proofs.bits.answer_bits.Goals as goal

pub returns : goal.returns
returns g c =
    as_bits c.collect.result _ (g.D.Dialect.count c.args.dialect.now + 2)
    (text_from_collect _ c.collect.ensures.ran
    (YieldsList-from_map _ (λ k. cond (answer (g.D.Dialect.count c.args.dialect.now) (g.D.Dialect.holds c.args.dialect.now) k c.args.text.now) 49 48)
    (YieldsList-from_range 0 (c.pattern_count.result + 2) (g.D.Dialect.count c.args.dialect.now + 2) c.map.ensures.source (omega (arith, c.pattern_count.ensures.0))) c.map.ensures.closure (λ x r q k. search (rules, tests))))
