-- Each row is asked.
use Rattle.std.proofs.Common.{rules, tests}
use Rattle.std.proofs.lemmas.Iterator.{cases_from_all, YieldsList-from_slice}
use Rattle.clearing.specs.Adding.{Plain}
use Rattle.clearing.proofs.Steps.{NotPlain, told_of_each}
use Rattle.clearing.proofs.counting.are_plain.Goals as goal

pub returns-then-rows-le-MOST_ROWS : goal.returns-then-rows-le-MOST_ROWS
returns-then-rows-le-MOST_ROWS c =
    let d = c.args.d in
    let rows = c.args.rows.now in
    told_of_each d rows c.all.result (search rules)
    (cases_from_all _ _ _ (Plain d) (NotPlain d) c.all.ensures.ran (YieldsList-from_slice rows cc) (λ x q k. search (rules, tests)) (λ x q k. search (rules, tests)))
