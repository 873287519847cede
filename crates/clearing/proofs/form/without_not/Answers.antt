-- Each row is asked.
use Rattle.std.proofs.Common.{rules, tests}
use Rattle.std.proofs.lemmas.Iterator.{cases_from_all, YieldsList-from_slice}
use Rattle.clearing.proofs.Forms.{NoNot, SomeNot, told_of_all}
use Rattle.clearing.proofs.form.without_not.Goals as goal

pub returns : goal.returns
returns c = told_of_all c.args.rows.now c.all.result
    (cases_from_all _ _ _ NoNot SomeNot c.all.ensures.ran (YieldsList-from_slice c.args.rows.now cc) (λ x q k. search (rules, tests)) (λ x q k. search (rules, tests)))
