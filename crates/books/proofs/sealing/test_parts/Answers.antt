-- One test after another.
use Rattle.std.proofs.Common.{length, rules}
use Rattle.books.specs.Drafts.{limits_in}
use Rattle.books.specs.Tests.{counted_row, definition_test, variable_test}
use Rattle.books.proofs.Keeping.{passes_then}
use Rattle.books.proofs.sealing.test_parts.Goals as goal

pub returns : goal.returns
returns g c =
    let limits = limits_in g.K.Number.kind c.args.limits in
    let rows = c.in_ok-test_each.ensures (counted_row limits) (λ i x t lt gives. search rules) in
    let definitions = c.in_ok-test_each-2.ensures (definition_test (length c.args.draft.rows.now)) (λ i x t lt gives. search rules) in
    let variables = c.test_each-3.ensures (variable_test (length c.args.draft.definitions.now)) (λ i x t lt gives. search rules) in
    passes_then _ _ _ (search rules) (passes_then _ _ _ rows (passes_then _ _ _ definitions (passes_then _ _ _ (search rules) variables)))
