-- The book that is false, with its complement, is a cleared one.
use Rattle.std.proofs.Common.{arith}
use Rattle.clearing.proofs.Forms.{nothing_sealed, nothing_form, view_cleared}
use Rattle.clearing.proofs.cleared.Cleared.accepting_nothing.Goals as goal

pub invariant_of-result : goal.invariant_of-result
invariant_of-result c = let form = nothing_form c.seal.result (c.seal.ensures.same (nothing_sealed _ (omega arith))) in record { without = form.0; even = form.1 }

pub returns : goal.returns
returns c =
    let is = c.seal.ensures.same (nothing_sealed _ (omega arith)) in
    record { nothing = is; cleared = view_cleared c.seal.result (nothing_form c.seal.result is) }
