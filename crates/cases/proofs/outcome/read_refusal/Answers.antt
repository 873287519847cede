use Rattle.cases.proofs.Refusing.{no_place, no_layer}
use Rattle.cases.proofs.outcome.read_refusal.Goals as goal

pub returns-in_err-number : goal.returns-in_err-number
returns-in_err-number c =
    rw c.from_residual.ensures (no_place _ _ c.next_is.ensures.after c.in_err-number.ensures)

pub returns-in_err-cause : goal.returns-in_err-cause
returns-in_err-cause c =
    rw c.from_residual-in_err-cause.ensures
    (no_layer _ _ _ c.next_is.ensures.after c.in_ok-number.ensures.2 c.in_err-cause.ensures)
