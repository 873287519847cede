use Rattle.std.proofs.lemmas.Result.{err_from_is_err_and}
use Rattle.cases_dialects.specs.Lines.{no_masks}
use Rattle.cases_dialects.proofs.sorts.read_both.Goals as goal

pub returns-in_err-second : goal.returns-in_err-second
returns-in_err-second c =
    let p = err_from_is_err_and c.from_residual-in_err-second.result c.from_residual-in_err-second.ensures.1 in
    rw (p.1, p.2) (no_masks c.in_ok-first.first c.in_ok-first.ensures.outcome c.in_err-second.ensures.outcome)
