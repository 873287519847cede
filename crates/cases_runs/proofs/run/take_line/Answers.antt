use Rattle.std.proofs.lemmas.Bool.{both_ways}
use Rattle.cases_runs.specs.Runs.{judged}
use Rattle.cases_runs.proofs.run.take_line.Goals as goal

pub returns-in_ok-note_case-in-Ok : goal.returns-in_ok-note_case-in-Ok
returns-in_ok-note_case-in-Ok g c =
    judged (λ remark. both_ways c.is_remark.result c.if-is_remark.false (c.is_remark.ensures.1 remark)) _ _ _ _ c.in-Ok.ensures c.in_ok-note_case-in-Ok.ensures
