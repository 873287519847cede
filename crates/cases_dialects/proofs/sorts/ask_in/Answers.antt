use Rattle.std.proofs.Common.{take}
use Rattle.cases_dialects.proofs.Asking.{told_answers, told_refusal}
use Rattle.cases_dialects.proofs.sorts.ask_in.Goals as goal

pub returns-in-Ok : goal.returns-in-Ok
returns-in-Ok c = told_answers c.answer_bits.result _ _ _ _ _ _ _ (take c.in-Ok.first c.read_both.new.name_parts) (take c.in-Ok.second c.read_both.new.mask_parts) _ _
    c.in-Ok.ensures.2 c.in-Ok.ensures.3 c.new-first.ensures.0 c.new-first.ensures.1 c.new-second.ensures.0 c.new-second.ensures.1 c.answer_bits.ensures

pub returns-in-Err : goal.returns-in-Err
returns-in-Err c = told_refusal c.outcome_text.result _ _ _ _ _ c.in-Err.fault c.of_reading.result c.in-Err.ensures c.of_reading.ensures c.outcome_text.ensures.text
