use Rattle.std.proofs.Common.{sym, ◌∙◌}
use Rattle.cases.proofs.Numbering.{parsed, text_of, none_of}
use Rattle.cases.proofs.numeral.unsigned.Goals as goal

pub returns-in_err-ok : goal.returns-in_err-ok
returns-in_err-ok c =
    c.from_residual.ensures ∙ sym (none_of _ _ c.args.word.now c.from_utf8.result (sym c.ok.ensures.value ∙ c.in_err-ok.was) c.from_utf8.ensures.cases)

pub returns : goal.returns
returns c =
    c.ok-2.ensures.value
    ∙ parsed c.args.word.now c.in_ok-ok.field-0.now _
    (text_of _ _ c.args.word.now c.from_utf8.result c.in_ok-ok.field-0 (sym c.ok.ensures.value ∙ c.in_ok-ok.was) c.from_utf8.ensures.cases)
    c.requires c.parse.ensures.value.0
