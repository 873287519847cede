use Rattle.std.proofs.Common.{◌≡◌, get_or, sym, rules}
use Rattle.cases.proofs.Numbering.{signed_none}
use Rattle.cases.proofs.numeral.number.Goals as goal

pub returns-in-43 : goal.returns-in-43
returns-in-43 c =
    let plus : get_or c.args.word.now 0 0 ≡ 43 = search rules in
    sym (signed_none c.args.word.now plus)
