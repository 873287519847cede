-- Plain rows are counted.
use Rattle.std.proofs.Common.{rules}
use Rattle.clearing.proofs.Steps.{counted}
use Rattle.clearing.proofs.counting.cleared_count.Goals as goal

pub returns : goal.returns
returns c = counted c.args.d c.args.rows.now c.are_plain.result c.then.result c.are_plain.ensures c.then.ensures.variant (search rules)
