-- Five rows at most are added for each.
use Rattle.std.proofs.Common.{◌≡◌, sum_by, arith, rules}
use Rattle.clearing.specs.Counting.{added_length}
use Rattle.clearing.proofs.Steps.{counts_few}
use Rattle.clearing.proofs.counting.count_all.Goals as goal

pub overflow_add-result : goal.overflow_add-result
overflow_add-result c =
    let rows = c.args.rows.now in
    let total : c.sum.result ≡ sum_by added_length rows = search rules in
    omega (arith, total, counts_few rows)
