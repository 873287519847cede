use Rattle.std.proofs.Common.{nat_abs, ap, ◌∙◌, w64}
use Rattle.std.proofs.lemmas.Int.{to_z-of_z}
use Rattle.kinds.proofs.Integers.{by_magnitudes, times_told, zero_told}
use Rattle.kinds.proofs.integer.is_multiple.Goals as goal

pub returns : goal.returns
returns c =
    let x = c.args.x in
    let q = c.args.q in
    let told =
    zero_told _ _ c.is_multiple_of.ensures
    ∙ by_magnitudes x q _ _ (c.unsigned_abs.ensures.value ∙ ap nat_abs (to_z-of_z w64 x c.ranges.x))
    (c.unsigned_abs-2.ensures.value ∙ ap nat_abs (to_z-of_z w64 q c.ranges.q)) in
    record { is = told; times = times_told x q _ told }
