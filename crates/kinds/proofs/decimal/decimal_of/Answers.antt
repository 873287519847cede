use Rattle.std.proofs.Common.{arith}
use Rattle.kinds.proofs.Decimals.{digits_taken}
use Rattle.kinds.proofs.decimal.decimal_of.Goals as goal

pub in_millionths-magnitude-requires : goal.in_millionths-magnitude-requires
in_millionths-magnitude-requires c =
    let p = c.in_ok-plain.plain in
    let digits = digits_taken c.args.token.now p.minus p.int.now p.places.now c.in_ok-plain.ensures in
    (digits.0, digits.1, omega (arith, c.if-plain-places-gt12.false), c.if-places-gt6.false)
