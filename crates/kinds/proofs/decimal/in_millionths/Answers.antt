use Rattle.std.proofs.Common.{arith}
use Rattle.kinds.proofs.Decimals.{int_small, scaled}
use Rattle.kinds.proofs.decimal.in_millionths.Goals as goal

pub overflow_mul-result : goal.overflow_mul-result
overflow_mul-result c = omega (arith, c.number_of.ensures, int_small c.args.int.now c.requires.0 c.requires.2)

pub overflow_mul-result-2 : goal.overflow_mul-result-2
overflow_mul-result-2 c =
    omega (arith, (scaled c.args.places.now c.number_of-2.result c.pow-scale.result c.requires.1 c.requires.3 c.number_of-2.ensures c.pow-scale.ensures).1)

pub overflow_add-result : goal.overflow_add-result
overflow_add-result c =
    omega (
      arith,
      c.number_of.ensures,
      int_small c.args.int.now c.requires.0 c.requires.2,
      (scaled c.args.places.now c.number_of-2.result c.pow-scale.result c.requires.1 c.requires.3 c.number_of-2.ensures c.pow-scale.ensures).1,
    )

pub returns : goal.returns
returns c =
    let part = scaled c.args.places.now c.number_of-2.result c.pow-scale.result c.requires.1 c.requires.3 c.number_of-2.ensures c.pow-scale.ensures in
    record {
      is = omega (arith, c.number_of.ensures, part.0);
      small = omega (arith, c.number_of.ensures, int_small c.args.int.now c.requires.0 c.requires.2, part.1);
    }
