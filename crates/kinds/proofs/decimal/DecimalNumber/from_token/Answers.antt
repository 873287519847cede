use Rattle.std.proofs.Common.{refl}
use Rattle.numbers.specs.Reading.{fixed}
use Rattle.numbers.specs.Values.{MeansDecimal}
use Rattle.numbers.proofs.Decimals.{decimal_reads, decimal_keeps}
use Rattle.numbers.proofs.Held.{held_reads, held_keeps}
use Rattle.kinds.specs.Decimals.{a_decimal, as_fixed}
use Rattle.kinds.proofs.decimal.DecimalNumber.from_token.Goals as goal

pub returns : goal.returns
returns c = record {
  is = c.decimal_of.ensures;
  means = held_reads fixed a_decimal as_fixed MeansDecimal (λ x. refl) decimal_reads c.args.token.now c.decimal_of.result c.decimal_of.ensures;
  kept = held_keeps fixed a_decimal as_fixed (λ x. refl) decimal_keeps c.args.token.now c.decimal_of.result c.decimal_of.ensures;
}
