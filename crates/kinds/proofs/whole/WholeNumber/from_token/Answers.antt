use Rattle.std.proofs.Common.{refl}
use Rattle.numbers.specs.Reading.{whole}
use Rattle.numbers.specs.Values.{MeansWhole}
use Rattle.numbers.proofs.Held.{held_reads, held_keeps}
use Rattle.numbers.proofs.Wholes.{whole_reads, whole_keeps}
use Rattle.kinds.specs.Wholes.{a_whole, value}
use Rattle.kinds.proofs.whole.WholeNumber.from_token.Goals as goal

pub returns : goal.returns
returns c = record {
  is = c.whole_of.ensures;
  means = held_reads whole a_whole value MeansWhole (λ z. refl) whole_reads c.args.token.now c.whole_of.result c.whole_of.ensures;
  kept = held_keeps whole a_whole value (λ z. refl) whole_keeps c.args.token.now c.whole_of.result c.whole_of.ensures;
}
