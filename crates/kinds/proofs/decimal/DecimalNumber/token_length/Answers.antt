use Rattle.std.proofs.Common.{◌≡◌, ◌/◌, ◌%◌, ◌^◌, length, nat_abs, decimal, ap, ◌∙◌, arith, w64, SFits, to_z, of_z, rules}
use Rattle.std.proofs.lemmas.Int.{to_z-of_z}
use Rattle.numbers.specs.Reading.{minus_of}
use Rattle.kinds.specs.Decimals.{as_fixed}
use Rattle.kinds.proofs.Decimals.{length_written, length_fraction}
use Rattle.kinds.proofs.decimal.DecimalNumber.token_length.Goals as goal

pub returns : goal.returns
returns c =
    let z = c.args.self.millionths in
    let part = nat_abs z % 10 ^ 6 in
    let fits : SFits w64 z = search rules in
    let same : to_z w64 (of_z w64 z) ≡ z = to_z-of_z w64 z fits in
    omega (
      arith,
      length_written (as_fixed c.args.self),
      c.minus_length.ensures ∙ ap (λ v. length (minus_of v)) same,
      ap length c.format.ensures.text ∙ ap (λ n. length (decimal (n / 10 ^ 6))) (c.unsigned_abs-ones.ensures.value ∙ ap nat_abs same),
      length_fraction c.args.self.places c.fraction_length.result part (c.fraction_length.ensures.is part) c.fraction_length.ensures.few,
    )
