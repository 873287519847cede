-- One definition more, and its complement.
use Rattle.std.proofs.Common.{ℕ, rules}
use Rattle.rules.specs.Clear.{look_up}
use Rattle.clearing.proofs.Writes.{body_more}
use Rattle.clearing.proofs.writing.write_bodies.Goals as goal

pub loop-k-preserved : goal.loop-k-preserved
loop-k-preserved c =
    let i = c.loop-k.invariant in
    let lent = c.split_at_mut-bodies in
    let of : ℕ → _ = look_up c.args.places.now in
    record {
      bodies = body_more lent.result.0.now c.loop-k.bodies c.loop-k.k (λ b. (of b).positive) c.args.definitions.now c.body_rows-positive.result.0 0
          (search rules) (search rules) i.bodies c.body_rows-positive.ensures.positive;
      complements = body_more lent.result.1.now c.loop-k.complements c.loop-k.k (λ b. (of b).negative) c.args.definitions.now c.body_rows-positive.result.1 0
          (search rules) (search rules) i.complements c.body_rows-positive.ensures.negative;
    }
