-- The answer stays the same from step to step, and the steps run out.
use Rattle.std.proofs.Common.{◌≡◌}
use Rattle.dialects.specs.Cursors.{Sound, still, steps_left}
use Rattle.dialects.specs.Masks.{mask_holds}
use Rattle.dialects.proofs.matcher.mask_matches.Given as goal

abbrev pub invariant-loop-at : goal.invariant-loop-at
invariant-loop-at l = Sound l.at × (still l.at ≡ mask_holds l.mask l.text)

abbrev pub decreases-loop-at : goal.decreases-loop-at
decreases-loop-at l = steps_left l.at
