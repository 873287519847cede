-- At the end of the string, what is left of the mask decides.
use Rattle.std.proofs.Common.{◌∙◌, rules}
use Rattle.dialects.proofs.Walks.{at_end}
use Rattle.dialects.proofs.matcher.mask_matches.Goals as goal

pub returns : goal.returns
returns c = at_end c.loop-at.at c.only_stars.result (search rules) c.loop-at.invariant.0 c.only_stars.ensures ∙ c.loop-at.invariant.1
