-- Book E is sealed.
use Rattle.rules.proofs.Examples.{seals_e}
use Rattle.rules.proofs.theorems.example_is_sealed.Goals as goal

pub returns : goal.returns
returns c = seals_e
