-- Complements say the opposite.
use Rattle.rules.proofs.Clearing.{complement, judges}
use Rattle.rules.proofs.theorems.complements_hold.Goals as goal

pub returns : goal.returns
returns g c = record { rows = complement _; definitions = judges _ }
