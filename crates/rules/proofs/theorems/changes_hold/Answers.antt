-- A change is seen at its node and above.
use Rattle.rules.proofs.Elsewhere.{stays_elsewhere, renews}
use Rattle.rules.proofs.theorems.changes_hold.Goals as goal

pub returns : goal.returns
returns g c = record { elsewhere = stays_elsewhere _; renewed = renews _ }
