-- By the rows that are false and true.
use Rattle.clearing.proofs.Forms.{accepts_nothing}
use Rattle.clearing.proofs.theorems.nothing_holds.Goals as goal

pub returns : goal.returns
returns g c = accepts_nothing _
