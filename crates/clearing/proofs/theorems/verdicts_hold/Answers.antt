-- The written book judges as the book does.
use Rattle.clearing.proofs.Sealing.{verdicts}
use Rattle.clearing.proofs.theorems.verdicts_hold.Goals as goal

pub returns : goal.returns
returns g c = verdicts _
