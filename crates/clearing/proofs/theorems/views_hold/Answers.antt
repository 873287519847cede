-- What was written is the cleared book, which is sealed as it stands.
use Rattle.clearing.proofs.Forms.{views_clear}
use Rattle.clearing.proofs.theorems.views_hold.Goals as goal

pub returns : goal.returns
returns g c = views_clear _
