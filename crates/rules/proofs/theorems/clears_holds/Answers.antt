-- The cleared book, row by row and as a whole.
use Rattle.rules.proofs.Cleared.{clears}
use Rattle.rules.proofs.Turns.{lays_out}
use Rattle.rules.proofs.theorems.clears_holds.Goals as goal

pub returns : goal.returns
returns c = record { rows = lays_out; book = clears }
