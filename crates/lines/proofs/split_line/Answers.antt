-- The cut at the first line end, or none.
use Rattle.lines.proofs.Cuts.{closed_line, open_line}
use Rattle.lines.proofs.split_line.Goals as goal

pub returns-in-Some : goal.returns-in-Some
returns-in-Some c some = closed_line c.args.bytes.now c.in-Some.end c.in-Some.ensures

pub returns-in-None : goal.returns-in-None
returns-in-None c some = open_line c.args.bytes.now some c.in-None.ensures
