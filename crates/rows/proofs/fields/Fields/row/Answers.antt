-- The answer at operator 2.
use Rattle.rows.proofs.fields.Fields.row.Goals as goal

pub returns-in-2 : goal.returns-in-2
returns-in-2 c = rw c.in-2.is c.alone-in-2.ensures
