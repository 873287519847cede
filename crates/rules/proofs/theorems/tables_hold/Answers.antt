-- There is one lawful table, and no other.
use Rattle.rules.proofs.Agree.{one_table}
use Rattle.rules.proofs.Rounds.{some_table}
use Rattle.rules.proofs.theorems.tables_hold.Goals as goal

pub returns : goal.returns
returns g c = record { one = one_table _; some = some_table _ }
