use Rattle.cases_kinds.proofs.sorts.KindSort.run_by.Goals as goal

pub returns-in-Number : goal.returns-in-Number
returns-in-Number g c = rw c.in-Number.is c.run_number.ensures

pub returns-in-Compare : goal.returns-in-Compare
returns-in-Compare g c = rw c.in-Compare.is c.run_compare.ensures
