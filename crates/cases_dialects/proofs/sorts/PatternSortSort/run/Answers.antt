use Rattle.cases_dialects.proofs.sorts.PatternSortSort.run.Goals as goal

pub returns-in-File : goal.returns-in-File
returns-in-File c = rw c.in-File.is c.run.ensures

pub returns-in-Match : goal.returns-in-Match
returns-in-Match c = rw c.in-Match.is c.run_match.ensures
