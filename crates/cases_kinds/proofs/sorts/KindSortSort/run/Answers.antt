use Rattle.cases.specs.Lefts.{parts_left}
use Rattle.cases_runs.specs.declared.kind.NumberKind.TheVariants.{Whole, Decimal}
use Rattle.cases_kinds.proofs.Lining.{by_kind}
use Rattle.cases_kinds.proofs.sorts.KindSortSort.run.Goals as goal

pub returns-in-Whole : goal.returns-in-Whole
returns-in-Whole c =
    by_kind c.run_by.result Whole c.in_ok-take_kind.field-0 c.args.self (parts_left c.args.words) (parts_left c.take_kind.new.words)
    c.in-Whole.is c.in_ok-take_kind.ensures c.run_by.ensures

pub returns-in-Decimal : goal.returns-in-Decimal
returns-in-Decimal c =
    by_kind c.run_by-in-Decimal.result Decimal c.in_ok-take_kind.field-0 c.args.self (parts_left c.args.words) (parts_left c.take_kind.new.words)
    c.in-Decimal.is c.in_ok-take_kind.ensures c.run_by-in-Decimal.ensures
