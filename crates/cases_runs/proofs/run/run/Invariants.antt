use Rattle.std.proofs.Common.{vec_items, string_bytes}
use Rattle.cases.specs.Tallies.{sum}
use Rattle.cases_runs.proofs.Lining.{Onward}
use Rattle.cases_runs.proofs.run.run.Given as goal

-- what is run from here on is run from the start
abbrev pub invariant-loop-i : goal.invariant-loop-i
invariant-loop-i g l = record {
  can_next : (goal.iterator-loop-i g).can_next l.i-iterator;
  is_finite : (goal.iterator-loop-i g).is_finite l.i-iterator;
  onward : Onward g.S.Sort.sorts g.S.Sort.word g.S.Sort.comes (sum l.i-iterator.count 1) l.i-iterator.iter.rest.now (vec_items l.report.tallies) (string_bytes l.report.text)
      l.input (vec_items l.initial.report.tallies) (string_bytes l.initial.report.text);
}
