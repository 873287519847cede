-- Some patterns are filled in, and the file goes on behind them.
use Rattle.std.proofs.Common.{length}
use Rattle.lists.specs.Lists.{values_of, spare_of, Lent}
use Rattle.dialects.proofs.Filling.{Begun}
use Rattle.dialects.proofs.reading.fill.Given as goal

abbrev pub invariant-loop-rest : goal.invariant-loop-rest
invariant-loop-rest g l = record {
  begun : Begun g.S.Syntax.TAG l.bytes l.rest l.fn.parts (values_of l.found) (spare_of l.found);
  lent : Lent l.initial.found l.found;
}

abbrev pub decreases-loop-rest : goal.decreases-loop-rest
decreases-loop-rest g l = length l.rest
