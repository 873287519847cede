-- The numbers that are written already.
use Rattle.std.proofs.Common.{◌∷◌, take, decimal}
use Rattle.std.specs.Fmt.{HasWritten, IsPlainFormatter}
use Rattle.std.specs.List.{flat_map}
use Rattle.patterns.proofs.report.NumbersDisplay.fmt.Given as goal

abbrev pub invariant-loop-number : goal.invariant-loop-number
invariant-loop-number g l =
    IsPlainFormatter l.initial.f → HasWritten g.W.Write.write_str_gives l.initial.f (flat_map (λ k. 32 ∷ decimal k) (take l.number-index l.number-items)) l.f
