-- The rows so far are written, and their places known.
use Rattle.std.proofs.Common.{◌≡◌, length, take}
use lib.Seq.{paste}
use Rattle.rules.specs.Clear.{clearing, begun}
use Rattle.clearing.proofs.writing.write_rows.Given as goal

abbrev pub invariant-loop-r : goal.invariant-loop-r
invariant-loop-r l =
    (l.out ≡ paste l.initial.out 0 (clearing l.d begun (take l.r l.rows)).written (length (clearing l.d begun (take l.r l.rows)).written))
    × (l.count ≡ length (clearing l.d begun (take l.r l.rows)).written)
    × (take l.r l.places ≡ (clearing l.d begun (take l.r l.rows)).places)
