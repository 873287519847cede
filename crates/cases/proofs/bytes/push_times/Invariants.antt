use Rattle.std.proofs.Common.{◌≡◌, ◌≤◌, ◌++◌, vec_items, vec_len}
use Rattle.cases.specs.Bytes.{longest, times}
use Rattle.cases.proofs.bytes.push_times.Given as goal

abbrev pub invariant-loop-turn : goal.invariant-loop-turn
invariant-loop-turn l =
    (vec_len l.out ≤ longest) × (vec_items l.out ≡ vec_items l.initial.out ++ times l._turn l.bytes)
