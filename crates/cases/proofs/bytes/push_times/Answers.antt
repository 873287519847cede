use Rattle.std.proofs.Common.{vec_items, ◌∙◌, arith}
use Rattle.cases.proofs.Piecing.{times_over, times_again}
use Rattle.cases.proofs.bytes.push_times.Goals as goal

pub returns-then-bytes-len : goal.returns-then-bytes-len
returns-then-bytes-len c =
    times_over _ _ _ c.loop-turn._turn c.args.count c.len.result
    (c.len.ensures ∙ c.loop-turn.out.ok.0) c.if-bytes-len.true c.loop-turn-test.true c.loop-turn.invariant.1

pub loop-turn-preserved : goal.loop-turn-preserved
loop-turn-preserved c = (
  omega (arith, c.in_ok-extend_from_slice.ensures.len, c.loop-turn.invariant.0, c.len.ensures),
  times_again (vec_items c.args.out.now) _ _ _ c.loop-turn._turn
      c.in_ok-extend_from_slice.ensures.items c.loop-turn.invariant.1,
)
