use Rattle.std.proofs.Common.{◌<◌, length, vec_items, sym, ◌∙◌, arith}
use Rattle.std.proofs.lemmas.Bool.{eqb-true, eqb-false}
use Rattle.std.proofs.lemmas.Result.{err_from_is_err_and}
use Rattle.cases.proofs.Reading.{refused}
use Rattle.cases.proofs.Hexing.{too_few, odd_end, pairs_whole, pair_more, pair_none, pairs_done}
use Rattle.cases.proofs.bytes.hex.Goals as goal
use Rattle.cases.proofs.bytes.hex.Goals.{then-is_empty-via-then-is_empty, then-is_empty-via-else-is_empty+then-not-is_empty}

pub returns-then-is_empty : goal.returns-then-is_empty
returns-then-is_empty c =
    elim c.then-is_empty.branch [
      | then-is_empty-via-then-is_empty w ↦
          too_few c.args.digits.now (sym c.as_chunks.ensures.front_len ∙ eqb-true (length c.as_chunks.result.0.now) 0 (sym w.if-is_empty.ensures))
      | then-is_empty-via-else-is_empty+then-not-is_empty w ↦
          odd_end c.args.digits.now
          (let left : 0 < length c.as_chunks.result.1.now = omega (arith, eqb-false (length c.as_chunks.result.1.now) 0 (sym w.if-not-is_empty.ensures)) in
          omega (arith, c.as_chunks.ensures.back_len))
    ]

pub loop-high-init : goal.loop-high-init
loop-high-init c =
    pairs_whole c.args.digits.now (vec_items c.new-bytes.result) c.as_chunks.result.0.now c.new-bytes.ensures.items c.as_chunks.ensures.front
    (omega (arith, c.as_chunks.ensures.front_len, eqb-false (length c.as_chunks.result.0.now) 0 (sym c.if-is_empty.ensures)))
    (sym c.as_chunks.ensures.back_len ∙ eqb-true (length c.as_chunks.result.1.now) 0 (sym c.if-not-is_empty.ensures))

pub loop-high-preserved : goal.loop-high-preserved
loop-high-preserved c =
    pair_more (vec_items c.loop-high.bytes) (vec_items c.push.new.self) c.as_chunks.result.0.now c.loop-high.high-index c.in_ok-ok_or.field-0 _
    c.loop-high-test.true (sym c.byte.ensures ∙ c.in_ok-ok_or.ensures.ok_part) c.in_ok-push.ensures.items c.loop-high.invariant

pub returns-in_err-ok_or : goal.returns-in_err-ok_or
returns-in_err-ok_or c =
    let p = err_from_is_err_and c.from_residual.result c.from_residual.ensures.1 in
    rw (p.1, p.2)
    (refused _ c.byte.result c.in_err-ok_or.field-0.0 c.in_err-ok_or.ensures.value c.in_err-ok_or.ensures.ok_part
    (pair_none (vec_items c.loop-high.bytes) c.as_chunks.result.0.now c.loop-high.high-index _ c.loop-high-test.true
    (sym c.byte.ensures ∙ c.in_err-ok_or.ensures.ok_part) c.loop-high.invariant))

pub returns : goal.returns
returns c = pairs_done (vec_items c.loop-high.bytes) c.as_chunks.result.0.now c.loop-high.high-index _ c.loop-high-test.false c.loop-high.invariant
