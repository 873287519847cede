-- The rows so far are written, and their places known.
use Rattle.std.proofs.Common.{◌≡◌, ◌+◌, length, take, refl, ap, ◌∙◌, arith}
use lib.Seq.{paste}
use Rattle.std.proofs.lemmas.List.{take_all}
use Rattle.rules.specs.declared.row.Row.TheVariants.{True}
use Rattle.rules.specs.Clear.{fixed, clearing, begun}
use Rattle.clearing.specs.Adding.{listed}
use Rattle.clearing.specs.Writing.{written_over}
use Rattle.clearing.proofs.Steps.{part_short, plain_at}
use Rattle.clearing.proofs.Writes.{over_all, over_front, count_next, rows_next, places_next}
use Rattle.clearing.proofs.writing.write_rows.Goals as goal

pub put-requires : goal.put-requires
put-requires c = omega (arith, part_short c.args.d c.args.rows.now 0, c.requires.room)

pub overflow_cast-free : goal.overflow_cast-free
overflow_cast-free c = omega (arith, part_short c.args.d c.args.rows.now c.loop-r.r, c.requires.few_rows, c.loop-r.invariant.1)

pub invariant_of-free : goal.invariant_of-free
invariant_of-free c = omega (arith, part_short c.args.d c.args.rows.now c.loop-r.r, c.requires.few_rows, c.loop-r.invariant.1)

pub adds-new-requires-clause-plain : goal.adds-new-requires-clause-plain
adds-new-requires-clause-plain c = plain_at c.args.d c.args.rows.now c.loop-r.r True c.loop-r-test.true c.requires.plain

pub put-requires-in-loop-r : goal.put-requires-in-loop-r
put-requires-in-loop-r c =
    let i = c.loop-r.invariant in
    let next = count_next c.args.d c.args.rows.now c.loop-r.r c.loop-r.count c.loop-r.places (listed c.adds-new.result) i.1 i.2 c.loop-r-test.true c.adds-new.ensures in
    omega (arith, next, ap length c.as_slice-added.ensures, part_short c.args.d c.args.rows.now (c.loop-r.r + 1), c.requires.room, c.loop-r.auto.out, c.put.auto.out)

pub overflow_add-count : goal.overflow_add-count
overflow_add-count c =
    let i = c.loop-r.invariant in
    let next = count_next c.args.d c.args.rows.now c.loop-r.r c.loop-r.count c.loop-r.places (listed c.adds-new.result) i.1 i.2 c.loop-r-test.true c.adds-new.ensures in
    omega (arith, next, ap length c.as_slice-added.ensures, part_short c.args.d c.args.rows.now (c.loop-r.r + 1), c.requires.few_rows)

pub loop-r-preserved : goal.loop-r-preserved
loop-r-preserved c =
    let i = c.loop-r.invariant in
    let d = c.args.d in
    let rows = c.args.rows.now in
    let r = c.loop-r.r in
    let count = c.loop-r.count in
    let places = c.loop-r.places in
    let new = listed c.adds-new.result in
    let here = c.loop-r-test.true in
    let is : c.as_slice-added.result.now ≡ new.rows = c.as_slice-added.ensures in (
      rows_next d rows r count places new i.1 i.2 here c.adds-new.ensures c.put.new.out c.loop-r.out c.put-in-loop-r.new.out i.0
          (c.put-in-loop-r.ensures ∙ ap (λ xs. paste c.loop-r.out count xs (length xs)) is),
      omega (arith, count_next d rows r count places new i.1 i.2 here c.adds-new.ensures, ap length is),
      places_next d rows r count places new i.1 i.2 here c.adds-new.ensures (omega (arith, c.loop-r.auto.places, c.requires.places_room)),
    )

pub returns : goal.returns
returns c =
    let i = c.loop-r.invariant in
    let d = c.args.d in
    let rows = c.args.rows.now in
    let all : take c.loop-r.r rows ≡ rows = take_all c.loop-r.r rows c.loop-r-test.false in
    let ended : length rows ≡ c.loop-r.r = omega arith in
    record {
      written =
          i.0
          ∙ over_all c.put.new.out (clearing d begun (take c.loop-r.r rows)).written _ refl
          ∙ ap (λ xs. written_over (clearing d begun xs).written c.put.new.out) all
          ∙ over_front c.args.out.now c.put.new.out fixed (clearing d begun rows).written c.put.ensures (part_short d rows 0);
      placed = ap (λ k. take k c.loop-r.places) ended ∙ i.2 ∙ ap (λ xs. (clearing d begun xs).places) all;
    }
