use Rattle.std.proofs.Common.{sym, ◌∙◌, arith}
use Rattle.std.proofs.lemmas.Bool.{eqb-false}
use Rattle.kinds.proofs.Wholes.{digits_taken, has_places, is_long}
use Rattle.kinds.proofs.whole.whole_of.Goals as goal
use Rattle.kinds.proofs.whole.whole_of.Goals.{then-not-is_empty-via-then-not-is_empty, then-not-is_empty-via-else-not-is_empty+then-plain-gt16}

pub returns-then-not-is_empty : goal.returns-then-not-is_empty
returns-then-not-is_empty c =
    let p = c.in_ok-plain.plain in
    elim c.then-not-is_empty.branch [
      | then-not-is_empty-via-then-not-is_empty w ↦
          let some = eqb-false _ _ (sym c.is_empty.ensures ∙ w.if-not-is_empty.true) in
          has_places c.args.token.now p.minus p.int.now p.places.now c.in_ok-plain.ensures (omega arith)
      | then-not-is_empty-via-else-not-is_empty+then-plain-gt16 w ↦ is_long c.args.token.now p.minus p.int.now p.places.now c.in_ok-plain.ensures w.if-plain-gt16.true
    ]

pub number_of-magnitude-requires : goal.number_of-magnitude-requires
number_of-magnitude-requires c =
    let p = c.in_ok-plain.plain in
    (digits_taken c.args.token.now p.minus p.int.now p.places.now c.in_ok-plain.ensures, omega (arith, c.if-plain-gt16.false))
