-- What each way out has filled in.
use Rattle.std.proofs.Common.{refl, ap, arith, rules, length, length-append}
use Rattle.std.proofs.lemmas.Result.{err_from_is_err_and}
use Rattle.book_fields.specs.Fields.{tag_number}
use Rattle.book_files.specs.Drafts.{file}
use Rattle.book_files.proofs.Growing.{lists, field_refused, number_refused, row_refused, definition_refused, took_number, took_row, took_definition, all_filled, shorter}
use Rattle.book_files.proofs.filling.fill.Goals as goal
use Rattle.book_files.proofs.filling.fill.Goals.{in-Number+in_ok-put-in-Number, in-Row+in_ok-put-in-Row, in-Definition+in_ok-put-in-Definition}

pub overflow_sub-place : goal.overflow_sub-place
overflow_sub-place g c = omega (arith, ap length c.loop-rest.invariant.1.cut, length-append (file c.loop-rest.invariant.0) c.loop-rest.rest.now)

pub returns-in_err-field : goal.returns-in_err-field
returns-in_err-field g c =
    let p = err_from_is_err_and c.from_residual.result c.from_residual.ensures.1 in
    rw (p.1, p.2) (field_refused c.loop-rest.invariant c.in_err-field.field-0.0 (search rules) (rw c.from.ensures at c.in_err-field.ensures.takes))

pub returns-in_err-put-in-Number : goal.returns-in_err-put-in-Number
returns-in_err-put-in-Number g c =
    let p = err_from_is_err_and c.from_residual-in_err-put-in-Number.result c.from_residual-in_err-put-in-Number.ensures.1 in
    let taken = c.in_ok-field.ensures in
    rw (p.1, p.2)
    (number_refused c.loop-rest.invariant (search rules) c.in_ok-field.field (rw c.from.ensures at taken.takes) taken.cuts
    c.in_err-put-in-Number.field-0.0 (ap tag_number c.in-Number.is) (rw (c.number_of-number.ensures, c.is_full.ensures) at c.in_err-put-in-Number.ensures.puts.0))

pub returns-in_err-put-in-Row : goal.returns-in_err-put-in-Row
returns-in_err-put-in-Row g c =
    let p = err_from_is_err_and c.from_residual-in_err-put-in-Row.result c.from_residual-in_err-put-in-Row.ensures.1 in
    let taken = c.in_ok-field.ensures in
    rw (p.1, p.2)
    (row_refused c.loop-rest.invariant (search rules) c.in_ok-field.field (rw c.from.ensures at taken.takes) taken.cuts
    c.in_err-put-in-Row.field-0.0 (ap tag_number c.in-Row.is) (rw (c.row_of-row.ensures, c.as_slice.ensures, c.is_full-in-Row.ensures, c.len.ensures) at c.in_err-put-in-Row.ensures.puts.0))

pub returns-in_err-put-in-Definition : goal.returns-in_err-put-in-Definition
returns-in_err-put-in-Definition g c =
    let p = err_from_is_err_and c.from_residual-in_err-put-in-Definition.result c.from_residual-in_err-put-in-Definition.ensures.1 in
    let taken = c.in_ok-field.ensures in
    rw (p.1, p.2)
    (definition_refused c.loop-rest.invariant (search rules) c.in_ok-field.field (rw c.from.ensures at taken.takes) taken.cuts
    c.in_err-put-in-Definition.field-0.0 (ap tag_number c.in-Definition.is) (rw (c.definition_of-row.ensures, c.is_full-in-Definition.ensures, c.len-in-Definition.ensures) at c.in_err-put-in-Definition.ensures.puts.0))

pub loop-rest-preserved : goal.loop-rest-preserved
loop-rest-preserved g c =
    let field = c.in_ok-field.field in
    let taken = c.in_ok-field.ensures in
    let after = lists c.match-field.numbers c.match-field.rows c.match-field.definitions in
    elim c.match-field.branch [
      | in-Number+in_ok-put-in-Number w ↦ took_number c.loop-rest.invariant (search rules) field (rw c.from.ensures at taken.takes) taken.cuts (λ i. omega (arith, c.type_inv.bytes i)) after
          (ap tag_number w.in-Number.is) _ _ (rw (w.number_of-number.ensures, w.is_full.ensures) at w.in_ok-put-in-Number.ensures.puts) w.put.ensures.lent (rw (w.numbers-is, w.rows-is, w.definitions-is) refl)
      | in-Row+in_ok-put-in-Row w ↦ took_row c.loop-rest.invariant (search rules) field (rw c.from.ensures at taken.takes) taken.cuts (λ i. omega (arith, c.type_inv.bytes i)) after
          (ap tag_number w.in-Row.is) _ _ (rw (w.row_of-row.ensures, w.as_slice.ensures, w.is_full-in-Row.ensures, w.len.ensures) at w.in_ok-put-in-Row.ensures.puts) w.put-in-Row.ensures.lent
          (rw (w.numbers-is, w.rows-is, w.definitions-is) refl)
      | in-Definition+in_ok-put-in-Definition w ↦ took_definition c.loop-rest.invariant (search rules) field (rw c.from.ensures at taken.takes) taken.cuts (λ i. omega (arith, c.type_inv.bytes i)) after
          (ap tag_number w.in-Definition.is) _ _ (rw (w.definition_of-row.ensures, w.is_full-in-Definition.ensures, w.len-in-Definition.ensures) at w.in_ok-put-in-Definition.ensures.puts) w.put-in-Definition.ensures.lent
          (rw (w.numbers-is, w.rows-is, w.definitions-is) refl)
    ]

pub loop-rest-smaller : goal.loop-rest-smaller
loop-rest-smaller g c =
    let taken = c.in_ok-field.ensures in
    shorter c.loop-rest.invariant (search rules) c.in_ok-field.field (rw c.from.ensures at taken.takes) taken.cuts

pub returns : goal.returns
returns g c =
    let now = c.loop-rest.invariant.1 in
    all_filled c.loop-rest.invariant (search rules) _ _ _ c.len-2.ensures c.len-3.ensures c.len-4.ensures _ (let lent = now.numbers.lent.memory in search rules)
    (let lent = now.rows.lent.memory in search rules) (let lent = now.bodies.lent.memory in search rules)
