-- What each way out has filled in.
use Rattle.std.proofs.Common.{◌∙◌, length, ap, sym, arith, rules}
use Rattle.std.proofs.lemmas.List.{take-append-drop}
use Rattle.std.proofs.lemmas.Result.{err_from_is_err_and}
use Rattle.lists.specs.Lists.{values_of, spare_of, memory_of}
use Rattle.dialects.proofs.Filling.{shorter, one_more, all_filled, refused_here, full_here}
use Rattle.dialects.proofs.reading.fill.Goals as goal

pub returns-in_err-field : goal.returns-in_err-field
returns-in_err-field g c =
    let p = err_from_is_err_and c.from_residual.result c.from_residual.ensures.1 in
    rw (p.1, p.2)
    (refused_here g.S.Syntax.TAG c.args.bytes.now c.loop-rest.rest.now c.args.parts.now (values_of c.loop-rest.found) (spare_of c.loop-rest.found)
    (search rules) c.loop-rest.invariant.begun c.in_err-field.field-0.0 (search rules) c.in_err-field.ensures)

pub returns-in_err-ok_or : goal.returns-in_err-ok_or
returns-in_err-ok_or g c =
    let p = err_from_is_err_and c.from_residual-in_err-ok_or.result c.from_residual-in_err-ok_or.ensures.1 in
    let none = c.in_err-ok_or.ensures.ok_part in
    let full = rw none at c.push.ensures.does in
    let fault = rw none at c.in_err-ok_or.ensures.value in
    rw (p.1, p.2)
    (full_here g.S.Syntax.TAG c.args.bytes.now c.loop-rest.rest.now c.args.parts.now (values_of c.loop-rest.found) (spare_of c.loop-rest.found)
    (search rules) c.loop-rest.invariant.begun c.in_err-ok_or.field-0.0 (search rules) c.in_ok-field.ensures.0 (omega (arith, ap length c.new-found.ensures.1)) fault)

pub loop-rest-smaller : goal.loop-rest-smaller
loop-rest-smaller g c = shorter c.loop-rest.rest.now c.in_ok-field.field.rest.now _ c.in_ok-field.ensures.2 (search rules)

pub loop-rest-preserved : goal.loop-rest-preserved
loop-rest-preserved g c =
    let pushed = rw c.in_ok-ok_or.ensures.ok_part at c.push.ensures.does in
    record {
      begun = one_more g.S.Syntax.TAG c.args.bytes.now c.loop-rest.rest.now c.args.parts.now (values_of c.loop-rest.found) (spare_of c.loop-rest.found)
          (search rules) c.loop-rest.invariant.begun c.in_ok-field.field.body.now c.in_ok-field.field.rest.now (values_of c.push.new.self) (spare_of c.push.new.self)
          c.in_ok-field.ensures.0 c.in_ok-field.ensures.1 c.in_ok-field.ensures.2 (omega (arith, ap length c.new-found.ensures.1)) pushed.2 pushed.3;
      lent = search rules;
    }

pub returns : goal.returns
returns g c =
    all_filled g.S.Syntax.TAG c.args.bytes.now c.loop-rest.rest.now c.args.parts.now (values_of c.loop-rest.found) (spare_of c.loop-rest.found)
    (search rules) c.loop-rest.invariant.begun c.len.result _ (search rules) c.len.ensures
    (search rules ∙ sym (take-append-drop c.loop-rest.found.count (memory_of c.loop-rest.found)))
