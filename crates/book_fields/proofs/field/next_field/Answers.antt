-- A field that passes is what the bytes begin with.
use Rattle.std.proofs.Common.{arith, rules}
use Rattle.book_fields.specs.Fields.{tag_number}
use Rattle.book_fields.proofs.Cutting.{cut_is}
use Rattle.book_fields.proofs.field.next_field.Goals as goal

pub returns-clause-cuts : goal.returns-clause-cuts
returns-clause-cuts c =
    let field = c.in_ok-field.field in
    cut_is c.args.bytes.now field.body.now field.rest.now (tag_number c.in_ok-tag.tag) (search rules) (omega (arith, c.type_inv.bytes 2)) (search rules) (search rules) (search rules)
