-- The bytes of a row's fields are the row's, and are read as that row.
use Rattle.std.proofs.Common.{ap, ◌∙◌}
use Rattle.rows.specs.Fields.{bytes_of}
use Rattle.rows.specs.Rows.{row_of}
use Rattle.rows.proofs.Back.{bytes_back}
use Rattle.rows.proofs.writing.write_row.Goals as goal

pub returns : goal.returns
returns c =
    let is = c.field_bytes.ensures ∙ ap bytes_of c.row_fields.ensures in
    record { is = is; back = λ ended. ap row_of is ∙ bytes_back c.args.row ended }
