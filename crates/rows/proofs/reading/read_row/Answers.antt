-- The row that was read is the one whose bytes these are.
use Rattle.std.proofs.Common.{ap, ◌∙◌, arith}
use Rattle.rows.specs.Rows.{row_from_any}
use Rattle.rows.proofs.Readers.{row_read}
use Rattle.rows.proofs.reading.read_row.Goals as goal

pub returns : goal.returns
returns c = record {
  is = c.row.ensures ∙ ap row_from_any c.in_ok-fields_of.ensures.is;
  reads = row_read c.args.bytes.now c.in_ok-fields_of.field-0 c.row.result (λ i. omega (arith, c.type_inv.bytes i)) c.in_ok-fields_of.ensures.holds c.row.ensures;
}
