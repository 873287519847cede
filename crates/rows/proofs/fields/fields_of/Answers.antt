-- The fields that were read are those that the bytes hold.
use Rattle.std.proofs.Common.{◌≡◌, ◌+◌, ◌*◌, get_or, Some, refl, arith, rules}
use Rattle.rows.specs.Fields.{ends_from}
use Rattle.rows.proofs.Bytes.{fields_written, ends_written}
use Rattle.rows.proofs.fields.fields_of.Goals as goal

pub returns-clause-holds : goal.returns-clause-holds
returns-clause-holds c =
    let bs = c.args.bytes.now in
    let found : ends_from (get_or bs 1 0) (get_or bs 6 0 * 256 + get_or bs 7 0) (get_or bs 8 0 * 256 + get_or bs 9 0) ≡ Some c.in_ok-ends_of.field-0 = search rules in
    fields_written bs _ (search rules) (λ i. omega (arith, c.type_inv.bytes i)) refl c.word.ensures c.word-2.ensures (ends_written _ _ _ _ found)
