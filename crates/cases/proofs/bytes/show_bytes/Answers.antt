use Rattle.std.proofs.Common.{sym, arith}
use Rattle.std.proofs.lemmas.List.{nil_from_length}
use Rattle.std.proofs.lemmas.Bool.{eqb-true}
use Rattle.cases.proofs.Showing.{reads_back, shown_some}
use Rattle.cases.proofs.bytes.show_bytes.Goals as goal

pub returns-then-is_empty : goal.returns-then-is_empty
returns-then-is_empty c =
    record {
      value = rw (nil_from_length c.args.bytes.now (eqb-true _ 0 (sym c.if-is_empty.ensures))) c.from_str.ensures.ok;
      law = reads_back c.args.bytes.now (λ i. omega (arith, c.type_inv.bytes i));
    }

pub returns : goal.returns
returns c =
    record {
      value = rw (shown_some c.args.bytes.now (sym c.if-is_empty.ensures)) c.hex_text.ensures;
      law = reads_back c.args.bytes.now (λ i. omega (arith, c.type_inv.bytes i));
    }
