use Rattle.std.proofs.Common.{string_bytes}
use Rattle.cases.proofs.Showing.{text_more, text_done}
use Rattle.cases.proofs.bytes.hex_text.Goals as goal

pub loop-b-preserved : goal.loop-b-preserved
loop-b-preserved c =
    text_more (string_bytes c.loop-b.text) (string_bytes c.push.new.self) _ c.args.bytes.now c.loop-b.b-index
    c.hex_char.result c.hex_char-in-loop-b.result c.loop-b-test.true c.hex_char.ensures.0
    c.hex_char-in-loop-b.ensures.0 (c.push.ensures.ascii c.hex_char.ensures.1)
    (c.push-in-loop-b.ensures.ascii c.hex_char-in-loop-b.ensures.1) c.in_ok-push.ensures.bytes
    c.in_ok-push-2.ensures.bytes c.loop-b.invariant

pub returns : goal.returns
returns c = text_done _ c.args.bytes.now c.loop-b.b-index c.loop-b-test.false c.loop-b.invariant
