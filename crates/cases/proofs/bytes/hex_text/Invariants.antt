use Rattle.std.proofs.Common.{◌≡◌, ◌++◌, drop, string_bytes}
use Rattle.cases.specs.Bytes.{hex_text}
use Rattle.cases.proofs.bytes.hex_text.Given as goal

-- what is written so far and what is to come make up the whole
abbrev pub invariant-loop-b : goal.invariant-loop-b
invariant-loop-b l = string_bytes l.text ++ hex_text (drop l.b-index l.bytes) ≡ hex_text l.bytes
