use Rattle.std.proofs.Common.{◌≡◌, drop, Some, vec_items}
use Rattle.cases.specs.Bytes.{both, hex_bytes}
use Rattle.cases.proofs.Hexing.{chunk_bytes}
use Rattle.cases.proofs.bytes.hex.Given as goal

-- what is read so far and the pairs that are left make up the whole
abbrev pub invariant-loop-high : goal.invariant-loop-high
invariant-loop-high l = both (Some (vec_items l.bytes)) (chunk_bytes (drop l.high-index l.pairs)) ≡ hex_bytes l.digits
