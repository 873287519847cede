use Rattle.std.proofs.Common.{◌≡◌, ◌≤◌, Some, vec_items, vec_len}
use Rattle.cases.specs.Bytes.{longest, both, pieces_bytes}
use Rattle.cases.specs.Lefts.{parts_left}
use Rattle.cases.specs.Splits.{split}
use Rattle.cases.proofs.bytes.read_pieces.Given as goal

-- what is read so far and the pieces that are left make up the whole
abbrev pub invariant-loop-piece : goal.invariant-loop-piece
invariant-loop-piece l = record {
  can_next : (goal.iterator-loop-piece).can_next l.piece-iterator;
  is_finite : (goal.iterator-loop-piece).is_finite l.piece-iterator;
  within : vec_len l.bytes ≤ longest;
  whole : both (Some (vec_items l.bytes)) (pieces_bytes (parts_left l.piece-iterator)) ≡ pieces_bytes (split 46 l.word);
}
