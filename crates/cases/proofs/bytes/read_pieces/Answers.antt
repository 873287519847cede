use Rattle.std.proofs.Common.{vec_items}
use Rattle.std.proofs.lemmas.Result.{err_from_is_err_and}
use Rattle.cases.specs.Lefts.{parts_left}
use Rattle.cases.proofs.Piecing.{piece_more, piece_broken}
use Rattle.cases.proofs.bytes.read_pieces.Goals as goal

pub loop-piece-preserved : goal.loop-piece-preserved
loop-piece-preserved c =
    let more =
    piece_more (vec_items c.loop-piece.bytes) c.in-Some.piece.now _ (parts_left c.next.new.self) _ _ _
    c.push_piece.new.out.ok.0 c.in-Some.ensures.steps c.in_ok-push_piece.ensures c.loop-piece.invariant.whole in
    record { can_next = tt; is_finite = tt; within = more.0; whole = more.1 }

pub returns-in_err-push_piece : goal.returns-in_err-push_piece
returns-in_err-push_piece c =
    let p = err_from_is_err_and c.from_residual.result c.from_residual.ensures.1 in
    rw (p.1, p.2)
    (piece_broken (vec_items c.loop-piece.bytes) c.in-Some.piece.now (parts_left c.next.new.self) _ _
    c.in_err-push_piece.field-0.0 c.push_piece.new.out c.in-Some.ensures.steps c.in_err-push_piece.ensures c.loop-piece.invariant.whole)
