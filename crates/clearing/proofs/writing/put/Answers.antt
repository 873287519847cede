-- The rows are pasted in.
use Rattle.std.proofs.Common.{length, refl, arith}
use Rattle.std.proofs.lemmas.Slice.{put_mid-paste}
use Rattle.clearing.proofs.writing.put.Goals as goal

pub returns : goal.returns
returns c = put_mid-paste c.args.at _ c.args.out.now _ c.args.rows.now (length c.args.rows.now) c.copy_from_slice.ensures.after (omega arith) refl
