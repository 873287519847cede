-- A number that no tag has is misplaced.
use Rattle.std.proofs.Common.{refl}
use Rattle.book_fields.proofs.Placing.{no_tag}
use Rattle.book_fields.proofs.field.placed_tag.Goals as goal

pub returns-in_default-2 : goal.returns-in_default-2
returns-in_default-2 c = (no_tag c.args.number c.args.last c.in_default.ensures.1, refl)
