-- The one row that the search misses.
use Rattle.std.proofs.Common.{inl, inr}
use Rattle.book_lines.proofs.page.Page.write_operands.Goals as goal

pub returns-in-EveryMember : goal.returns-in-EveryMember
returns-in-EveryMember g c =
    elim c.in-EveryMember.is [ inl e ↦ rw e c.write-in-EveryMember.ensures | inr e ↦ rw e c.write-in-EveryMember.ensures ]
