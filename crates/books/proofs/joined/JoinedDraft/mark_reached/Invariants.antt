-- Marks spread from the start.
use Rattle.std.proofs.Common.{[]}
use Rattle.books.specs.Drafts.{drafted}
use Rattle.books.specs.Spread.{seen, left, Spreading}
use Rattle.books.proofs.joined.JoinedDraft.mark_reached.Given as goal

abbrev pub invariant-loop-at : goal.invariant-loop-at
invariant-loop-at l = Spreading (drafted l.self.draft) l.start [] (seen l.search)

abbrev pub decreases-loop-at : goal.decreases-loop-at
decreases-loop-at l = left (seen l.search)
