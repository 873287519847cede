-- What is marked is reached from the body.
use Rattle.books.specs.Drafts.{drafted}
use Rattle.books.proofs.Cycles.{first_cycle}
use Rattle.books.proofs.joined.JoinedDraft.lowest_variable.Goals as goal

pub mark_reached-requires : goal.mark_reached-requires
mark_reached-requires c = (c.args.self.joined.bodies c.args.definition c.requires, c.new-search.ensures)

pub returns : goal.returns
returns c = first_cycle (drafted c.args.self.draft) c.args.definition c.lowest_call.result c.mark_reached.new.search.marks c.mark_reached.ensures c.lowest_call.ensures
