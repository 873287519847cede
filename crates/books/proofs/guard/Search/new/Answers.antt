-- Nothing is marked at first.
use Rattle.std.proofs.Common.{refl, rules}
use Rattle.books.proofs.Spreads.{blank}
use Rattle.books.proofs.guard.Search.new.Goals as goal

pub returns : goal.returns
returns c = (search rules, search rules, refl, blank 2048)
