-- One more definition, at each step of the fold.
use Rattle.std.proofs.Common.{length, refl, arith, rules}
use Rattle.std.proofs.iter.Yields.{nat_range_steps}
use Rattle.std.proofs.lemmas.Fn.{fold_over}
use Rattle.std.proofs.lemmas.Iterator.{YieldsList-from_range}
use Rattle.books.specs.Drafts.{drafted}
use Rattle.books.proofs.Cycles.{Best, none_yet, next_best, finds}
use Rattle.books.proofs.joined.JoinedDraft.lowest_cycle.Goals as goal

pub returns : goal.returns
returns c =
    let book = drafted c.args.self.draft in
    let n = length book.definitions in
    let places = YieldsList-from_range {s = record { start = 0; end = n }} 0 n n refl (omega arith) in
    finds book c.args.self.joined c.fold.result
    (fold_over nat_range_steps (λ d. d) _ (Best book) _ (λ ds a d b f' best k. let next = next_best book ds d a in search rules)
    _ _ _ _ places.runs (none_yet book) c.fold.ensures.ran)
