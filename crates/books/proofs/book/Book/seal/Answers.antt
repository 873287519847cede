-- What passed the test is sealed, and so is the book that accepts nothing.
use Rattle.std.proofs.Common.{refl}
use Rattle.books.specs.Drafts.{drafted, limits_in}
use Rattle.books.specs.Sealing.{counts}
use Rattle.books.proofs.Keeping.{counts_pass, view_sealed}
use Rattle.books.proofs.book.Book.seal.Goals as goal

pub invariant_of-result : goal.invariant_of-result
invariant_of-result g c =
    let sealed = c.in_default.ensures.seals in
    record {
      passed = counts_pass (limits_in g.K.Number.kind c.args.limits) (drafted c.args.draft) sealed;
      guarded = sealed.guarded;
    }

pub returns-in-Err : goal.returns-in-Err
returns-in-Err g c =
    let b = c.accepting_nothing.result in
    record {
      same = λ sealed. elim (c.in-Err.ensures.seals sealed) [ ];
      nothing = λ _. c.accepting_nothing.ensures;
      sealed = view_sealed (counts b.patterns b.numbers) (drafted b.draft) b.passed b.guarded;
    }

pub returns : goal.returns
returns g c =
    let limits = limits_in g.K.Number.kind c.args.limits in
    let book = drafted c.args.draft in
    let sealed = c.in_default.ensures.seals in
    record {
      same = λ _. (refl, refl, refl, refl);
      nothing = λ not_sealed. absurd (not_sealed sealed);
      sealed = view_sealed (counts limits.patterns limits.numbers) book (counts_pass limits book sealed) sealed.guarded;
    }
