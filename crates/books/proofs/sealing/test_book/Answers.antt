-- Testing comes to what the parts and the guard say.
use Rattle.std.proofs.lemmas.Result.{err_from_is_err_and}
use Rattle.books.specs.Drafts.{drafted, limits_in}
use Rattle.books.proofs.Keeping.{refused_by, passed_joined, unguarded_at, sealed_by, only_one}
use Rattle.books.proofs.sealing.test_book.Goals as goal

pub returns-in_err-test_parts : goal.returns-in_err-test_parts
returns-in_err-test_parts g c =
    let limits = limits_in g.K.Number.kind c.args.limits in
    let book = drafted c.args.draft in
    let p = err_from_is_err_and c.from_residual.result c.from_residual.ensures.1 in
    let t = refused_by limits book c.in_err-test_parts.field-0.0 c.in_err-test_parts.ensures in
    rw (p.1, p.2) (record { comes = t.0; only = λ other. only_one limits book _ other t.0; seals = t.1 })

pub invariant_of-joined : goal.invariant_of-joined
invariant_of-joined g c =
    record { joined = passed_joined (limits_in g.K.Number.kind c.args.limits) (drafted c.args.draft) c.in_ok-test_parts.ensures }

pub returns-in-Some : goal.returns-in-Some
returns-in-Some g c =
    let limits = limits_in g.K.Number.kind c.args.limits in
    let book = drafted c.args.draft in
    let t = unguarded_at limits book c.in-Some.row c.in_ok-test_parts.ensures c.in-Some.ensures in
    record { comes = t.0; only = λ other. only_one limits book _ other t.0; seals = t.1 }

pub returns-in-None : goal.returns-in-None
returns-in-None g c =
    let limits = limits_in g.K.Number.kind c.args.limits in
    let book = drafted c.args.draft in
    let t = sealed_by limits book c.in_ok-test_parts.ensures c.in-None.ensures in
    record { comes = t.0; only = λ other. only_one limits book _ other t.0; seals = t.1 }
