-- Each turn keeps what is known of the marks.
use Rattle.std.proofs.Common.{◌<◌, length, slice_index_or, None, sym, subst, ◌∙◌, []}
use Rattle.rules.specs.declared.row.Row.TheVariants.{True}
use Rattle.books.specs.Drafts.{drafted}
use Rattle.books.specs.Guard.{Marked}
use Rattle.books.specs.Spread.{seen, top, Spreading}
use Rattle.books.proofs.Needing.{defined_at, needs_at}
use Rattle.books.proofs.Spreads.{started, all_marked, top_inside, turn}
use Rattle.books.proofs.joined.JoinedDraft.mark_reached.Goals as goal

pub visit-requires : goal.visit-requires
visit-requires c = (started (drafted c.args.self.draft) c.args.start 2048 (seen c.args.search.now) c.requires.0 c.args.self.joined.few c.requires.1).0

pub loop-at-init : goal.loop-at-init
loop-at-init c =
    subst (Spreading (drafted c.args.self.draft) c.args.start []) (sym c.visit.ensures)
    (started (drafted c.args.self.draft) c.args.start 2048 (seen c.args.search.now) c.requires.0 c.args.self.joined.few c.requires.1).1

pub direct_needs-requires : goal.direct_needs-requires
direct_needs-requires c =
    defined_at (drafted c.args.self.draft) c.args.self.joined c.from.result True
    (rw (c.from.ensures, c.in-Some.ensures.1) (top_inside (drafted c.args.self.draft) c.args.start c.args.self.joined (seen c.loop-at.search) c.loop-at.invariant c.in-Some.ensures.0))

pub visit_any-requires : goal.visit_any-requires
visit_any-requires c =
    let book = drafted c.args.self.draft in
    let w = seen c.loop-at.search in
    let first = slice_index_or c.direct_needs.result 0 None in
    let second = slice_index_or c.direct_needs.result 1 None in
    let is_top = c.from.ensures ∙ c.in-Some.ensures.1 in
    let inside : c.from.result < length book.rows = rw is_top (top_inside book c.args.start c.args.self.joined w c.loop-at.invariant c.in-Some.ensures.0) in
    let needs = needs_at book c.from.result (top w) True _ is_top inside (c.direct_needs.ensures book.rows) in
    let t = turn book c.args.start c.args.self.joined w c.loop-at.invariant c.in-Some.ensures.0 first second needs (seen c.pop.new.self) c.in-Some.ensures.2 in
    t.first_room

pub visit_any-requires-in-Some : goal.visit_any-requires-in-Some
visit_any-requires-in-Some c =
    let book = drafted c.args.self.draft in
    let w = seen c.loop-at.search in
    let first = slice_index_or c.direct_needs.result 0 None in
    let second = slice_index_or c.direct_needs.result 1 None in
    let is_top = c.from.ensures ∙ c.in-Some.ensures.1 in
    let inside : c.from.result < length book.rows = rw is_top (top_inside book c.args.start c.args.self.joined w c.loop-at.invariant c.in-Some.ensures.0) in
    let needs = needs_at book c.from.result (top w) True _ is_top inside (c.direct_needs.ensures book.rows) in
    let t = turn book c.args.start c.args.self.joined w c.loop-at.invariant c.in-Some.ensures.0 first second needs (seen c.pop.new.self) c.in-Some.ensures.2 in
    t.second_room (seen c.visit_any.new.self) c.visit_any.ensures

pub loop-at-smaller : goal.loop-at-smaller
loop-at-smaller c =
    let book = drafted c.args.self.draft in
    let w = seen c.loop-at.search in
    let first = slice_index_or c.direct_needs.result 0 None in
    let second = slice_index_or c.direct_needs.result 1 None in
    let is_top = c.from.ensures ∙ c.in-Some.ensures.1 in
    let inside : c.from.result < length book.rows = rw is_top (top_inside book c.args.start c.args.self.joined w c.loop-at.invariant c.in-Some.ensures.0) in
    let needs = needs_at book c.from.result (top w) True _ is_top inside (c.direct_needs.ensures book.rows) in
    let t = turn book c.args.start c.args.self.joined w c.loop-at.invariant c.in-Some.ensures.0 first second needs (seen c.pop.new.self) c.in-Some.ensures.2 in
    t.fewer (seen c.visit_any.new.self) (seen c.visit_any-in-Some.new.self) c.visit_any.ensures c.visit_any-in-Some.ensures

pub loop-at-preserved : goal.loop-at-preserved
loop-at-preserved c =
    let book = drafted c.args.self.draft in
    let w = seen c.loop-at.search in
    let first = slice_index_or c.direct_needs.result 0 None in
    let second = slice_index_or c.direct_needs.result 1 None in
    let is_top = c.from.ensures ∙ c.in-Some.ensures.1 in
    let inside : c.from.result < length book.rows = rw is_top (top_inside book c.args.start c.args.self.joined w c.loop-at.invariant c.in-Some.ensures.0) in
    let needs = needs_at book c.from.result (top w) True _ is_top inside (c.direct_needs.ensures book.rows) in
    let t = turn book c.args.start c.args.self.joined w c.loop-at.invariant c.in-Some.ensures.0 first second needs (seen c.pop.new.self) c.in-Some.ensures.2 in
    t.keeps (seen c.visit_any.new.self) (seen c.visit_any-in-Some.new.self) c.visit_any.ensures c.visit_any-in-Some.ensures

pub returns : goal.returns
returns c =
    let book = drafted c.args.self.draft in
    subst (λ w. Marked book c.args.start w.marks) (sym c.in_default.ensures.1)
    (all_marked book c.args.start (seen c.loop-at.search) c.loop-at.invariant c.in_default.ensures.0)
