-- One line more, and as the count of the lines never reaches 2^64, its number is one more too.
use Rattle.std.proofs.Common.{vec_items, string_bytes, ap, ◌∙◌, ◌≡◌, ◌+◌, ◌<◌, ◌^◌, length, inl, arith, rules}
use Rattle.lines.specs.Lines.{lines}
use Rattle.cases_runs.proofs.Lining.{begun, onward, finished, lines_at_most}
use Rattle.cases_runs.proofs.run.run.Goals as goal

pub loop-i-init : goal.loop-i-init
loop-i-init g c =
    let first = c.into_iter-i-iterator.result in
    let small : length c.args.input.now < 2 ^ 64 = search rules in
    let none : first.count ≡ 0 = ap (λ s. s.count) c.into_iter-i-iterator.ensures.into_iter_gives ∙ c.enumerate-i-items.ensures.count in
    let whole : first.iter.rest.now ≡ c.args.input.now =
    ap (λ s. s.iter.rest.now) c.into_iter-i-iterator.ensures.into_iter_gives ∙ ap (λ s. s.rest.now) c.enumerate-i-items.ensures.source ∙ c.of.ensures in
    let few : first.count + length (lines first.iter.rest.now) < 2 ^ 64 = omega (arith, none, small, ap length whole, lines_at_most first.iter.rest.now) in
    record {
      can_next = (tt, tt, inl few);
      is_finite = tt;
      onward = begun g.S.Sort.sorts g.S.Sort.word g.S.Sort.comes first.count first.iter.rest.now c.args.input.now
          (vec_items c.in_ok-report.report.tallies) (string_bytes c.in_ok-report.report.text) none whole;
    }

pub loop-i-preserved : goal.loop-i-preserved
loop-i-preserved g c = record {
  can_next = search rules;
  is_finite = tt;
  onward = onward g.S.Sort.sorts g.S.Sort.word g.S.Sort.comes c.in-Some.i c.loop-i.i-iterator.count c.next.new.self.count c.loop-i.i-iterator.iter.rest.now
      c.in-Some.line.now c.next.new.self.iter.rest.now c.args.input.now (vec_items c.loop-i.report.tallies) (vec_items c.take_line.new.report.tallies)
      (vec_items c.in_ok-report.report.tallies) (string_bytes c.loop-i.report.text) (string_bytes c.take_line.new.report.text)
      (string_bytes c.in_ok-report.report.text) (search rules) c.in_ok-take_line.ensures c.loop-i.invariant.onward;
}

pub returns : goal.returns
returns g c =
    finished g.S.Sort.sorts g.S.Sort.word g.S.Sort.comes _ c.loop-i.i-iterator.iter.rest.now c.args.input.now
    (vec_items c.loop-i.report.tallies) (vec_items c.in_ok-report.report.tallies) (string_bytes c.loop-i.report.text)
    (string_bytes c.in_ok-report.report.text) _ (search rules) c.loop-i.invariant.onward
    c.in_ok-report.ensures.0 c.in_ok-report.ensures.1 c.in_ok-finish.ensures
