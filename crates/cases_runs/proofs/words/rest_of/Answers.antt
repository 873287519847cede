use Rattle.std.proofs.Common.{◌++◌, string_bytes, ap, ◌∙◌}
use Rattle.cases.specs.Lefts.{parts_left}
use Rattle.cases_runs.proofs.Joining.{marked, first_word, next_word}
use Rattle.cases_runs.proofs.words.rest_of.Goals as goal

pub loop-word-init : goal.loop-word-init
loop-word-init c = record {
  can_next = tt;
  is_finite = tt;
  whole = ap (λ p. string_bytes c.push_word.new.text ++ marked 32 (parts_left p)) c.into_iter-word-iterator.ensures.into_iter_gives
      ∙ first_word 32 (string_bytes c.push_word.new.text) c.in_ok-take_word.field-0.now (parts_left c.take_word.new.words) (parts_left c.args.words)
      c.in_ok-take_word.ensures (c.in_ok-push_word.ensures ∙ ap (λ t. t ++ c.in_ok-take_word.field-0.now) c.new-text.ensures.bytes);
}

pub loop-word-preserved : goal.loop-word-preserved
loop-word-preserved c = record {
  can_next = tt;
  is_finite = tt;
  whole = next_word 32 (string_bytes c.loop-word.text) (string_bytes c.push_str.new.self) (string_bytes c.push_word-in-loop-word.new.text) c.in-Some.word.now _
      (parts_left c.loop-word.word-iterator) (parts_left c.next.new.self) c.in-Some.ensures.steps c.in_ok-push_str.ensures.bytes
      c.in_ok-push_word-2.ensures c.loop-word.invariant.whole;
}
