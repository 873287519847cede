use Rattle.std.proofs.Common.{◌≡◌, [], vec_items, string_bytes, rules, ◌∙◌}
use Rattle.cases.specs.Lefts.{parts_left}
use Rattle.cases_dialects.proofs.Asking.{told_same, one_left}
use Rattle.cases_dialects.proofs.sorts.run_match.Goals as goal

pub returns : goal.returns
returns c =
    let over : parts_left c.take_word.new.words ≡ [] = search rules in
    record {
      names = vec_items c.in_ok-names.names;
      masks = vec_items c.in_ok-masks.masks;
      text = vec_items c.in_ok-text.text;
      named = search rules;
      masked = search rules;
      asked = search rules;
      says = one_left (parts_left c.args.words) (parts_left c.take_bytes.new.words) (parts_left c.take_bytes-2.new.words) (parts_left c.take_bytes-3.new.words)
          (parts_left c.take_word.new.words) c.in_ok-bits.bits.now (string_bytes c.in_ok-expected.expected)
          c.in_ok-names.ensures.1 c.in_ok-masks.ensures.1 c.in_ok-text.ensures.1 c.in_ok-bits.ensures over
          (c.in_ok-expected.ensures.ok ∙ c.in_ok-from_utf8.ensures.cases.0);
      told = told_same _ _ _ _ _ _ _ _ _ c.as_slice.ensures.value c.as_slice-2.ensures.value c.as_slice-3.ensures.value c.in_ok-came.ensures;
    }
