use Rattle.std.proofs.Common.{◌≡◌, ◌++◌, string_bytes}
use Rattle.cases.specs.Lefts.{parts_left}
use Rattle.cases.specs.Splits.{joined_by}
use Rattle.cases_runs.proofs.Joining.{marked}
use Rattle.cases_runs.proofs.words.rest_of.Given as goal

-- the text so far and the words that are left make up the whole
abbrev pub invariant-loop-word : goal.invariant-loop-word
invariant-loop-word l = record {
  can_next : (goal.iterator-loop-word).can_next l.word-iterator;
  is_finite : (goal.iterator-loop-word).is_finite l.word-iterator;
  whole : string_bytes l.text ++ marked 32 (parts_left l.word-iterator) ≡ joined_by 32 (parts_left l.fn.words);
}
