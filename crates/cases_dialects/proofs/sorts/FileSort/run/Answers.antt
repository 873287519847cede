use Rattle.std.proofs.Common.{vec_items, rules}
use Rattle.cases.specs.Lefts.{parts_left}
use Rattle.cases_dialects.proofs.Stating.{stated}
use Rattle.cases_dialects.proofs.sorts.FileSort.run.Goals as goal

pub returns : goal.returns
returns c = record {
  memory = c.in_ok-count.count;
  bytes = vec_items c.in_ok-file.file;
  stated = c.in_ok-expected.expected;
  read = c.read.result;
  sized = search rules;
  filed = search rules;
  states = stated (parts_left c.args.words) (parts_left c.take_number.new.words) (parts_left c.take_bytes.new.words) c.expected.result c.in_ok-expected.expected
      c.in_ok-count.ensures.1 c.in_ok-file.ensures.1 c.expected.ensures c.in_ok-expected.ensures.ok_part;
  reads = search rules;
  compared = search rules;
}
