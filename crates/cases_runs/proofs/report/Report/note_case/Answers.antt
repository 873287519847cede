use Rattle.std.proofs.Common.{◌≡◌, ◌++◌, vec_items, string_bytes, rules}
use Rattle.cases_runs.specs.Reports.{differing_line}
use Rattle.cases_runs.proofs.Noting.{noted}
use Rattle.cases_runs.proofs.report.Report.note_case.Goals as goal

pub returns-in_ok-writeln : goal.returns-in_ok-writeln
returns-in_ok-writeln g c =
    let wrote :
    string_bytes c.writeln.new.self
    ≡ string_bytes c.args.self.now.text
    ++ differing_line c.name_at-name.result.now c.args.ran.now.number c.as_str-expected.result.now c.as_str-came.result.now = search rules in
    noted g.S.Sort.sorts g.S.Sort.word g.S.Sort.comes c.args.ran.now.place c.args.ran.now.number (string_bytes c.args.ran.now.case.expected) (string_bytes c.args.ran.now.case.came)
    (vec_items c.args.self.now.tallies) (vec_items c.count.new.self.tallies) (string_bytes c.args.self.now.text) (string_bytes c.writeln.new.self) c.differs-differs.result
    c.name_at-name.result.now c.as_str-expected.result.now c.as_str-came.result.now
    c.if-differs.true c.differs-differs.ensures c.count.ensures.tallies c.name_at-name.ensures c.as_str-expected.ensures.value c.as_str-came.ensures.value wrote
