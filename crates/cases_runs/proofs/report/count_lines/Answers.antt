use Rattle.std.proofs.Common.{◌≡◌, ◌++◌, get_or, string_bytes, rules}
use Rattle.cases.specs.Tallies.{no_cases}
use Rattle.cases_runs.specs.Reports.{name_at, count_line}
use Rattle.cases_runs.proofs.Reporting.{lines_more, lines_done}
use Rattle.cases_runs.proofs.report.count_lines.Goals as goal

pub loop-place-preserved : goal.loop-place-preserved
loop-place-preserved g c =
    let wrote :
    string_bytes c.writeln.new.self
    ≡ string_bytes c.loop-place.text ++ count_line c.name_at-name.result.now (get_or c.args.tallies.now c.loop-place.place no_cases) = search rules in
    lines_more (name_at g.S.Sort.sorts g.S.Sort.word) (string_bytes c.loop-place.text) c.name_at-name.result.now (string_bytes c.writeln.new.self) _ no_cases c.args.tallies.now
    c.loop-place.place c.loop-place-test.true c.name_at-name.ensures wrote c.loop-place.invariant

pub returns : goal.returns
returns g c =
    lines_done (name_at g.S.Sort.sorts g.S.Sort.word) (string_bytes c.loop-place.text) _ c.args.tallies.now c.loop-place.place c.loop-place-test.false c.loop-place.invariant
