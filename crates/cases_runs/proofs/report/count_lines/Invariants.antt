use Rattle.std.proofs.Common.{◌≡◌, ◌++◌, drop, string_bytes}
use Rattle.cases_runs.specs.Reports.{name_at, count_lines}
use Rattle.cases_runs.proofs.report.count_lines.Given as goal

-- the lines so far and those to come make up the whole
abbrev pub invariant-loop-place : goal.invariant-loop-place
invariant-loop-place g l =
    string_bytes l.text ++ count_lines (name_at g.S.Sort.sorts g.S.Sort.word) l.place (drop l.place l.tallies)
    ≡ string_bytes l.initial.text ++ count_lines (name_at g.S.Sort.sorts g.S.Sort.word) 0 l.tallies
