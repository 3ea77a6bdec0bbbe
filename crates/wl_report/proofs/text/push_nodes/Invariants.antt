use Rattle.std.proofs.Common.{◌≡◌, ◌++◌, string_bytes, take}
use Rattle.std.specs.List.{flat_map, enumerate_from}
use Rattle.wl_report.specs.Report.{node_report_lines}
use Rattle.wl_report.proofs.text.push_nodes.Given as goal

-- the lines of the nodes so far come after the text
abbrev pub invariant-loop-number : goal.invariant-loop-number
invariant-loop-number l =
    string_bytes l.text ≡ string_bytes l.initial.text ++ flat_map node_report_lines (enumerate_from 0 (take l.number l.nodes))
