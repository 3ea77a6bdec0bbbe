use Rattle.std.proofs.Common.{◌∙◌, ◌++◌, ap, string_bytes}
use Rattle.wl_report.specs.Report.{node_report_lines}
use Rattle.wl_report.proofs.Numbered.{piece_more}
use Rattle.wl_report.proofs.text.push_nodes.Goals as goal

pub loop-number-preserved : goal.loop-number-preserved
loop-number-preserved c =
    c.in_ok-push_node.ensures
    ∙ ap (λ n. string_bytes c.loop-number.text ++ node_report_lines (c.loop-number.number, n)) c.index-nodes-number.is
    ∙ piece_more node_report_lines (string_bytes c.args.text.now) (string_bytes c.loop-number.text) c.args.nodes.now c.loop-number.number
    c.index-nodes-number.result c.loop-number-test.true c.loop-number.invariant
