use Rattle.std.proofs.Common.{◌∙◌, ◌++◌, ◌<◌, ap, arith, string_bytes, ℕ, List, length}
use Rattle.wl_report.proofs.Callers.{piece_more}
use Rattle.wl_serial.specs.declared.outcome.NodeTotals.{NodeTotals}
use Rattle.wl_traffic.specs.Causes.{deaf_line}
use Rattle.wl_traffic.proofs.causes.push_deaf_lines.Goals as goal

pub loop-k-preserved : goal.loop-k-preserved
loop-k-preserved c =
    let nodes : List NodeTotals = c.args.nodes.now in
    let k : ℕ = c.loop-k.k in
    let d : NodeTotals = c.index-nodes-k.result in
    let within : k < length nodes = omega (arith, c.loop-k-test.true) in
    let line = deaf_line c.args.names.now c.most_passed-most.result in
    c.in_ok-push_deaf_line.ensures
    ∙ ap (λ (n : NodeTotals). string_bytes c.loop-k.text ++ line (k, n)) c.index-nodes-k.is
    ∙ piece_more line (string_bytes c.args.text.now) (string_bytes c.loop-k.text) nodes k d within c.loop-k.invariant
