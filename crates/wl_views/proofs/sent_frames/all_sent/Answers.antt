use Rattle.std.proofs.Common.{◌≡◌, ◌∙◌, ◌++◌, ◌<◌, ap, ap₂, sym, arith, ℕ, List, length, take, get_or}
use Rattle.std.specs.List.{enumerate_from, flat_map}
use Rattle.std.proofs.lemmas.List.{get_or_default}
use Rattle.wl_frame.specs.Grammar.{Content}
use Rattle.wl_node.specs.declared.setup.NodeSetup.{NodeSetup}
use Rattle.wl_plan.specs.declared.plan.Plan.{Plan}
use Rattle.wl_plan.specs.PlanLine.{setup_at, no_setup}
use Rattle.wl_serial.specs.declared.outcome.NodeTotals.{NodeTotals}
use Rattle.wl_views.specs.SentFrames.{sent_by}
use Rattle.wl_views.proofs.Lists.{numbered}
use Rattle.wl_views.proofs.sent_frames.all_sent.Goals as goal

abbrev of_node : Plan → ℕ × NodeTotals → List (ℕ × Content)
of_node plan n = sent_by (setup_at plan n.0).clock n.1.frames

pub loop-i-preserved : goal.loop-i-preserved
loop-i-preserved c =
    let plan : Plan = c.args.plan.now in
    let nodes : List NodeTotals = c.args.totals.now in
    let i : ℕ = c.loop-i.i in
    let node : NodeTotals = c.index-totals-i.result in
    let is_node : i < length nodes = omega arith in
    let as_many = c.requires.nodes in
    let is_setup : i < length plan.nodes = omega arith in
    let setup : get_or c.as_slice-setups.result.now i c.index-setups-i.result ≡ setup_at plan i =
    ap (λ (xs : List NodeSetup). get_or xs i c.index-setups-i.result) c.as_slice-setups.ensures ∙ get_or_default plan.nodes i c.index-setups-i.result no_setup is_setup in
    c.in_ok-push_sent.ensures
    ∙ ap₂ (λ (s : NodeSetup) frames. c.loop-i.sent.items ++ sent_by s.clock frames) setup c.as_slice.ensures
    ∙ ap (λ ys. ys ++ sent_by (setup_at plan i).clock node.frames) c.loop-i.invariant
    ∙ ap (λ (n : NodeTotals). flat_map (of_node plan) (enumerate_from 0 (take i nodes)) ++ sent_by (setup_at plan i).clock n.frames)
    c.index-totals-i.is
    ∙ sym (numbered (of_node plan) nodes i node is_node)
