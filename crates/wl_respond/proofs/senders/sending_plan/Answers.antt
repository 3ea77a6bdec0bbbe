use Rattle.std.proofs.Common.{◌≡◌, ◌∙◌, ap, sym, subst, List, ◌++◌, arith}
use Rattle.wl_node.specs.declared.setup.NodeSetup.{NodeSetup}
use Rattle.wl_plan.specs.declared.plan.Plan.{Plan}
use Rattle.wl_plan.specs.Checked.{IsChecked}
use Rattle.wl_respond.specs.Senders.{senders, sending_plan}
use Rattle.wl_respond.proofs.Sending.{is_checked}
use Rattle.wl_respond.proofs.senders.sending_plan.Goals as goal

pub of-requires : goal.of-requires
of-requires c =
    let plan = c.args.plan.now in
    let messages = c.args.messages.now in
    let old : c.as_slice.result.now ≡ plan.nodes = c.as_slice.ensures ∙ ap (λ (p : Plan). p.nodes) c.deref.ensures.0 in
    let nodes : senders messages 0 plan.nodes ≡ c.push_senders.new.nodes =
    sym (c.in_ok-push_senders.ensures ∙ ap (λ (x : List NodeSetup). x ++ senders messages 0 c.as_slice.result.now) c.new-nodes.ensures ∙ ap (senders messages 0) old) in
    let cable : plan.topology ≡ c.deref-2.result.now.topology = sym (ap (λ (p : Plan). p.topology) c.deref-2.ensures.0) in
    let none = sym c.new.ensures in
    let same : sending_plan plan messages ≡ record { nodes = c.push_senders.new.nodes; topology = c.deref-2.result.now.topology; disturbances = c.new.result; end = 0 } =
    λ k. record { nodes = nodes k; topology = cable k; disturbances = none k; end = 0 } in
    subst (λ (p : Plan). IsChecked p) same (is_checked messages plan c.deref-2.ensures.1 (omega arith))
