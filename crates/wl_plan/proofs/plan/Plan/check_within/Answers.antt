-- Each way out of the check is the first fault in their order, and without one the plan is checked.
use Rattle.std.proofs.Common.{◌≡◌, None, All, nat_lt, sym, subst}
use Rattle.std.specs.List.{position, enumerate_from}
use Rattle.wl_clock.specs.Timing.{IsTiming}
use Rattle.wl_segments.specs.Lengths.{AreLengths}
use Rattle.wl_node.specs.declared.setup.NodeSetup.{NodeSetup}
use Rattle.wl_limits.specs.Limits.{end_limit}
use Rattle.wl_plan.specs.Checked.{fault_within, has_wrong_nodes, has_many_quanta, has_long_queue, is_refused}
use Rattle.wl_plan.proofs.CheckProofs.{faultless, fault_of_queue, fault_of_disturbance}
use Rattle.wl_plan.proofs.plan.Plan.check_within.Goals as goal

pub returns-in-Some-first_with_long_queue-clause-fault : goal.returns-in-Some-first_with_long_queue-clause-fault
returns-in-Some-first_with_long_queue-clause-fault c =
    sym (fault_of_queue (has_wrong_nodes c.args.limits c.args.self.now) (nat_lt (end_limit c.args.limits) c.args.self.now.end) (position (has_many_quanta c.args.limits c.args.self.now.end) c.args.self.now.nodes)
    (position (has_long_queue c.args.queued) c.args.self.now.nodes) (position (is_refused c.args.limits c.args.self.now) (enumerate_from 0 c.args.self.now.disturbances))
    _ (cc) (cc) (cc) (cc))

pub returns-in-Some-first_refused-clause-fault : goal.returns-in-Some-first_refused-clause-fault
returns-in-Some-first_refused-clause-fault c =
    sym (fault_of_disturbance (has_wrong_nodes c.args.limits c.args.self.now) (nat_lt (end_limit c.args.limits) c.args.self.now.end) (position (has_many_quanta c.args.limits c.args.self.now.end) c.args.self.now.nodes)
    (position (has_long_queue c.args.queued) c.args.self.now.nodes) (position (is_refused c.args.limits c.args.self.now) (enumerate_from 0 c.args.self.now.disturbances))
    _ (cc) (cc) (cc) (cc) (cc))

none : (c : goal.In_default-first_refused) → fault_within c.args.limits c.args.queued c.args.self.now ≡ None
none c =
    faultless (has_wrong_nodes c.args.limits c.args.self.now) (nat_lt (end_limit c.args.limits) c.args.self.now.end) (position (has_many_quanta c.args.limits c.args.self.now.end) c.args.self.now.nodes)
    (position (has_long_queue c.args.queued) c.args.self.now.nodes) (position (is_refused c.args.limits c.args.self.now) (enumerate_from 0 c.args.self.now.disturbances))
    (record { right = (cc); early = (cc); few = (cc); short = (cc); accepted = (cc) })

pub returns-clause-fault : goal.returns-clause-fault
returns-clause-fault c = sym (none c)

pub returns-clause-checked : goal.returns-clause-checked
returns-clause-checked c =
    let timed : All (λ node. IsTiming node.clock) c.as_slice-nodes.result.now = c.in_default.ensures.clocks in
    let clocks : All (λ node. IsTiming node.clock) c.args.self.now.nodes = subst (All (λ (node : NodeSetup). IsTiming node.clock)) c.as_slice-nodes.ensures timed in
    let lengths : All (λ node. AreLengths node.segments) c.as_slice-nodes.result.now = c.in_default.ensures.segments in
    let segments : All (λ node. AreLengths node.segments) c.args.self.now.nodes = subst (All (λ (node : NodeSetup). AreLengths node.segments)) c.as_slice-nodes.ensures lengths in
    ((c.faultless_is_checked.ensures c.args.limits c.args.self.now c.args.queued c.requires clocks segments c.has_wrong_nodes.ensures.cable).0 (none c)).0
