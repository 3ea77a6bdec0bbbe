use Rattle.std.proofs.Common.{◌≡◌, ◌∙◌, ◌++◌, ◌<◌, ap, arith, zero-add, string_bytes, ℕ, List, length, get_or}
use Rattle.std.proofs.lemmas.List.FromFn.{get_or-map-range_with_len, length-map-range_with_len}
use Rattle.wl_margin.proofs.Callers.{each_more}
use Rattle.wl_margin.specs.Pieces.{each_below}
use Rattle.wl_plan.specs.declared.plan.Plan.{Plan}
use Rattle.wl_traffic.specs.declared.queues.NodeQueue.{NodeQueue}
use Rattle.wl_traffic.specs.Entries.{node_queue, node_queues}
use Rattle.wl_traffic.specs.Messages.{node_lines}
use Rattle.wl_traffic.proofs.messages.push_messages.Goals as goal

-- there are as many queues as nodes
count : (plan : Plan) (queues : List NodeQueue) → queues ≡ node_queues plan → length queues ≡ length plan.nodes
count plan queues e = ap length e ∙ length-map-range_with_len (node_queue plan) 0 (length plan.nodes)

pub push_node-requires-clause-node : goal.push_node-requires-clause-node
push_node-requires-clause-node c = omega (arith, c.loop-i-test.true, count c.args.plan.now c.args.queues.now c.requires)

pub push_node-requires-clause-queue : goal.push_node-requires-clause-queue
push_node-requires-clause-queue c =
    let plan : Plan = c.args.plan.now in
    let i : ℕ = c.loop-i.i in
    let d : NodeQueue = c.index-queues-i.result in
    let within : i < length plan.nodes = omega (arith, c.loop-i-test.true, count plan c.args.queues.now c.requires) in
    c.index-queues-i.is ∙ ap (λ (qs : List NodeQueue). get_or qs i d) c.requires
    ∙ get_or-map-range_with_len (node_queue plan) 0 (length plan.nodes) i i d within (zero-add i)

pub loop-i-preserved : goal.loop-i-preserved
loop-i-preserved c =
    each_more (node_lines c.args.tick c.args.plan.now c.args.names.now) c.loop-i.i (string_bytes c.args.text.now) (string_bytes c.loop-i.text)
    (string_bytes c.push_node.new.text) c.loop-i.invariant c.in_ok-push_node.ensures

pub returns : goal.returns
returns c =
    let end : c.loop-i.i ≡ length c.args.plan.now.nodes = omega (arith, c.loop-i-test.false, count c.args.plan.now c.args.queues.now c.requires) in
    c.loop-i.invariant
    ∙ ap (λ (n : ℕ). string_bytes c.args.text.now ++ each_below (node_lines c.args.tick c.args.plan.now c.args.names.now) n) end
