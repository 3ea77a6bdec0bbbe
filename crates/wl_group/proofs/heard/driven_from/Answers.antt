-- One node that drives dominant is enough, and without one there is none.
use Rattle.std.proofs.Common.{◌≡◌, ◌-◌, ◌<◌, ◌&&◌, ◌∙◌, inl, inr, false, nat_le, sym, subst, length, arith}
use Rattle.wl_topology.specs.Delays.{delay_of}
use Rattle.wl_topology.proofs.Callers.{any_none}
use Rattle.wl_replica.specs.State.{slots_of}
use Rattle.wl_plan.specs.PlanLine.{line_of}
use Rattle.wl_plan.specs.Simulation.{level}
use Rattle.wl_group.proofs.HeardProofs.{driven_by_one, none_asked_yet, all_asked, next_inside, next_turn, asked_or_now}
use Rattle.wl_group.proofs.heard.driven_from.Goals as goal
use Rattle.wl_group.proofs.heard.driven_from.Goals.{Joined-lead-nodes, then-lead-nodes, else-lead-nodes}

-- the first one is a node
first_inside : (c : Joined-lead-nodes) → c.if-lead-nodes.first < c.nodes-nodes.result
first_inside c = elim c.if-lead-nodes.branch [
  | then-lead-nodes w ↦ omega (arith, w.first-is, w.if-lead-nodes.true)
  | else-lead-nodes w ↦ omega (arith, w.first-is, c.nodes-nodes.ensures.some)
]

pub loop-asked-init : goal.loop-asked-init
loop-asked-init c =
    let b = first_inside c in
    record {
      early = omega (arith, c.requires.early);
      inside = b;
      turn = inl (omega arith);
      sources = c.requires.sources;
      silent = λ u from until n _ asked. absurd (none_asked_yet c.if-lead-nodes.first c.nodes-nodes.result n b asked);
    }

pub heard_of-one-requires-clause-early : goal.heard_of-one-requires-clause-early
heard_of-one-requires-clause-early c =
    let inside : c.loop-asked.i < length c.args.plan.now.nodes = omega (arith, c.loop-asked.invariant.inside, c.nodes-nodes.ensures.value) in
    c.known_laws.ensures.place_known (length c.args.plan.now.nodes) (delay_of c.args.plan.now.topology) (slots_of c.args.replica.now) c.loop-asked.i c.args.j c.args.t inside c.requires.known

pub returns-then-one-clause-driven : goal.returns-then-one-clause-driven
returns-then-one-clause-driven c t from until =
    let l = line_of c.args.plan.now in
    let delay = delay_of c.args.plan.now.topology in
    let inside : c.loop-asked.i < length c.args.plan.now.nodes = omega (arith, c.loop-asked.invariant.inside, c.nodes-nodes.ensures.value) in
    driven_by_one c.driven_laws.ensures (length c.args.plan.now.nodes) delay (level l) c.loop-asked.i c.args.j t inside (c.heard_of-one.ensures.heard t from until ∙ c.if-one.true) ∙ sym c.if-one.true

pub loop-asked-preserved : goal.loop-asked-preserved
loop-asked-preserved c =
    let first = c.if-lead-nodes.first in
    let nodes = c.nodes-nodes.result in
    let i = c.loop-asked.i in
    let inside = c.loop-asked.invariant.inside in
    let turn = c.loop-asked.invariant.turn in
    let b = first_inside ((goal.at.loop-asked-preserved c).Joined-lead-nodes) in
    record {
      early = omega (arith, c.loop-asked.invariant.early, c.heard_of-one.ensures.until, c.min-until.ensures);
      inside = next_inside nodes i c.node_after-i.result inside c.node_after-i.ensures.next c.node_after-i.ensures.round;
      turn = next_turn first nodes c.loop-asked._asked i c.node_after-i.result b c.loop-asked-test.true inside turn c.node_after-i.ensures.next c.node_after-i.ensures.round;
      sources = c.heard_of-one.ensures.sources;
      silent = λ u from until n few asked. elim (asked_or_now first nodes c.loop-asked._asked i n inside few turn asked) [
        | inl same ↦
            let l = line_of c.args.plan.now in
            let delay = delay_of c.args.plan.now.topology in
            subst (λ m. (nat_le (delay m c.args.j) u && level l m (u - delay m c.args.j)) ≡ false) (sym same)
            (c.heard_of-one.ensures.heard u (omega (arith, from, c.heard_of-one.ensures.from)) (omega (arith, until, c.min-until.ensures)) ∙ c.if-one.false)
        | inr before ↦ c.loop-asked.invariant.silent u from (omega (arith, until, c.min-until.ensures)) n few before
      ];
    }

pub returns-clause-driven : goal.returns-clause-driven
returns-clause-driven c t from until =
    any_none (length c.args.plan.now.nodes)
    (λ n. nat_le (delay_of c.args.plan.now.topology n c.args.j) t && level (line_of c.args.plan.now) n (t - delay_of c.args.plan.now.topology n c.args.j))
    (λ n b. let few : n < c.nodes-nodes.result = omega (arith, b, c.nodes-nodes.ensures.value) in
    c.loop-asked.invariant.silent t from until n few (all_asked c.if-lead-nodes.first c.nodes-nodes.result c.loop-asked._asked n few c.loop-asked-test.false))
