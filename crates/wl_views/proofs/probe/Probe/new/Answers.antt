use Rattle.std.proofs.Common.{◌≡◌, ◌∙◌, ap, subst, arith, []}
use Rattle.wl_node.specs.declared.setup.NodeSetup.{NodeSetup}
use Rattle.wl_plan.specs.declared.plan.Plan.{Plan}
use Rattle.wl_plan.specs.PlanLine.{setup_at}
use Rattle.wl_plan.specs.Simulation.{seen}
use Rattle.wl_trace.specs.Rerun.{IsRerun}
use Rattle.wl_views.specs.Probe.{next_of}
use Rattle.wl_views.proofs.Going.{setup_is}
use Rattle.wl_views.proofs.probe.Probe.new.Goals as goal

pub returns-clause-awaits : goal.returns-clause-awaits
unfolding seen
returns-clause-awaits c =
    let setup : c.index-as_slice-i.result ≡ setup_at c.args.plan.now c.args.i =
    c.index-as_slice-i.is ∙ setup_is c.args.plan.now c.as_slice.result.now c.args.i c.index-as_slice-i.result
    (c.as_slice.ensures ∙ ap (λ (p : Plan). p.nodes) c.deref.ensures.0) c.requires.node
    in
    let node : IsRerun (setup_at c.args.plan.now c.args.i) [] c.in_ok-node.node =
    subst (λ (s : NodeSetup). IsRerun s [] c.in_ok-node.node) setup c.in_ok-node.ensures.node
    in
    record {
      runs = record {
        node = node;
        snapshot = c.snapshot-snapshot.ensures (setup_at c.args.plan.now c.args.i) [] node;
        inside = λ m below. absurd (omega arith);
      };
      next = c.next_tick.ensures ∙ ap (λ (s : NodeSetup). next_of s.clock c.deref-2.result.now.end 0) setup
          ∙ ap (λ (p : Plan). next_of (setup_at c.args.plan.now c.args.i).clock p.end 0) c.deref-2.ensures.0;
      before = λ q below. absurd (omega arith);
      here = omega arith;
    }

pub returns-clause-remembers : goal.returns-clause-remembers
returns-clause-remembers c = c.new-2.ensures c.args.plan.now c.args.i
