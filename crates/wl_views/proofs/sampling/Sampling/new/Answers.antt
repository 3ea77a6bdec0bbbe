-- Nothing was seen.
use Rattle.std.proofs.Common.{◌≡◌, ◌∙◌, [], ap, subst, arith}
use Rattle.wl_node.specs.declared.setup.NodeSetup.{NodeSetup}
use Rattle.wl_node.proofs.Callers.{history_begins, none_yet}
use Rattle.wl_node.specs.History.{History}
use Rattle.wl_plan.specs.declared.plan.Plan.{Plan}
use Rattle.wl_plan.specs.PlanLine.{setup_at}
use Rattle.wl_plan.specs.Simulation.{seen}
use Rattle.wl_trace.specs.Rerun.{RunsAgain}
use Rattle.wl_trace.specs.Synced.{staying_syncs}
use Rattle.wl_trace.proofs.Callers.{syncs_first}
use Rattle.wl_views.proofs.Going.{setup_is}
use Rattle.wl_views.proofs.sampling.Sampling.new.Goals as goal

pub returns-clause-is : goal.returns-clause-is
unfolding seen
returns-clause-is c =
    let setup : c.index-as_slice-i.result ≡ setup_at c.args.plan.now c.args.i =
    c.index-as_slice-i.is ∙ setup_is c.args.plan.now c.as_slice.result.now c.args.i c.index-as_slice-i.result
    (c.as_slice.ensures ∙ ap (λ (p : Plan). p.nodes) c.deref.ensures.0) c.requires.node
    in
    record {
      node = subst (λ (s : NodeSetup). RunsAgain s [] c.in_ok-new.field-0) setup c.in_ok-new.ensures.runs;
      remembers = c.new.ensures c.args.plan.now c.args.i;
      before = λ q below. absurd (omega arith);
      next = omega arith;
      few = omega arith;
      inside = omega arith;
      stays = λ q from below. absurd (omega arith);
    }

pub returns-clause-none : goal.returns-clause-none
unfolding seen
returns-clause-none c = ap (λ (h : History). h.samples) (history_begins (setup_at c.args.plan.now c.args.i))

pub returns-clause-no_syncs : goal.returns-clause-no_syncs
unfolding seen
returns-clause-no_syncs c =
    let there : NodeSetup = setup_at c.args.plan.now c.args.i in ap (staying_syncs there) (none_yet there.until).there ∙ syncs_first there
