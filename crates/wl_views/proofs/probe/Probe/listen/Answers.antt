-- What is heard anew leaves what the node has seen.
use Rattle.std.proofs.Common.{◌≡◌, ◌∙◌, ap, subst, arith, ℕ, ◌<◌}
use Rattle.wl_clock.specs.Timing.{tick_of}
use Rattle.wl_node.specs.declared.setup.NodeSetup.{NodeSetup}
use Rattle.wl_plan.specs.declared.plan.Plan.{Plan}
use Rattle.wl_plan.specs.PlanLine.{setup_at}
use Rattle.wl_views.proofs.Going.{setup_is}
use Rattle.wl_views.proofs.probe.Probe.listen.Goals as goal

pub returns-then-t-found-clause-hears : goal.returns-then-t-found-clause-hears
returns-then-t-found-clause-hears c =
    let old = c.requires.remembers in
    let e = c.found.ensures.until in
    let less = c.if-t-found.true in
    record { cable = old.cable (omega arith); disturbance = old.disturbance (omega arith); sources = old.sources }

pub returns-then-t-found-clause-limit : goal.returns-then-t-found-clause-limit
returns-then-t-found-clause-limit c = c.requires.limit (omega (arith, c.found.ensures.until, c.if-t-found.true))

pub returns-clause-limit : goal.returns-clause-limit
returns-clause-limit c q below =
    let plan : Plan = c.args.plan.now in
    let i : ℕ = c.args.i in
    let setup = setup_is plan c.as_slice.result.now i c.index-as_slice-i.result (c.as_slice.ensures ∙ ap (λ (p : Plan). p.nodes) c.deref.ensures.0) c.requires.node in
    let ends : c.deref-2.result.now.end ≡ plan.end = ap (λ (p : Plan). p.end) c.deref-2.ensures.0 in
    let early : tick_of (setup_at plan i).clock q < c.min.result = subst (λ (s : NodeSetup). tick_of s.clock q < c.min.result) setup (c.first_not_before-self.ensures.least q below) in
    omega (arith, c.min.ensures, c.found-2.ensures.until)

pub returns-clause-awaits : goal.returns-clause-awaits
returns-clause-awaits c old = record {
  runs = record { node = old.runs.node; snapshot = old.runs.snapshot; inside = old.runs.inside };
  next = old.next;
  before = old.before;
  here = old.here;
}
