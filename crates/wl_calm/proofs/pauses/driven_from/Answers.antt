-- One that is dominant is enough.
use Rattle.std.proofs.Common.{◌≡◌, ◌∙◌, ◌<◌, length, ap, sym, arith}
use Rattle.wl_topology.proofs.Callers.{any_from, any_none}
use Rattle.wl_plan.specs.declared.plan.Plan.{Plan}
use Rattle.wl_plan.specs.PlanLine.{line_of}
use Rattle.wl_plan.specs.Simulation.{level}
use Rattle.wl_calm.proofs.pauses.driven_from.Goals as goal

pub returns-then-held-clause-dominant : goal.returns-then-held-clause-dominant
returns-then-held-clause-dominant c = λ t from until.
    (let plan : Plan = c.args.plan.now in
    let all : length c.deref.result.now.nodes ≡ length plan.nodes = ap (λ (p : Plan). length p.nodes) c.deref.ensures.0 in
    let b : c.loop-i.i < length plan.nodes = omega arith in
    any_from (length plan.nodes) c.loop-i.i (λ k. level (line_of plan) k t) b (c.drive_from-held.ensures.dominant t from until ∙ c.if-held.true) ∙ sym c.if-held.true)

pub returns-clause-dominant : goal.returns-clause-dominant
returns-clause-dominant c = λ t from until.
    (let plan : Plan = c.args.plan.now in
    let all : length c.deref.result.now.nodes ≡ length plan.nodes = ap (λ (p : Plan). length p.nodes) c.deref.ensures.0 in
    any_none (length plan.nodes) (λ k. level (line_of plan) k t) (λ k b. c.loop-i.invariant.silent k t (omega arith) from until))
