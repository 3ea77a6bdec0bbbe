-- One synchronisation more, or none.
use Rattle.std.proofs.Common.{◌≡◌, ◌∙◌, ap, sym, arith, refl, ℕ, false, List, Option, None, Some}
use Rattle.std.specs.Option.{is_some}
use Rattle.wl_plan.specs.declared.plan.Plan.{Plan}
use Rattle.wl_plan.specs.PlanLine.{setup_at}
use Rattle.wl_trace.specs.declared.event.Noted.{Noted}
use Rattle.wl_trace.specs.Synced.{syncs_of, with_next}
use Rattle.wl_views.specs.Sampling.{synced_by}
use Rattle.wl_views.proofs.sampling.Sampling.next_sync.Goals as goal

none_is : (o : Option Noted) → is_some o ≡ false → o ≡ None
none_is None e = refl
none_is (Some sync) e = cc

pub returns-then-is_some-clause-more : goal.returns-then-is_some-clause-more
returns-then-is_some-clause-more c sync e =
    let plan : Plan = c.args.plan.now in
    let i : ℕ = c.args.i in
    c.step.ensures.syncs c.in-Some.stride c.in-Some.is
    ∙ ap (λ (o : Option Noted). with_next (synced_by plan i c.loop-stride.self) o) e
    ∙ ap (λ (es : List Noted). with_next es (Some sync)) c.loop-stride.invariant.same

pub loop-stride-preserved : goal.loop-stride-preserved
loop-stride-preserved c =
    let plan : Plan = c.args.plan.now in
    let i : ℕ = c.args.i in
    let none : c.in-Some.stride.sync ≡ None = none_is c.in-Some.stride.sync (sym c.is_some.ensures ∙ c.if-is_some.false) in
    record {
      is = c.step.ensures.is;
      same =
          c.step.ensures.syncs c.in-Some.stride c.in-Some.is
          ∙ ap (λ (o : Option Noted). with_next (synced_by plan i c.loop-stride.self) o) none
          ∙ c.loop-stride.invariant.same;
      later = (let l = c.loop-stride.invariant.later in let m = c.step.ensures.later c.in-Some.stride c.in-Some.is in omega (arith, l, m));
    }

pub returns-clause-all : goal.returns-clause-all
returns-clause-all c e =
    sym c.loop-stride.invariant.same ∙ ap (syncs_of (setup_at c.args.plan.now c.args.i)) (c.step.ensures.all c.in_default.is)
