-- One sample more, up to the last.
use Rattle.std.proofs.Common.{◌∙◌, ◌++◌, ◌∷◌, [], ap, arith, sym, subst, ℕ, List}
use Rattle.wl_level.specs.declared.Level.{Level}
use Rattle.wl_node.specs.declared.setup.NodeSetup.{NodeSetup}
use Rattle.wl_plan.specs.declared.plan.Plan.{Plan}
use Rattle.wl_plan.specs.PlanLine.{setup_at}
use Rattle.wl_views.specs.Sampling.{given_by}
use Rattle.wl_onward.specs.Fits.{fit_by}
use Rattle.wl_calm.specs.Kept.{IsFit}
use Rattle.wl_calm.proofs.fit.fit_since.Goals as goal

pub loop-sample-init : goal.loop-sample-init
loop-sample-init c =
    let plan : Plan = c.args.plan.now in
    let i : ℕ = c.args.i in
    record {
      is = c.in_ok-samples.ensures.is;
      kept = subst (λ xs. IsFit (setup_at plan i) xs c.in_ok-seen.seen) (sym c.in_ok-samples.ensures.none)
          (subst (λ (s : NodeSetup). IsFit s [] c.in_ok-seen.seen) c.setup_of-setup.ensures c.in_ok-seen.ensures);
    }

pub take-requires : goal.take-requires
take-requires c =
    let few = c.next.ensures.few c.in-Some.sample c.in-Some.is in
    let at = c.next.ensures.at c.in-Some.sample c.in-Some.is in
    omega (arith, few, at)

pub loop-sample-preserved : goal.loop-sample-preserved
loop-sample-preserved c =
    let plan : Plan = c.args.plan.now in
    let i : ℕ = c.args.i in
    let samples : List (ℕ × Level) = given_by plan i c.loop-sample.samples in
    let setup = c.setup_of-setup.ensures in
    let old = subst (λ (s : NodeSetup). IsFit s samples c.loop-sample.seen) (sym setup) c.loop-sample.invariant.kept in
    let new =
    subst (λ (s : NodeSetup). IsFit s (samples ++ c.in-Some.sample ∷ []) c.take.new.self) setup (c.in_ok-take.ensures samples old) in
    record {
      is = c.next.ensures.is;
      kept = subst (λ xs. IsFit (setup_at plan i) xs c.take.new.self) (sym (c.next.ensures.more c.in-Some.sample c.in-Some.is)) new;
    }

pub loop-sample-smaller : goal.loop-sample-smaller
loop-sample-smaller c =
    let later = c.next.ensures.later c.in-Some.sample c.in-Some.is in
    let few = c.next.ensures.few c.in-Some.sample c.in-Some.is in
    omega (arith, later, few)

pub returns : goal.returns
returns c =
    c.loop-sample.invariant.kept.since ∙ ap (λ xs. (fit_by (setup_at c.args.plan.now c.args.i) xs).1) (c.next.ensures.all c.in_default.is)
