-- One sample more, or none.
use Rattle.std.proofs.Common.{◌≡◌, ◌∙◌, ◌-◌, ◌++◌, [], ◌∷◌, append-nil, ap, sym, arith, ℕ, Bool, List}
use Rattle.wl_level.specs.declared.Level.{Level}
use Rattle.wl_plan.specs.declared.plan.Plan.{Plan}
use Rattle.wl_plan.specs.PlanLine.{line_of, setup_at}
use Rattle.wl_plan.specs.Simulation.{seen}
use Rattle.wl_trace.specs.Rerun.{samples_seen}
use Rattle.wl_trace.specs.StayingRerun.{sample_if}
use Rattle.wl_views.specs.Sampling.{given_by}
use Rattle.wl_views.proofs.sampling.Sampling.next.Goals as goal

pub returns-then-stride-clause-more : goal.returns-then-stride-clause-more
returns-then-stride-clause-more c sample e =
    let plan : Plan = c.args.plan.now in
    let i : ℕ = c.args.i in
    let last : ℕ × Level = (c.step.new.self.quanta - 1, c.step.new.self.level) in
    let one : last ≡ sample = cc in
    c.step.ensures.samples c.in-Some.stride c.in-Some.is
    ∙ ap (λ (s : Bool). given_by plan i c.loop-stride.self ++ sample_if s last.0 last.1) c.if-stride.true
    ∙ ap (λ (xs : List (ℕ × Level)). xs ++ last ∷ []) c.loop-stride.invariant.same
    ∙ ap (λ (s : ℕ × Level). given_by plan i c.args.self.now ++ s ∷ []) one

pub loop-stride-preserved : goal.loop-stride-preserved
loop-stride-preserved c =
    let plan : Plan = c.args.plan.now in
    let i : ℕ = c.args.i in
    record {
      is = c.step.ensures.is;
      same =
          c.step.ensures.samples c.in-Some.stride c.in-Some.is
          ∙ ap (λ (s : Bool). given_by plan i c.loop-stride.self ++ sample_if s (c.step.new.self.quanta - 1) c.step.new.self.level) c.if-stride.false
          ∙ append-nil (given_by plan i c.loop-stride.self) ∙ c.loop-stride.invariant.same;
      later = (let l = c.loop-stride.invariant.later in let m = c.step.ensures.later c.in-Some.stride c.in-Some.is in omega (arith, l, m));
    }

pub returns-clause-all : goal.returns-clause-all
returns-clause-all c e =
    sym c.loop-stride.invariant.same ∙ ap (samples_seen (setup_at c.args.plan.now c.args.i)) (c.step.ensures.all c.in_default.is)

pub returns-clause-ended : goal.returns-clause-ended
returns-clause-ended c e =
    ap (λ (q : ℕ). samples_seen (setup_at c.args.plan.now c.args.i) (seen (line_of c.args.plan.now) c.args.i q)) (c.step.ensures.same c.in_default.is)
    ∙ c.loop-stride.invariant.same
