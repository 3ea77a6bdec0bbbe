use Rattle.std.proofs.Common.{◌≡◌, ◌∙◌, ap, sym, ◌-◌, ℕ, true, false, length, arith}
use Rattle.std.proofs.lemmas.List.{get_or_default}
use Rattle.wl_level.specs.declared.Level.{Level}
use Rattle.wl_level.specs.declared.Level.TheVariants.{Recessive}
use Rattle.wl_level.specs.Levels.{same}
use Rattle.wl_level.specs.Places.{at}
use Rattle.wl_trace.proofs.Runs.{run_step, run_stop}
use Rattle.wl_trace.proofs.stretch.run_at_end.Goals as goal

pub loop-run-preserved : goal.loop-run-preserved
loop-run-preserved c =
    let k : ℕ = length c.args.samples.now - 1 - c.loop-run.run in
    let seen : same (at c.args.samples.now k) c.args.level ≡ true =
    ap (λ (l : Level). same l c.args.level) (get_or_default c.args.samples.now k Recessive _ (omega (arith, c.loop-run-test.true))) ∙ sym c.is.ensures ∙ c.if-is.true in
    let step = run_step c.args.level c.args.samples.now c.loop-run.run c.loop-run-test.true seen in
    let before = c.loop-run.invariant.counted in
    record { few = omega arith; counted = omega arith }

pub returns-else-is-clause-run : goal.returns-else-is-clause-run
returns-else-is-clause-run c =
    let k : ℕ = length c.args.samples.now - 1 - c.loop-run.run in
    let seen : same (at c.args.samples.now k) c.args.level ≡ false =
    ap (λ (l : Level). same l c.args.level) (get_or_default c.args.samples.now k Recessive _ (omega (arith, c.loop-run-test.true))) ∙ sym c.is.ensures ∙ c.if-is.false in
    let stop = run_stop c.args.level c.args.samples.now c.loop-run.run c.loop-run-test.true seen in
    let before = c.loop-run.invariant.counted in
    omega arith
