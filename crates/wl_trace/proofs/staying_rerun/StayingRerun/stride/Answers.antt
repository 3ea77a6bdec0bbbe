-- The quanta up to a sample and with it, or those that sample nothing, and one more.
use Rattle.std.proofs.Common.{◌≡◌, ◌∙◌, ◌+◌, ◌-◌, ◌++◌, [], ◌∷◌, ℕ, List, length, append-nil, arith, not, sym, ap, subst, replicate}
use Rattle.std.specs.Bool.{beq}
use Rattle.wl_level.specs.declared.Level.{Level}
use Rattle.wl_node.specs.declared.setup.NodeSetup.{NodeSetup}
use Rattle.wl_node.specs.History.{staying_history}
use Rattle.wl_trace.specs.declared.event.Noted.{Noted}
use Rattle.wl_trace.specs.declared.staying_rerun.StayingRerun.{StayingRerun}
use Rattle.wl_trace.specs.StayingRerun.{RunsStaying, sample_if, staying_samples}
use Rattle.wl_trace.specs.Synced.{sync_next, staying_syncs, with_next}
use Rattle.wl_trace.proofs.RunOver.{longer, one_more}
use Rattle.wl_trace.proofs.Sampling.{one_sampled}
use Rattle.wl_trace.proofs.Syncing.{syncs_more}
use Rattle.wl_trace.proofs.staying_rerun.StayingRerun.stride.Goals as goal

pub returns-then-passed-most-clause-ran : goal.returns-then-passed-most-clause-ran
returns-then-passed-most-clause-ran c syncs =
    let setup : NodeSetup = c.args.setup.now in
    let same : c.sample_ahead-quanta.new.self ≡ c.args.self.now = c.sample_ahead-quanta.ensures.none (omega (arith, c.if-quanta-gt0.false)) in
    let still : (levels : List Level) → RunsStaying setup levels c.args.self.now → RunsStaying setup levels c.sample_ahead-quanta.new.self =
    λ levels is. subst (λ (k : StayingRerun). RunsStaying setup levels k) (sym same) is in
    record {
      run = λ levels n is. c.skip-passed.ensures.running setup levels (still levels is);
      syncs = λ levels n is e. e ∙ sym (c.skip-passed.ensures.syncs setup levels (still levels is));
    }

pub returns-clause-ran : goal.returns-clause-ran
returns-clause-ran c syncs =
    let setup : NodeSetup = c.args.setup.now in
    let level : Level = c.args.level in
    let k : ℕ = c.skip-passed.result in
    let same : c.sample_ahead-quanta.new.self ≡ c.args.self.now = c.sample_ahead-quanta.ensures.none (omega (arith, c.if-quanta-gt0.false)) in
    let still : (levels : List Level) → RunsStaying setup levels c.args.self.now → RunsStaying setup levels c.sample_ahead-quanta.new.self =
    λ levels is. subst (λ (k : StayingRerun). RunsStaying setup levels k) (sym same) is in
    record {
      run = λ levels n is.
          subst (λ (ls : List Level). RunsStaying setup ls c.quantum-sync.new.self) (sym (one_more levels level k))
          (c.quantum-sync.ensures.running (levels ++ replicate k level) (longer levels level c.args.quantum k n) (c.skip-passed.ensures.running setup levels (still levels is)));
      syncs = λ levels n is e.
          ap (with_next syncs)
          (c.quantum-sync.ensures.sync (levels ++ replicate k level) (longer levels level c.args.quantum k n) (c.skip-passed.ensures.running setup levels (still levels is)))
          ∙ ap (λ (es : List Noted). with_next es (sync_next setup (staying_history setup (levels ++ replicate k level)) level))
          (e ∙ sym (c.skip-passed.ensures.syncs setup levels (still levels is)))
          ∙ sym (syncs_more setup (levels ++ replicate k level) level)
          ∙ ap (staying_syncs setup) (sym (one_more levels level k));
    }

pub returns-then-passed-most-clause-samples : goal.returns-then-passed-most-clause-samples
returns-then-passed-most-clause-samples c levels long is =
    let setup : NodeSetup = c.args.setup.now in
    let same : c.sample_ahead-quanta.new.self ≡ c.args.self.now = c.sample_ahead-quanta.ensures.none (omega (arith, c.if-quanta-gt0.false)) in
    c.skip-passed.ensures.samples setup levels (subst (λ (k : StayingRerun). RunsStaying setup levels k) (sym same) is) ∙ sym (append-nil (staying_samples setup levels))

pub returns-clause-samples : goal.returns-clause-samples
returns-clause-samples c levels long is =
    let setup : NodeSetup = c.args.setup.now in
    let level : Level = c.args.level in
    let k : ℕ = c.skip-passed.result in
    let same : c.sample_ahead-quanta.new.self ≡ c.args.self.now = c.sample_ahead-quanta.ensures.none (omega (arith, c.if-quanta-gt0.false)) in
    let old : RunsStaying setup levels c.sample_ahead-quanta.new.self = subst (λ (k : StayingRerun). RunsStaying setup levels k) (sym same) is in
    let mid : RunsStaying setup (levels ++ replicate k level) c.skip-passed.new.self = c.skip-passed.ensures.running setup levels old in
    let size = longer levels level c.args.quantum k long in
    let new : RunsStaying setup ((levels ++ replicate k level) ++ level ∷ []) c.quantum-sync.new.self = c.quantum-sync.ensures.running (levels ++ replicate k level) size mid in
    let quantum : length (levels ++ replicate k level) ≡ c.args.quantum + (k + 1) - 1 = omega (arith, size) in
    ap (staying_samples setup) (one_more levels level k)
    ∙ one_sampled setup (levels ++ replicate k level) level c.skip-passed.new.self.sampled c.quantum-sync.new.self.sampled mid.run.sampled new.run.sampled
    ∙ (λ i. c.skip-passed.ensures.samples setup levels old i ++ sample_if (not (beq c.quantum-sync.new.self.sampled c.skip-passed.new.self.sampled)) (quantum i) level)
