-- Where there is no such sample, nothing runs; else the quanta up to it, and it.
use Rattle.std.proofs.Common.{◌≡◌, ◌∙◌, ◌+◌, ◌++◌, refl, sym, ap, subst, arith, ◌-◌, ℕ, suc, List, [], ◌∷◌, length, replicate}
use Rattle.wl_level.specs.declared.Level.{Level}
use Rattle.wl_level.proofs.Callers.{same_equal}
use Rattle.wl_sync.specs.declared.Seen.{Seen}
use Rattle.wl_sync.specs.Running.{clock_after}
use Rattle.wl_sync.specs.Skips.{IsSampledAfter, quanta_before_sample}
use Rattle.wl_node.specs.declared.setup.NodeSetup.{NodeSetup}
use Rattle.wl_node.specs.History.{History, staying_history, seen_next}
use Rattle.wl_node.specs.Quiet.{pending_of}
use Rattle.wl_trace.specs.StayingRerun.{RunsStaying, RunsTo}
use Rattle.wl_trace.proofs.RunOver.{longer}
use Rattle.wl_trace.proofs.Sampling.{kept_up_to, none_sampled, runs_sampled, sampled_seen, samples_sampled, up_to}
use Rattle.wl_trace.proofs.Syncing.{all_seen}
use Rattle.wl_trace.proofs.staying_rerun.StayingRerun.sample_ahead.Goals as goal

pub returns-in-Some-clause-ran : goal.returns-in-Some-clause-ran
returns-in-Some-clause-ran c syncs =
    let setup : NodeSetup = c.args.setup.now in
    let level : Level = c.args.level in
    let n : ℕ = c.in-Some.before in
    let ahead : n ≡ quanta_before_sample c.args.self.now.clock = c.until_sample.ensures.value n c.in-Some.is in
    let settled : (levels : List Level) → RunsStaying setup levels c.args.self.now → (staying_history setup levels).drive ≡ pending_of (staying_history setup levels) =
    λ levels r.
    sym r.run.drive ∙ same_equal c.args.self.now.drive c.args.self.now.sampled_node.pending (sym c.is.ensures ∙ c.if-not-is.false) ∙ r.run.sampled_node.pending in
    let sampled : (levels : List Level) → RunsStaying setup levels c.args.self.now
    → IsSampledAfter setup.segments (staying_history setup levels).seen (seen_next (staying_history setup levels) level) n =
    λ levels r.
    subst (IsSampledAfter setup.segments (staying_history setup levels).seen (seen_next (staying_history setup levels) level)) (sym ahead)
    (c.sample.ensures.sampled setup.segments (staying_history setup levels).seen r.clock (seen_next (staying_history setup levels) level) refl) in
    record {
      run = λ levels long r.
          let h : History = staying_history setup levels in
          let x : Seen = seen_next h level in
          let is = sampled levels r in
          let rests = settled levels r in
          let quantum : c.args.quantum + n ≡ length (staying_history setup (levels ++ replicate n level)).seen =
          sym (longer levels level c.args.quantum n long) ∙ sym (all_seen setup (levels ++ replicate n level)) in
          let bits = r.fewer in
          let size = longer levels level c.args.quantum (n + 1) long in
          let few = c.requires.few in
          let before : RunsTo setup (record c.args.self.now { clock = c.sample.new.self }) h r.starts =
          record { sampled_node = r.run.sampled_node; drive = r.run.drive; bits = r.run.bits; sampled = r.run.sampled; started = r.run.started } in
          record {
            starts = r.starts;
            clock =
                c.sample-in-Some.ensures.clock
                ∙ c.sample.ensures.clock setup.segments h.seen r.clock x refl
                ∙ ap (λ (k : ℕ). clock_after setup.segments (h.seen ++ replicate (suc k) x)) (sym ahead)
                ∙ ap (clock_after setup.segments) (sampled_seen setup levels level n is rests);
            run = runs_sampled setup levels level n is rests c.sample-in-Some.new.self r.starts
                (c.sample-in-Some.ensures.run (up_to setup levels level n is rests) r.starts quantum (omega arith)
                (kept_up_to setup levels level n is rests (record c.args.self.now { clock = c.sample.new.self }) r.starts before));
            fewer = omega (arith, c.sample-in-Some.ensures.bits);
          };
      syncs = λ levels long r e. e ∙ sym (none_sampled setup levels level n (sampled levels r) (settled levels r));
    }

pub returns-in-Some-clause-sample : goal.returns-in-Some-clause-sample
returns-in-Some-clause-sample c some levels long r =
    let setup : NodeSetup = c.args.setup.now in
    let level : Level = c.args.level in
    let n : ℕ = c.in-Some.before in
    let h : History = staying_history setup levels in
    let ahead : n ≡ quanta_before_sample c.args.self.now.clock = c.until_sample.ensures.value n c.in-Some.is in
    let settled : h.drive ≡ pending_of h =
    sym r.run.drive ∙ same_equal c.args.self.now.drive c.args.self.now.sampled_node.pending (sym c.is.ensures ∙ c.if-not-is.false) ∙ r.run.sampled_node.pending in
    let sampled : IsSampledAfter setup.segments h.seen (seen_next h level) n =
    subst (IsSampledAfter setup.segments h.seen (seen_next h level)) (sym ahead) (c.sample.ensures.sampled setup.segments h.seen r.clock (seen_next h level) refl) in
    let quantum : length (up_to setup levels level n sampled settled).seen ≡ c.args.quantum + (n + 1) - 1 =
    (let all = all_seen setup (levels ++ replicate n level) in let size = longer levels level c.args.quantum n long in omega (arith, all, size)) in
    samples_sampled setup levels level n sampled settled ∙ ap (λ (q : ℕ). h.samples ++ (q, level) ∷ []) quantum
