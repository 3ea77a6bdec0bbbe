-- A sample is the next one of the past.
use Rattle.std.proofs.Common.{◌≡◌, ◌∙◌, [], ◌∷◌, ◌++◌, ℕ, not, sym, ap, subst, length, length-append, arith, suc}
use Rattle.wl_level.specs.declared.Level.{Level}
use Rattle.wl_node.specs.declared.setup.NodeSetup.{NodeSetup}
use Rattle.wl_trace.specs.Replay.{IsSampledNode, past_after, past_of}
use Rattle.wl_trace.specs.Snapshot.{mark}
use Rattle.wl_trace.proofs.staying_rerun.StayingRerun.sample.Goals as goal

pub returns-clause-run : goal.returns-clause-run
returns-clause-run c h starts n fewer r =
    let level : Level = c.args.level in
    let setup : NodeSetup = c.args.setup.now in
    let next : IsSampledNode setup c.sample_at.new.self (past_after setup (past_of h) (c.args.quantum, level)) = c.sample_at.ensures (past_of h) r.sampled_node in
    let one : length (h.samples ++ (length h.seen, level) ∷ []) ≡ suc (length h.samples) = (let e = length-append h.samples ((length h.seen, level) ∷ []) in omega arith) in
    record {
      sampled_node = subst (λ (k : ℕ). IsSampledNode setup c.sample_at.new.self (past_after setup (past_of h) (k, level))) n next;
      drive = r.drive;
      bits = omega (arith, c.saturating_add-self.ensures, r.bits, one);
      sampled = ap not r.sampled ∙ ap mark (sym one);
      started = r.started;
    }
