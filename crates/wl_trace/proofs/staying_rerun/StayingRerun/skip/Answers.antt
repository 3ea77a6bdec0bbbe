-- Quanta that sample nothing.
use Rattle.std.proofs.Common.{◌≡◌, ◌∙◌, ◌≤◌, ◌++◌, refl, sym, ap, subst, arith, ℕ, Bool, true, false, List, length, replicate, append-nil, length-append}
use Rattle.wl_level.specs.declared.Level.{Level}
use Rattle.wl_level.proofs.Callers.{same_equal}
use Rattle.wl_sync.specs.declared.Seen.{Seen}
use Rattle.wl_sync.specs.Running.{clock_after}
use Rattle.wl_sync.specs.Skips.{IsPlain, free_quanta}
use Rattle.wl_node.specs.History.{History, staying_history, seen_next}
use Rattle.wl_node.specs.Quiet.{pending_of}
use Rattle.wl_trace.specs.Replay.{IsSampledNode, SampledPast}
use Rattle.wl_trace.specs.StayingRerun.{RunsStaying, staying_samples}
use Rattle.wl_trace.specs.Snapshot.{mark}
use Rattle.wl_trace.specs.Synced.{staying_syncs}
use Rattle.wl_trace.proofs.Skipping.{IsSkippable, all_skipped, none_synced, settled_starts}
use Rattle.wl_trace.proofs.staying_rerun.StayingRerun.skip.Goals as goal

pub returns-then-quanta-gt0-clause-running : goal.returns-then-quanta-gt0-clause-running
returns-then-quanta-gt0-clause-running c setup levels r =
    let level : Level = c.args.level in
    let n : ℕ = c.min-quanta.result in
    let h : History = staying_history setup levels in
    let x : Seen = seen_next h level in
    let b : Bool = c.is-settled.result in
    let few : n ≤ free_quanta b c.args.self.now.clock level = omega (arith, c.min-quanta.ensures, c.free_quanta-free.ensures) in
    let wants : b ≡ true → h.drive ≡ pending_of h = λ e.
    sym r.run.drive ∙ same_equal c.args.self.now.drive c.args.self.now.sampled_node.pending (sym c.is-settled.ensures ∙ e) ∙ r.run.sampled_node.pending in
    let plain : b ≡ false → IsPlain setup.segments h.seen x n = λ e.
    c.skip.ensures.plain (subst (λ (d : Bool). n ≤ free_quanta d c.args.self.now.clock level) e few) setup.segments h.seen r.clock x refl in
    let able : IsSkippable setup h level n = record {
      unsampled = c.skip.ensures.unsampled setup.segments h.seen r.clock x refl;
      starts = settled_starts setup h x n b wants plain;
    } in
    let is = all_skipped setup levels level n n (omega arith) able in
    let long = length-append levels (replicate n level) in
    let bits = r.fewer in
    record {
      starts = r.starts;
      clock = c.skip.ensures.clock setup.segments h.seen r.clock x refl ∙ ap (clock_after setup.segments) (sym is.seen);
      run = record {
        sampled_node = subst (IsSampledNode setup c.args.self.now.sampled_node) (sym is.past) r.run.sampled_node;
        drive = r.run.drive ∙ sym is.drive;
        bits = r.run.bits ∙ ap (λ (p : SampledPast). length p.samples) (sym is.past);
        sampled = r.run.sampled ∙ ap (λ (p : SampledPast). mark (length p.samples)) (sym is.past);
        started = r.run.started;
      };
      fewer = omega arith;
    }

pub returns-then-quanta-gt0-clause-syncs : goal.returns-then-quanta-gt0-clause-syncs
returns-then-quanta-gt0-clause-syncs c setup levels r =
    let level : Level = c.args.level in
    let n : ℕ = c.min-quanta.result in
    let h : History = staying_history setup levels in
    let x : Seen = seen_next h level in
    let b : Bool = c.is-settled.result in
    let few : n ≤ free_quanta b c.args.self.now.clock level = omega (arith, c.min-quanta.ensures, c.free_quanta-free.ensures) in
    let wants : b ≡ true → h.drive ≡ pending_of h = λ e.
    sym r.run.drive ∙ same_equal c.args.self.now.drive c.args.self.now.sampled_node.pending (sym c.is-settled.ensures ∙ e) ∙ r.run.sampled_node.pending in
    let plain : b ≡ false → IsPlain setup.segments h.seen x n = λ e.
    c.skip.ensures.plain (subst (λ (d : Bool). n ≤ free_quanta d c.args.self.now.clock level) e few) setup.segments h.seen r.clock x refl in
    let able : IsSkippable setup h level n = record {
      unsampled = c.skip.ensures.unsampled setup.segments h.seen r.clock x refl;
      starts = settled_starts setup h x n b wants plain;
    } in
    none_synced setup levels level n n (omega arith) able (c.skip.ensures.unmoved setup.segments h.seen r.clock x refl)

pub returns-else-quanta-gt0-clause-running : goal.returns-else-quanta-gt0-clause-running
returns-else-quanta-gt0-clause-running c setup levels r =
    let none : c.min-quanta.result ≡ 0 = omega (arith, c.if-quanta-gt0.false) in
    subst (λ (k : ℕ). RunsStaying setup (levels ++ replicate k c.args.level) c.args.self.now) (sym none)
    (subst (λ (ls : List Level). RunsStaying setup ls c.args.self.now) (sym (append-nil levels)) r)

pub returns-else-quanta-gt0-clause-syncs : goal.returns-else-quanta-gt0-clause-syncs
returns-else-quanta-gt0-clause-syncs c setup levels r =
    let none : c.min-quanta.result ≡ 0 = omega (arith, c.if-quanta-gt0.false) in
    ap (λ (k : ℕ). staying_syncs setup (levels ++ replicate k c.args.level)) none ∙ ap (staying_syncs setup) (append-nil levels)

pub returns-then-quanta-gt0-clause-samples : goal.returns-then-quanta-gt0-clause-samples
returns-then-quanta-gt0-clause-samples c setup levels r =
    let level : Level = c.args.level in
    let n : ℕ = c.min-quanta.result in
    let h : History = staying_history setup levels in
    let x : Seen = seen_next h level in
    let b : Bool = c.is-settled.result in
    let few : n ≤ free_quanta b c.args.self.now.clock level = omega (arith, c.min-quanta.ensures, c.free_quanta-free.ensures) in
    let wants : b ≡ true → h.drive ≡ pending_of h = λ e.
    sym r.run.drive ∙ same_equal c.args.self.now.drive c.args.self.now.sampled_node.pending (sym c.is-settled.ensures ∙ e) ∙ r.run.sampled_node.pending in
    let plain : b ≡ false → IsPlain setup.segments h.seen x n = λ e.
    c.skip.ensures.plain (subst (λ (d : Bool). n ≤ free_quanta d c.args.self.now.clock level) e few) setup.segments h.seen r.clock x refl in
    let able : IsSkippable setup h level n = record {
      unsampled = c.skip.ensures.unsampled setup.segments h.seen r.clock x refl;
      starts = settled_starts setup h x n b wants plain;
    } in
    ap (λ (p : SampledPast). p.samples) (all_skipped setup levels level n n (omega arith) able).past

pub returns-else-quanta-gt0-clause-samples : goal.returns-else-quanta-gt0-clause-samples
returns-else-quanta-gt0-clause-samples c setup levels r =
    let none : c.min-quanta.result ≡ 0 = omega (arith, c.if-quanta-gt0.false) in
    ap (λ (k : ℕ). staying_samples setup (levels ++ replicate k c.args.level)) none ∙ ap (staying_samples setup) (append-nil levels)
