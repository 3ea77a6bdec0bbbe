-- Quanta passed over are plain ones.
use Rattle.std.proofs.Common.{◌≡◌, ◌∙◌, ◌≤◌, ◌++◌, refl, sym, ap, subst, arith, ℕ, false, List, length, replicate, append-nil, length-append}
use Rattle.wl_level.specs.declared.Level.{Level}
use Rattle.wl_sync.specs.declared.Seen.{Seen}
use Rattle.wl_sync.specs.Running.{clock_after}
use Rattle.wl_sync.specs.Skips.{IsPlain, free_quanta}
use Rattle.wl_node.specs.History.{History, staying_history, seen_next}
use Rattle.wl_trace.specs.Replay.{IsSampledNode, SampledPast}
use Rattle.wl_trace.specs.StayingRerun.{IsStayingRerun}
use Rattle.wl_trace.specs.Snapshot.{mark, staying_snapshot}
use Rattle.wl_trace.specs.Synced.{staying_syncs}
use Rattle.wl_trace.proofs.Passing.{all_passed, plain_skippable, shown_same}
use Rattle.wl_trace.proofs.Skipping.{none_synced}
use Rattle.wl_trace.proofs.staying_rerun.StayingRerun.pass.Goals as goal

pub returns-then-quanta-gt0-clause-run : goal.returns-then-quanta-gt0-clause-run
returns-then-quanta-gt0-clause-run c setup levels r =
    let level : Level = c.args.level in
    let n : ℕ = c.min-quanta.result in
    let h : History = staying_history setup levels in
    let x : Seen = seen_next h level in
    let few : n ≤ free_quanta false c.args.self.now.clock level = omega (arith, c.min-quanta.ensures, c.free_quanta-free.ensures) in
    let plain : IsPlain setup.segments h.seen x n = c.skip.ensures.plain few setup.segments h.seen r.clock x refl in
    let is = all_passed setup levels level n n (omega arith) plain in
    let long = length-append levels (replicate n level) in
    let bits = r.fewer in
    record {
      clock = c.skip.ensures.clock setup.segments h.seen r.clock x refl ∙ ap (clock_after setup.segments) (sym is.same.seen);
      run = record {
        sampled_node = subst (IsSampledNode setup c.args.self.now.sampled_node) (sym is.same.past) r.run.sampled_node;
        drive = r.run.drive ∙ sym is.same.drive;
        bits = r.run.bits ∙ ap (λ (p : SampledPast). length p.samples) (sym is.same.past);
        sampled = r.run.sampled ∙ ap (λ (p : SampledPast). mark (length p.samples)) (sym is.same.past);
        started = r.run.started ∙ ap (λ (qs : List ℕ). mark (length qs)) (sym is.starts);
      };
      fewer = omega arith;
    }

pub returns-then-quanta-gt0-clause-same : goal.returns-then-quanta-gt0-clause-same
returns-then-quanta-gt0-clause-same c setup levels r m less =
    let level : Level = c.args.level in
    let n : ℕ = c.min-quanta.result in
    let h : History = staying_history setup levels in
    let few : n ≤ free_quanta false c.args.self.now.clock level = omega (arith, c.min-quanta.ensures, c.free_quanta-free.ensures) in
    let plain : IsPlain setup.segments h.seen (seen_next h level) n = c.skip.ensures.plain few setup.segments h.seen r.clock (seen_next h level) refl in
    shown_same setup levels level m (all_passed setup levels level m n less plain)

pub returns-else-quanta-gt0-clause-run : goal.returns-else-quanta-gt0-clause-run
returns-else-quanta-gt0-clause-run c setup levels r =
    let none : c.min-quanta.result ≡ 0 = omega (arith, c.if-quanta-gt0.false) in
    subst (λ (k : ℕ). IsStayingRerun setup (levels ++ replicate k c.args.level) c.args.self.now) (sym none)
    (subst (λ (ls : List Level). IsStayingRerun setup ls c.args.self.now) (sym (append-nil levels)) r)

pub returns-else-quanta-gt0-clause-same : goal.returns-else-quanta-gt0-clause-same
returns-else-quanta-gt0-clause-same c setup levels r m less =
    let none : m ≡ 0 = omega (arith, c.if-quanta-gt0.false, less) in
    ap (λ (k : ℕ). staying_snapshot setup (levels ++ replicate k c.args.level)) none ∙ ap (staying_snapshot setup) (append-nil levels)

pub returns-then-quanta-gt0-clause-syncs : goal.returns-then-quanta-gt0-clause-syncs
returns-then-quanta-gt0-clause-syncs c setup levels r =
    let level : Level = c.args.level in
    let n : ℕ = c.min-quanta.result in
    let h : History = staying_history setup levels in
    let few : n ≤ free_quanta false c.args.self.now.clock level = omega (arith, c.min-quanta.ensures, c.free_quanta-free.ensures) in
    let plain : IsPlain setup.segments h.seen (seen_next h level) n = c.skip.ensures.plain few setup.segments h.seen r.clock (seen_next h level) refl in
    none_synced setup levels level n n (omega arith) (plain_skippable setup h level n plain) (c.skip.ensures.unmoved setup.segments h.seen r.clock (seen_next h level) refl)

pub returns-else-quanta-gt0-clause-syncs : goal.returns-else-quanta-gt0-clause-syncs
returns-else-quanta-gt0-clause-syncs c setup levels r =
    let none : c.min-quanta.result ≡ 0 = omega (arith, c.if-quanta-gt0.false) in
    ap (λ (k : ℕ). staying_syncs setup (levels ++ replicate k c.args.level)) none ∙ ap (staying_syncs setup) (append-nil levels)
