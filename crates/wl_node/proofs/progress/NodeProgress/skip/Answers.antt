use Rattle.std.proofs.Common.{◌≡◌, ◌∙◌, ◌+◌, ◌++◌, ℕ, true, false, length, replicate, refl, sym, ap, subst, arith, length-append}
use Rattle.std.proofs.lemmas.List.{length-replicate}
use Rattle.wl_level.specs.Levels.{same}
use Rattle.wl_level.proofs.Callers.{same_equal}
use Rattle.wl_sync.specs.declared.Seen.{Seen}
use Rattle.wl_sync.specs.Skips.{free_quanta, IsPlain}
use Rattle.wl_node.specs.declared.setup.NodeSetup.{NodeSetup}
use Rattle.wl_node.specs.declared.progress.NodeProgress.{NodeProgress}
use Rattle.wl_node.specs.History.{History, staying_history, seen_next}
use Rattle.wl_node.specs.Kept.{FitsHistory}
use Rattle.wl_node.specs.Quiet.{pending_of}
use Rattle.wl_node.proofs.Listening.{kept_same}
use Rattle.wl_node.proofs.Skipped.{seen_more, IsIdleFor, history_skipped, no_starts}
use Rattle.wl_node.proofs.progress.NodeProgress.skip.Goals as goal

idle_for : (c : goal.After-self-1) (setup : NodeSetup) (h : History) → FitsHistory setup c.args.self.now h → IsIdleFor setup h c.args.level c.args.quanta
idle_for c setup h p =
    let x : Seen = seen_next h c.args.level in
    let settled : same c.args.self.now.drive c.args.self.now.traffic.pending ≡ true → h.drive ≡ pending_of h =
    λ e. sym p.drive ∙ same_equal c.args.self.now.drive c.args.self.now.traffic.pending e ∙ p.traffic.pending in
    let plain : same c.args.self.now.drive c.args.self.now.traffic.pending ≡ false → IsPlain setup.segments h.seen x c.args.quanta =
    λ e. c.skip.ensures.plain (let few = c.requires.few in let f : free_quanta (same c.args.self.now.drive c.args.self.now.traffic.pending) c.args.self.now.clock c.args.level
    ≡ free_quanta false c.args.self.now.clock c.args.level = ap (λ b. free_quanta b c.args.self.now.clock c.args.level) e in omega arith) setup.segments h.seen p.clock x refl in
    record {
      unmoved = c.skip.ensures.unmoved setup.segments h.seen p.clock x refl;
      unsampled = c.skip.ensures.unsampled setup.segments h.seen p.clock x refl;
      starts = no_starts setup h x c.args.quanta (same c.args.self.now.drive c.args.self.now.traffic.pending) settled plain;
    }

pub returns-clause-place : goal.returns-clause-place
returns-clause-place c setup levels old =
    let h : History = staying_history setup levels in
    let x : Seen = seen_next h c.args.level in
    let n : ℕ = c.args.quanta in
    let now : NodeProgress = record {
      clock = c.skip.new.self;
      drive = c.args.self.now.drive;
      quanta = c.args.self.now.quanta + n;
      syncs = c.args.self.now.syncs;
      traffic = c.args.self.now.traffic;
    } in
    let p : FitsHistory setup c.args.self.now h = old.place in
    let e : staying_history setup (levels ++ replicate n c.args.level) ≡ seen_more h (replicate n x) = history_skipped setup levels c.args.level n n (omega arith) (idle_for c setup h p) in
    let more : length (h.seen ++ replicate n x) ≡ length h.seen + n = length-append h.seen (replicate n x) ∙ ap (λ (k : ℕ). length h.seen + k) (length-replicate n x) in
    let place : FitsHistory setup now (seen_more h (replicate n x)) = record {
      clock = c.skip.ensures.clock setup.segments h.seen p.clock x refl;
      drive = p.drive;
      quanta = ap (λ (k : ℕ). k + n) p.quanta ∙ sym more;
      syncs = p.syncs;
      same = p.same;
      traffic = record {
        machine = p.traffic.machine;
        counters = p.traffic.counters;
        pending = p.traffic.pending;
        unsent = p.traffic.unsent;
        errors = p.traffic.errors;
        samples = p.traffic.samples;
        sampled = p.traffic.sampled;
        frames = p.traffic.frames;
        sends = p.traffic.sends;
      };
    } in
    record {
      counted = ap (λ (k : History). length k.seen) e ∙ (more ∙ (ap (λ (k : ℕ). k + n) old.counted
          ∙ sym (length-append levels (replicate n c.args.level) ∙ ap (λ (k : ℕ). length levels + k) (length-replicate n c.args.level))));
      place = subst (FitsHistory setup now) (sym e) place;
    }

pub returns-clause-drive : goal.returns-clause-drive
returns-clause-drive c setup m less levels old =
    ap (λ (h : History). h.drive) (history_skipped setup levels c.args.level c.args.quanta m (omega arith) (idle_for c setup (staying_history setup levels) old.place))

pub returns-clause-keeps : goal.returns-clause-keeps
returns-clause-keeps c = kept_same c.requires.fits refl refl refl refl refl
