use Rattle.std.proofs.Common.{◌≡◌, ◌∙◌, ◌+◌, [], ◌∷◌, ◌++◌, ℕ, length, Option, refl, sym, ap, subst, arith, length-append}
use Rattle.wl_sync.specs.declared.Sync.{Sync}
use Rattle.wl_sync.specs.declared.Beat.{Beat}
use Rattle.wl_sync.specs.declared.Seen.{Seen}
use Rattle.wl_sync.specs.Bits.{beat_of, sync_of}
use Rattle.wl_sync.specs.Running.{clock_after}
use Rattle.wl_node.specs.declared.setup.NodeSetup.{NodeSetup}
use Rattle.wl_node.specs.declared.progress.NodeProgress.{NodeProgress}
use Rattle.wl_node.specs.History.{History, staying_history, history_after, seen_next, by_beat, syncs_at}
use Rattle.wl_node.specs.Kept.{IsTraffic, AreSyncs, FitsHistory}
use Rattle.wl_node.proofs.Turns.{history_next}
use Rattle.wl_node.proofs.progress.NodeProgress.run.Goals as goal

pub returns-clause-place : goal.returns-clause-place
returns-clause-place c levels old =
    let setup : NodeSetup = c.args.setup.now in
    let h : History = staying_history setup levels in
    let now : NodeProgress = record {
      clock = c.see-beat.new.self;
      drive = c.obey.new.drive;
      quanta = c.args.self.now.quanta + 1;
      syncs = c.note.new.self;
      traffic = c.obey.new.traffic;
    } in
    let p : FitsHistory setup c.args.self.now h = old.place in
    let x : Seen = seen_next h c.args.level in
    let e : c.sees-seen.result ≡ x = c.sees-seen.ensures setup h p in
    let beat : c.see-beat.result.0 ≡ beat_of setup.segments h.seen x = c.see-beat.ensures.beat setup.segments h.seen p.clock ∙ ap (beat_of setup.segments h.seen) e in
    let sync : c.see-beat.result.1 ≡ sync_of setup.segments h.seen x = c.see-beat.ensures.sync setup.segments h.seen p.clock ∙ ap (sync_of setup.segments h.seen) e in
    let traffic : IsTraffic setup c.obey.new.traffic (by_beat setup h c.args.level (beat_of setup.segments h.seen x)) =
    subst (λ (b : Beat). IsTraffic setup c.obey.new.traffic (by_beat setup h c.args.level b)) beat (c.obey.ensures.traffic h (sym p.quanta) p.traffic) in
    let syncs : AreSyncs c.note.new.self (h.syncs ++ syncs_at (length h.seen) (sync_of setup.segments h.seen x)) =
    subst (λ (k : ℕ). AreSyncs c.note.new.self (h.syncs ++ syncs_at k (sync_of setup.segments h.seen x))) p.quanta
    (subst (λ (s : Option Sync). AreSyncs c.note.new.self (h.syncs ++ syncs_at c.args.self.now.quanta s)) sync (c.note.ensures.syncs h.syncs p.syncs)) in
    let place : FitsHistory setup now (history_after setup h c.args.level) = record {
      clock = c.see-beat.ensures.clock setup.segments h.seen p.clock ∙ ap (λ (y : Seen). clock_after setup.segments (h.seen ++ y ∷ [])) e;
      drive = c.obey.ensures.drive h p.drive p.traffic ∙ ap (λ (b : Beat). (by_beat setup h c.args.level b).drive) beat;
      quanta = ap (λ (n : ℕ). n + 1) p.quanta ∙ sym (length-append h.seen (x ∷ []));
      syncs = syncs;
      same = c.note.ensures.keeps ∙ (p.same ∙ sym c.obey.ensures.keeps);
      traffic = record {
        machine = traffic.machine;
        counters = traffic.counters;
        pending = traffic.pending;
        unsent = traffic.unsent;
        errors = traffic.errors;
        samples = traffic.samples;
        sampled = traffic.sampled;
        frames = traffic.frames;
        sends = traffic.sends;
      };
    } in
    record {
      counted = ap (λ (k : History). length k.seen) (history_next setup levels c.args.level) ∙ (length-append h.seen (x ∷ []) ∙ (ap (λ (n : ℕ). n + 1) old.counted ∙ sym (length-append levels (c.args.level ∷ []))));
      place = subst (FitsHistory setup now) (sym (history_next setup levels c.args.level)) place;
    }

pub returns-clause-keeps : goal.returns-clause-keeps
returns-clause-keeps c = record {
  quanta = refl;
  fits = record {
    syncs = omega (arith, c.note.ensures.few, c.requires.fits.syncs);
    errors = omega (arith, c.obey.ensures.errors, c.requires.fits.errors);
    samples = omega (arith, c.obey.ensures.count, c.requires.fits.samples);
  };
  lists = c.obey.ensures.keeps;
}
