-- One quantum that is no sample: it changes what was seen, and how that synchronised.
use Rattle.std.proofs.Common.{◌≡◌, ◌≢◌, ◌∙◌, ◌+◌, [], ◌∷◌, ◌++◌, ℕ, inl, inr, List, length, replicate, Option, refl, sym, ap, subst, arith, append-nil, length-append}
use Rattle.std.proofs.lemmas.Bool.{cases_lt}
use Rattle.wl_level.specs.declared.Level.{Level}
use Rattle.wl_sync.specs.declared.Beat.TheVariants.{Sample}
use Rattle.wl_sync.specs.declared.Sync.{Sync}
use Rattle.wl_sync.specs.declared.Seen.{Seen}
use Rattle.wl_sync.specs.Bits.{beat_of, sync_of}
use Rattle.wl_sync.specs.Running.{clock_after}
use Rattle.wl_node.specs.declared.setup.NodeSetup.{NodeSetup}
use Rattle.wl_node.specs.declared.progress.NodeProgress.{NodeProgress}
use Rattle.wl_node.specs.History.{History, staying_history, seen_next, syncs_at}
use Rattle.wl_node.specs.Kept.{AreSyncs, FitsHistory, IsProgress}
use Rattle.wl_node.proofs.Listening.{quantum_alone}
use Rattle.wl_node.proofs.Turns.{history_next}
use Rattle.wl_node.proofs.progress.NodeProgress.edge_quantum.Goals as goal

module _ (c : goal.After-self-1) (setup : NodeSetup) (levels : List Level) (old : IsProgress setup c.args.self.now levels) where
  abbrev h : History
  h = staying_history setup levels

  abbrev x : Seen
  x = seen_next h c.args.level

  seen : c.sees-seen.result ≡ x
  seen = c.sees-seen.ensures setup h old.place

  unsampled : (v : Level) → beat_of setup.segments h.seen x ≢ Sample v
  unsampled v is = c.in_default.not-Sample v (c.see-beat.ensures.beat setup.segments h.seen old.place.clock ∙ ap (beat_of setup.segments h.seen) seen ∙ is)

  sync : c.see-beat.result.1 ≡ sync_of setup.segments h.seen x
  sync = c.see-beat.ensures.sync setup.segments h.seen old.place.clock ∙ ap (sync_of setup.segments h.seen) seen

  abbrev after : History
  after = record h { seen = h.seen ++ x ∷ []; syncs = h.syncs ++ syncs_at (length h.seen) (sync_of setup.segments h.seen x) }

  after_is : staying_history setup (levels ++ c.args.level ∷ []) ≡ after
  after_is =
      history_next setup levels c.args.level
      ∙ quantum_alone setup h c.args.level unsampled (sym old.place.drive ∙ c.requires.settled ∙ old.place.traffic.pending)

  syncs : AreSyncs c.note.new.self after.syncs
  syncs =
      subst (λ (k : ℕ). AreSyncs c.note.new.self (h.syncs ++ syncs_at k (sync_of setup.segments h.seen x))) old.place.quanta
      (subst (λ (s : Option Sync). AreSyncs c.note.new.self (h.syncs ++ syncs_at c.args.self.now.quanta s)) sync (c.note.ensures.syncs h.syncs old.place.syncs))

  abbrev now : NodeProgress
  now = record {
    clock = c.see-beat.new.self;
    drive = c.args.self.now.drive;
    quanta = c.args.self.now.quanta + 1;
    syncs = c.note.new.self;
    traffic = c.args.self.now.traffic;
  }

  fits : FitsHistory setup now after
  fits = record {
    clock = c.see-beat.ensures.clock setup.segments h.seen old.place.clock ∙ ap (λ (y : Seen). clock_after setup.segments (h.seen ++ y ∷ [])) seen;
    drive = old.place.drive;
    quanta = ap (λ (n : ℕ). n + 1) old.place.quanta ∙ sym (length-append h.seen (x ∷ []));
    syncs = syncs;
    same = c.note.ensures.keeps ∙ old.place.same;
    traffic = record {
      machine = old.place.traffic.machine;
      counters = old.place.traffic.counters;
      pending = old.place.traffic.pending;
      unsent = old.place.traffic.unsent;
      errors = old.place.traffic.errors;
      samples = old.place.traffic.samples;
      sampled = old.place.traffic.sampled;
      frames = old.place.traffic.frames;
      sends = old.place.traffic.sends;
    };
  }

  placed : IsProgress setup now (levels ++ c.args.level ∷ [])
  placed = record {
    counted = ap (λ (k : History). length k.seen) after_is
        ∙ (length-append h.seen (x ∷ []) ∙ (ap (λ (n : ℕ). n + 1) old.counted ∙ sym (length-append levels (c.args.level ∷ []))));
    place = subst (FitsHistory setup now) (sym after_is) fits;
  }

pub returns-clause-place : goal.returns-clause-place
returns-clause-place c setup levels old = placed c setup levels old

pub returns-clause-drive : goal.returns-clause-drive
returns-clause-drive c setup m less levels old = elim (cases_lt m 1) [
  | inl none ↦
      (let e : m ≡ 0 = omega (arith, none) in
      ap (λ (k : ℕ). (staying_history setup (levels ++ replicate k c.args.level)).drive) e ∙ ap (λ ls. (staying_history setup ls).drive) (append-nil levels))
  | inr one ↦
      (let e : m ≡ 1 = omega (arith, one, less) in
      ap (λ (k : ℕ). (staying_history setup (levels ++ replicate k c.args.level)).drive) e ∙ ap (λ (g : History). g.drive) (after_is c setup levels old))
]

pub returns-clause-keeps : goal.returns-clause-keeps
returns-clause-keeps c = record {
  quanta = refl;
  fits = record {
    syncs = omega (arith, c.note.ensures.few, c.requires.fits.syncs);
    errors = omega (arith, c.requires.fits.errors);
    samples = omega (arith, c.requires.fits.samples);
  };
  lists = refl;
}
