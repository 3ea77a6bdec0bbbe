-- Quanta of one level up to a sample, and with it: no edge synchronises the node, and no bit's start changes what it drives.
use Rattle.std.proofs.Common.{◌≡◌, ◌∙◌, refl, ap, ap₂, sym, subst, arith, append-nil, length-append, not, Bool, true, false, Option, None, ℕ, suc, ◌+◌, List, [], ◌∷◌, ◌++◌, length, replicate}
use Rattle.std.specs.Bool.{beq}
use Rattle.std.specs.Prelude.{option_map}
use Rattle.wl_level.specs.declared.Level.{Level}
use Rattle.wl_level.proofs.Callers.{snoc}
use Rattle.wl_sync.specs.declared.Beat.{Beat}
use Rattle.wl_sync.specs.declared.Beat.TheVariants as beats
use Rattle.wl_sync.specs.declared.Beat.TheVariants.{Sample}
use Rattle.wl_sync.specs.declared.Sync.{Sync}
use Rattle.wl_sync.specs.declared.Seen.{Seen}
use Rattle.wl_sync.specs.Bits.{beat_of, sync_of}
use Rattle.wl_sync.specs.Skips.{IsSampledAfter}
use Rattle.wl_node.specs.declared.setup.NodeSetup.{NodeSetup}
use Rattle.wl_node.specs.History.{History, by_beat, staying_history, history_after, history_after_sample, seen_next}
use Rattle.wl_node.specs.Quiet.{pending_of}
use Rattle.wl_trace.specs.declared.staying_rerun.StayingRerun.{StayingRerun}
use Rattle.wl_trace.specs.Events.{noted}
use Rattle.wl_trace.specs.Replay.{IsSampledNode, SampledPast}
use Rattle.wl_trace.specs.StayingRerun.{RunsTo, sample_if, staying_samples}
use Rattle.wl_trace.specs.Snapshot.{mark}
use Rattle.wl_trace.specs.Synced.{sync_event, staying_syncs, with_next}
use Rattle.wl_trace.proofs.RunOver.{one_more}
use Rattle.wl_trace.proofs.Skipping.{IsSkippable, IsSkipped, all_skipped, none_synced, seen_same}
use Rattle.wl_trace.proofs.Syncing.{all_seen, history_more, syncs_more}

module _ (setup : NodeSetup) (levels : List Level) (level : Level) (n : ℕ)
    (is : IsSampledAfter setup.segments (staying_history setup levels).seen (seen_next (staying_history setup levels) level) n)
    (settled : (staying_history setup levels).drive ≡ pending_of (staying_history setup levels)) where
  abbrev h : History
  h = staying_history setup levels

  abbrev x : Seen
  x = seen_next h level

  -- up to the sample
  abbrev pub up_to : History
  up_to = staying_history setup (levels ++ replicate n level)

  able : IsSkippable setup h level n
  able = record { unsampled = is.unsampled; starts = λ m less e. settled }

  skipped : IsSkipped setup levels level n
  skipped = all_skipped setup levels level n n (omega arith) able

  same : seen_next up_to level ≡ x
  same = seen_same up_to h level skipped.past skipped.drive

  sampled : beat_of setup.segments up_to.seen (seen_next up_to level) ≡ Sample x.level
  sampled = ap₂ (λ (s : List Seen) (y : Seen). beat_of setup.segments s y) skipped.seen same ∙ is.sampled

  none : sync_of setup.segments up_to.seen (seen_next up_to level) ≡ None
  none = ap₂ (λ (s : List Seen) (y : Seen). sync_of setup.segments s y) skipped.seen same ∙ is.unmoved n (omega arith)

  after_is : staying_history setup (levels ++ replicate (n + 1) level) ≡ history_after setup up_to level
  after_is = ap (staying_history setup) (one_more levels level n) ∙ history_more setup (levels ++ replicate n level) level

  pub sampled_seen : h.seen ++ replicate (suc n) x ≡ (staying_history setup (levels ++ replicate (n + 1) level)).seen
  sampled_seen =
      snoc h.seen x n
      ∙ ap₂ (λ (s : List Seen) (y : Seen). s ++ y ∷ []) (sym skipped.seen) (sym same)
      ∙ ap (λ (g : History). g.seen) (sym after_is)

  -- what is kept up to the sample is what was kept before
  pub kept_up_to : (kept : StayingRerun) (starts : ℕ) → RunsTo setup kept h starts → RunsTo setup kept up_to starts
  kept_up_to kept starts r = record {
    sampled_node = subst (IsSampledNode setup kept.sampled_node) (sym skipped.past) r.sampled_node;
    drive = r.drive ∙ sym skipped.drive;
    bits = r.bits ∙ ap (λ (p : SampledPast). length p.samples) (sym skipped.past);
    sampled = r.sampled ∙ ap (λ (p : SampledPast). mark (length p.samples)) (sym skipped.past);
    started = r.started;
  }

  -- and with the sample it is that of all these levels
  pub runs_sampled : (kept : StayingRerun) (starts : ℕ) → RunsTo setup kept (history_after_sample setup up_to level) starts
      → RunsTo setup kept (staying_history setup (levels ++ replicate (n + 1) level)) starts
  runs_sampled kept starts r =
      let so : RunsTo setup kept (by_beat setup up_to level (beat_of setup.segments up_to.seen (seen_next up_to level))) starts =
      subst (λ (b : Beat). RunsTo setup kept (by_beat setup up_to level b) starts) (sym sampled) r in
      let after : RunsTo setup kept (history_after setup up_to level) starts =
      record { sampled_node = so.sampled_node; drive = so.drive; bits = so.bits; sampled = so.sampled; started = so.started } in
      subst (λ (g : History). RunsTo setup kept g starts) (sym after_is) after

  pub none_sampled : staying_syncs setup (levels ++ replicate (n + 1) level) ≡ staying_syncs setup levels
  none_sampled =
      ap (staying_syncs setup) (one_more levels level n) ∙ syncs_more setup (levels ++ replicate n level) level
      ∙ ap (λ (o : Option Sync). with_next (staying_syncs setup (levels ++ replicate n level)) (option_map (λ sync. noted (length up_to.seen) (length up_to.samples) (sync_event sync)) o)) none
      ∙ none_synced setup levels level n n (omega arith) able (λ m less. is.unmoved m (omega arith))

  -- the sample is the last of its samples
  pub samples_sampled : (staying_history setup (levels ++ replicate (n + 1) level)).samples ≡ h.samples ++ (length up_to.seen, level) ∷ []
  samples_sampled =
      ap (λ (g : History). g.samples) after_is
      ∙ ap (λ (b : Beat). (by_beat setup up_to level b).samples) sampled
      ∙ ap (λ (p : SampledPast). p.samples ++ (length up_to.seen, level) ∷ []) skipped.past

-- one quantum more is a sample if the mark of samples turned
module _ (setup : NodeSetup) (levels : List Level) (level : Level) (old new : Bool) where
  unturned : (h : History) → not (beq (mark (length h.samples)) (mark (length h.samples))) ≡ false
  unturned h = by (mark (length h.samples))
    where
      by : (b : Bool) → not (beq b b) ≡ false
      by true = refl
      by false = refl

  turned : (h : History) (quantum : ℕ) → not (beq (mark (length (h.samples ++ (quantum, level) ∷ []))) (mark (length h.samples))) ≡ true
  turned h quantum = ap (λ (n : ℕ). not (beq (mark n) (mark (length h.samples)))) one ∙ by (mark (length h.samples))
    where
      one : length (h.samples ++ (quantum, level) ∷ []) ≡ suc (length h.samples)
      one = (let e = length-append h.samples ((quantum, level) ∷ []) in omega arith)

      by : (b : Bool) → not (beq (not b) b) ≡ true
      by true = refl
      by false = refl

  by_turn : (h : History) (beat : Beat) (quantum : ℕ) → length h.seen ≡ quantum
      → (by_beat setup h level beat).samples ≡ h.samples ++ sample_if (not (beq (mark (length (by_beat setup h level beat).samples)) (mark (length h.samples)))) quantum level
  by_turn h beats.Plain quantum e = sym (append-nil h.samples) ∙ ap (λ (b : Bool). h.samples ++ sample_if b quantum level) (sym (unturned h))
  by_turn h beats.Start quantum e = sym (append-nil h.samples) ∙ ap (λ (b : Bool). h.samples ++ sample_if b quantum level) (sym (unturned h))
  by_turn h (beats.Sample _) quantum e =
      ap (λ (q : ℕ). h.samples ++ (q, level) ∷ []) e ∙ ap (λ (b : Bool). h.samples ++ sample_if b quantum level) (sym (turned h (length h.seen)))

  pub one_sampled : old ≡ mark (length (staying_samples setup levels)) → new ≡ mark (length (staying_samples setup (levels ++ level ∷ [])))
      → staying_samples setup (levels ++ level ∷ []) ≡ staying_samples setup levels ++ sample_if (not (beq new old)) (length levels) level
  one_sampled o n =
      (let h : History = staying_history setup levels in
      let beat : Beat = beat_of setup.segments h.seen (seen_next h level) in
      let after : staying_history setup (levels ++ level ∷ []) ≡ history_after setup h level = history_more setup levels level in
      ap (λ (g : History). g.samples) after ∙ by_turn h beat (length levels) (all_seen setup levels)
      ∙ ap (λ (g : History). h.samples ++ sample_if (not (beq (mark (length g.samples)) (mark (length h.samples)))) (length levels) level) (sym after)
      ∙ ap₂ (λ (a b : Bool). h.samples ++ sample_if (not (beq a b)) (length levels) level) (sym n) (sym o))
