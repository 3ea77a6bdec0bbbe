-- Quanta that sample nothing, and whose starts of bits leave the drive, leave the machine and what it drives as they are.
use Rattle.std.proofs.Common.{◌≡◌, ◌≢◌, ◌∙◌, refl, sym, ap, ap₂, arith, Option, None, ℕ, zero, suc, ◌<◌, ◌≤◌, Bool, true, false, List, [], ◌∷◌, ◌++◌, length, replicate, append-nil}
use Rattle.std.specs.Prelude.{option_map}
use Rattle.wl_level.specs.declared.Level.{Level}
use Rattle.wl_level.proofs.Callers.{snoc}
use Rattle.wl_sync.specs.declared.Beat.{Beat}
use Rattle.wl_sync.specs.declared.Beat.TheVariants.{Plain, Sample, Start}
use Rattle.wl_sync.specs.declared.Sync.{Sync}
use Rattle.wl_sync.specs.declared.Seen.{Seen}
use Rattle.wl_sync.specs.Bits.{beat_of, sync_of}
use Rattle.wl_sync.specs.Skips.{IsPlain, IsUnmoved, IsUnsampled}
use Rattle.wl_node.specs.declared.setup.NodeSetup.{NodeSetup}
use Rattle.wl_node.specs.History.{History, staying_history, history_after, by_beat, is_integration, seen_next}
use Rattle.wl_node.specs.Quiet.{pending_of}
use Rattle.wl_trace.specs.Events.{noted}
use Rattle.wl_trace.specs.Synced.{sync_event, staying_syncs, with_next}
use Rattle.wl_level.specs.Levels.{is_dominant}
use Rattle.wl_machine.specs.Judged.{awaits_start, drive_of, is_idle_sort, stretch_of}
use Rattle.wl_trace.specs.Replay.{SampledPast, past_of}
use Rattle.wl_trace.proofs.Syncing.{history_more, syncs_more}

-- what the machine wants, by its past
abbrev pending_past : SampledPast → Level
pending_past p = drive_of (stretch_of p.inputs)

-- what the bit clock sees rests on the machine's past and the drive
pub seen_same : (g h : History) (level : Level) → past_of g ≡ past_of h → g.drive ≡ h.drive → seen_next g level ≡ seen_next h level
seen_same g h level p d i = record {
  level = level;
  idle = ap (λ (q : SampledPast). is_idle_sort (stretch_of q.inputs).sort) p i;
  awaits = ap (λ (q : SampledPast). awaits_start (stretch_of q.inputs)) p i;
  integrates = ap (λ (q : SampledPast). is_integration (stretch_of q.inputs).sort) p i;
  driving = ap is_dominant d i;
}

-- the history of more levels is this one, that has seen more
pub record IsSkipped (setup : NodeSetup) (levels : List Level) (level : Level) (m : ℕ) : Type 0 where
  pub seen : (staying_history setup (levels ++ replicate m level)).seen ≡ (staying_history setup levels).seen ++ replicate m (seen_next (staying_history setup levels) level)
  pub past : past_of (staying_history setup (levels ++ replicate m level)) ≡ past_of (staying_history setup levels)
  pub drive : (staying_history setup (levels ++ replicate m level)).drive ≡ (staying_history setup levels).drive

-- none of so many quanta samples, and a start of a bit leaves the drive
pub record IsSkippable (setup : NodeSetup) (h : History) (level : Level) (n : ℕ) : Type 0 where
  pub unsampled : IsUnsampled setup.segments h.seen (seen_next h level) n
  pub starts : (m : ℕ) → m < n → beat_of setup.segments (h.seen ++ replicate m (seen_next h level)) (seen_next h level) ≡ Start → h.drive ≡ pending_of h

-- where they are all plain, or the node drives what its machine wants
pub settled_starts : (setup : NodeSetup) (h : History) (x : Seen) (n : ℕ) (settled : Bool) → (settled ≡ true → h.drive ≡ pending_of h)
    → (settled ≡ false → IsPlain setup.segments h.seen x n)
    → (m : ℕ) → m < n → beat_of setup.segments (h.seen ++ replicate m x) x ≡ Start → h.drive ≡ pending_of h
settled_starts setup h x n true same plain m less e = same refl
settled_starts setup h x n false same plain m less e = (let f = plain refl m less in cc)

module _ (setup : NodeSetup) (levels : List Level) (level : Level) where
  -- a quantum that doesn't sample
  one : (g : History) (b : Beat) → ((v : Level) → b ≢ Sample v) → (b ≡ Start → g.drive ≡ pending_of g)
      → (past_of (by_beat setup g level b) ≡ past_of g) × ((by_beat setup g level b).drive ≡ g.drive)
  one g Plain unsampled starts = (refl, refl)
  one g Start unsampled starts = (refl, sym (starts refl))
  one g (Sample v) unsampled starts = absurd (unsampled v refl)

  skipped : (n m : ℕ) → IsSkippable setup (staying_history setup levels) level m → n < m → IsSkipped setup levels level n → IsSkipped setup levels level (suc n)
  skipped n m able less is =
      let more : List Level = levels ++ replicate n level in
      let h : History = staying_history setup levels in
      let g : History = staying_history setup more in
      let x : Seen = seen_next h level in
      let next : levels ++ replicate (suc n) level ≡ more ++ level ∷ [] = snoc levels level n in
      let after : staying_history setup (levels ++ replicate (suc n) level) ≡ history_after setup g level = ap (staying_history setup) next ∙ history_more setup more level in
      let same : seen_next g level ≡ x = seen_same g h level is.past is.drive in
      let beat : beat_of setup.segments g.seen (seen_next g level) ≡ beat_of setup.segments (h.seen ++ replicate n x) x =
      ap₂ (λ (s : List Seen) (y : Seen). beat_of setup.segments s y) is.seen same in
      let wanted : pending_of g ≡ pending_of h = ap pending_past is.past in
      let step = one g (beat_of setup.segments g.seen (seen_next g level)) (λ v e. able.unsampled n v less (sym beat ∙ e))
      (λ e. is.drive ∙ able.starts n less (sym beat ∙ e) ∙ sym wanted) in
      record {
        seen =
            ap (λ (k : History). k.seen) after
            ∙ ap (λ (s : List Seen). s ++ seen_next g level ∷ []) is.seen
            ∙ ap (λ (y : Seen). (h.seen ++ replicate n x) ++ y ∷ []) same
            ∙ sym (snoc h.seen x n);
        past = ap past_of after ∙ step.0 ∙ is.past;
        drive = ap (λ (k : History). k.drive) after ∙ step.1 ∙ is.drive;
      }

  pub all_skipped : (n m : ℕ) → n ≤ m → IsSkippable setup (staying_history setup levels) level m → IsSkipped setup levels level n
  all_skipped zero m less able = record {
    seen = ap (λ (ls : List Level). (staying_history setup ls).seen) (append-nil levels) ∙ sym (append-nil (staying_history setup levels).seen);
    past = ap (λ (ls : List Level). past_of (staying_history setup ls)) (append-nil levels);
    drive = ap (λ (ls : List Level). (staying_history setup ls).drive) (append-nil levels);
  }
  all_skipped (suc n) m less able = skipped n m able (omega arith) (all_skipped n m (omega arith) able)

  -- and where no edge synchronises it, none is added
  pub none_synced : (n m : ℕ) → n ≤ m → IsSkippable setup (staying_history setup levels) level m
      → IsUnmoved setup.segments (staying_history setup levels).seen (seen_next (staying_history setup levels) level) m → staying_syncs setup (levels ++ replicate n level) ≡ staying_syncs setup levels
  none_synced zero m less able unmoved = ap (staying_syncs setup) (append-nil levels)
  none_synced (suc n) m less able unmoved =
      let is = all_skipped n m (omega arith) able in
      let more : List Level = levels ++ replicate n level in
      let g : History = staying_history setup more in
      let x : Seen = seen_next (staying_history setup levels) level in
      let same : seen_next g level ≡ x = seen_same g (staying_history setup levels) level is.past is.drive in
      let none : sync_of setup.segments g.seen (seen_next g level) ≡ None =
      ap₂ (λ (s : List Seen) (y : Seen). sync_of setup.segments s y) is.seen same ∙ unmoved n (omega arith) in
      ap (staying_syncs setup) (snoc levels level n) ∙ syncs_more setup more level
      ∙ ap (λ (o : Option Sync). with_next (staying_syncs setup more) (option_map (λ sync. noted (length g.seen) (length g.samples) (sync_event sync)) o)) none
      ∙ none_synced n m (omega arith) able unmoved
