-- Samples that are stored, and of which nothing else comes: those that a receiver's machine only keeps, and a recessive one of a free bus, with no frame ready.
use Rattle.std.proofs.Common.{◌≡◌, ◌∙◌, ℕ, ◌+◌, [], ◌∷◌, ◌++◌, length, None, Some, true, refl, sym, ap, subst, append-nil, add-zero, length-append}
use Rattle.std.proofs.lemmas.List.Sums.{fold-append}
use Rattle.wl_level.specs.declared.Level.{Level}
use Rattle.wl_level.specs.declared.Level.TheVariants.{Recessive}
use Rattle.wl_confine.specs.declared.Mode.{Mode}
use Rattle.wl_confine.specs.declared.Mode.TheVariants.{Active, Passive, Off}
use Rattle.wl_confine.specs.declared.Happened.TheVariants.{Nothing}
use Rattle.wl_confine.specs.Counts.{counts_after, counts_of, mode_of, no_counts, is_error}
use Rattle.wl_machine.specs.Stretch.{Stretch, Sampled, Judgement, continues}
use Rattle.wl_machine.specs.Stretch.Input.{Sample}
use Rattle.wl_machine.specs.Stretch.Sort.{Idle}
use Rattle.wl_machine.specs.Judged.{judged, judged_by, or_next, stretch_of, drive_by, drive_of, head_of, is_free_sort}
use Rattle.wl_machine.specs.BetweenFrames.{idle_on}
use Rattle.wl_machine.specs.Reached.{IsMachine}
use Rattle.wl_machine.specs.States.{sample_of}
use Rattle.wl_machine.proofs.Callers.{free_sort, stretch_next}
use Rattle.wl_node.specs.declared.setup.NodeSetup.{NodeSetup}
use Rattle.wl_node.specs.declared.samples.Samples.{Samples}
use Rattle.wl_node.specs.declared.traffic.Traffic.{Traffic}
use Rattle.wl_frame.specs.Grammar.{Content}
use Rattle.wl_node.specs.History.{History, error_count, sampled_next, history_after_judgement, history_after_sample, switched_off, unsent_of, head_at_next}
use Rattle.wl_node.specs.Kept.{IsTraffic}
use Rattle.wl_node.specs.Unsent.{IsChosen, IsUnsent}
use Rattle.wl_node.specs.Runs.{samples_by}
use Rattle.wl_node.proofs.Unsents.{count_append}

never_off : (m : Mode) → switched_off m m ≡ []
never_off Active = refl
never_off Passive = refl
never_off Off = refl

-- what is kept of the samples and of what came of them, but for the samples themselves
pub record IsApart (setup : NodeSetup) (kept : Traffic) (h : History) : Type 0 where
  pub machine : IsMachine kept.machine h.inputs
  pub counters : kept.counters ≡ counts_of h.happened
  pub pending : kept.pending ≡ drive_of (stretch_of h.inputs)
  pub unsent : IsUnsent setup kept.unsent h.frames
  pub errors : kept.errors ≡ error_count h
  pub frames : kept.frames.items ≡ h.frames
  pub sends : (frame : Content) → head_of (stretch_of h.inputs).sort ≡ Some frame → IsChosen setup.order (unsent_of setup h) frame kept.unsent.place

pub apart : (setup : NodeSetup) (kept : Traffic) (h : History) → IsTraffic setup kept h → IsApart setup kept h
apart setup kept h is = record {
  machine = is.machine;
  counters = is.counters;
  pending = is.pending;
  unsent = is.unsent;
  errors = is.errors;
  frames = is.frames;
  sends = is.sends;
}

pub whole : (setup : NodeSetup) (kept : Traffic) (h : History) → IsApart setup kept h
    → (kept.samples.keeps ≡ true → samples_by kept.samples.runs.items ≡ h.samples) → kept.samples.count ≡ length h.samples → IsTraffic setup kept h
whole setup kept h is samples sampled = record {
  machine = is.machine;
  counters = is.counters;
  pending = is.pending;
  unsent = is.unsent;
  errors = is.errors;
  samples = samples;
  sampled = sampled;
  frames = is.frames;
  sends = is.sends;
}

-- one sample more
pub record IsOneMore (old new : Samples) (quantum : ℕ) (level : Level) : Type 0 where
  pub keeps : new.keeps ≡ old.keeps
  pub samples : old.keeps ≡ true → samples_by new.runs.items ≡ samples_by old.runs.items ++ (quantum, level) ∷ []
  pub count : new.count ≡ old.count + 1

-- the history after such a sample
abbrev pub rested : History → Sampled → History
rested h x = record {
  seen = h.seen;
  inputs = h.inputs ++ Sample x ∷ [];
  happened = h.happened ++ Nothing ∷ [];
  samples = h.samples ++ (length h.seen, x.level) ∷ [];
  frames = h.frames;
  syncs = h.syncs;
  drive = h.drive;
}

module _ (setup : NodeSetup) (h : History) (level : Level) (judged_is : judged (stretch_of h.inputs) (sampled_next setup h level) ≡ continues Nothing) where
  abbrev x : Sampled
  x = sampled_next setup h level

  abbrev s : Stretch
  s = stretch_of h.inputs

  pub counts_same : counts_of (h.happened ++ Nothing ∷ []) ≡ counts_of h.happened
  counts_same = fold-append counts_after no_counts h.happened (Nothing ∷ [])

  off : switched_off x.mode (mode_of (counts_of (h.happened ++ Nothing ∷ []))) ≡ []
  off = ap (λ c. switched_off x.mode (mode_of c)) counts_same ∙ never_off x.mode

  pub history_is : history_after_sample setup h level ≡ rested h x
  history_is =
      ap (history_after_judgement h x) judged_is
      ∙ λ i. record {
        seen = h.seen;
        inputs = (ap (λ o. (h.inputs ++ Sample x ∷ []) ++ o) off ∙ append-nil (h.inputs ++ Sample x ∷ [])) i;
        happened = h.happened ++ Nothing ∷ [];
        samples = h.samples ++ (length h.seen, level) ∷ [];
        frames = append-nil h.frames i;
        syncs = h.syncs;
        drive = h.drive;
      }

  pub stretch_on : stretch_of (h.inputs ++ Sample x ∷ []) ≡ record { sort = s.sort; own = s.own ++ level ∷ [] }
  stretch_on = stretch_next h.inputs (Sample x) ∙ ap (λ (j : Judgement). or_next j.next (record { sort = s.sort; own = s.own ++ level ∷ [] })) judged_is

  keeps_apart : (old new : Traffic) → IsApart setup old h → new.counters ≡ old.counters → new.pending ≡ old.pending → new.unsent ≡ old.unsent
      → new.errors ≡ old.errors → new.frames ≡ old.frames → drive_of (stretch_of h.inputs) ≡ drive_of (stretch_of (h.inputs ++ Sample x ∷ []))
      → IsMachine new.machine (h.inputs ++ Sample x ∷ []) → IsApart setup new (history_after_sample setup h level)
  keeps_apart old new kept counters pending sent errors frames drive reached = subst (IsApart setup new) (sym history_is) (record {
    machine = reached;
    counters = counters ∙ kept.counters ∙ sym counts_same;
    pending = pending ∙ kept.pending ∙ drive;
    unsent = subst (λ u. IsUnsent setup u h.frames) (sym sent) kept.unsent;
    errors = errors ∙ kept.errors ∙ sym (count_append is_error h.happened (Nothing ∷ []) ∙ add-zero _);
    frames = ap (λ f. f.items) frames ∙ kept.frames;
    sends = λ frame e. subst (λ u. IsChosen setup.order (unsent_of setup h) frame u.place) (sym sent) (kept.sends frame (sym (ap (λ (r : Stretch). head_of r.sort) stretch_on) ∙ e));
  })

  pub keeps : (old new : Traffic) → IsTraffic setup old h → new.counters ≡ old.counters → new.pending ≡ old.pending → new.unsent ≡ old.unsent
      → new.errors ≡ old.errors → new.frames ≡ old.frames → IsOneMore old.samples new.samples (length h.seen) level
      → drive_of (stretch_of h.inputs) ≡ drive_of (stretch_of (h.inputs ++ Sample x ∷ [])) → IsMachine new.machine (h.inputs ++ Sample x ∷ [])
      → IsTraffic setup new (history_after_sample setup h level)
  keeps old new kept counters pending sent errors frames samples drive reached =
      whole setup new (history_after_sample setup h level)
      (keeps_apart old new (apart setup old h kept) counters pending sent errors frames drive reached)
      (λ on. (let was = sym samples.keeps ∙ on in samples.samples was ∙ ap (λ l. l ++ (length h.seen, level) ∷ []) (kept.samples was)))
      (samples.count ∙ ap (λ n. n + 1) kept.sampled ∙ sym (length-append h.samples ((length h.seen, level) ∷ [])))

module _ (setup : NodeSetup) (h : History) (none : head_at_next setup h ≡ None) (free : is_free_sort (stretch_of h.inputs).sort ≡ true) where
  abbrev sample : Sampled
  sample = sampled_next setup h Recessive

  idle : (stretch_of h.inputs).sort ≡ Idle
  idle = free_sort (stretch_of h.inputs).sort free

  judged_is : judged (stretch_of h.inputs) sample ≡ continues Nothing
  judged_is = ap (λ t. judged_by t (stretch_of h.inputs).own sample) idle ∙ ap idle_on none

  pub history_free : history_after_sample setup h Recessive ≡ rested h sample
  history_free = history_is setup h Recessive judged_is

  pub sort_stays : (stretch_of (h.inputs ++ Sample sample ∷ [])).sort ≡ Idle
  sort_stays = ap (λ (r : Stretch). r.sort) (stretch_on setup h Recessive judged_is) ∙ idle

  drive_stays : drive_of (stretch_of h.inputs) ≡ drive_of (stretch_of (h.inputs ++ Sample sample ∷ []))
  drive_stays =
      ap (λ t. drive_by t (stretch_of h.inputs).own) idle
      ∙ sym (ap drive_of (stretch_on setup h Recessive judged_is) ∙ ap (λ t. drive_by t ((stretch_of h.inputs).own ++ Recessive ∷ [])) idle)

  x_is : sample_of Recessive None sample.mode ≡ sample
  x_is = λ i. record { level = Recessive; head = sym none i; mode = sample.mode }

  pub rests : (old new : Traffic) → IsTraffic setup old h → new.machine ≡ old.machine → new.counters ≡ old.counters → new.pending ≡ old.pending → new.unsent ≡ old.unsent
      → new.errors ≡ old.errors → new.frames ≡ old.frames → IsOneMore old.samples new.samples (length h.seen) Recessive
      → IsMachine old.machine (h.inputs ++ Sample (sample_of Recessive None sample.mode) ∷ [])
      → IsTraffic setup new (history_after_sample setup h Recessive)
  rests old new kept machine counters pending sent errors frames samples reached =
      keeps setup h Recessive judged_is old new kept counters pending sent errors frames samples drive_stays
      (subst (λ m. IsMachine m (h.inputs ++ Sample sample ∷ [])) (sym machine) (subst (λ y. IsMachine old.machine (h.inputs ++ Sample y ∷ [])) x_is reached))

  pub rests_apart : (kept : Traffic) → IsApart setup kept h → IsMachine kept.machine (h.inputs ++ Sample (sample_of Recessive None sample.mode) ∷ [])
      → IsApart setup kept (history_after_sample setup h Recessive)
  rests_apart kept is reached =
      keeps_apart setup h Recessive judged_is kept kept is refl refl refl refl refl drive_stays
      (subst (λ y. IsMachine kept.machine (h.inputs ++ Sample y ∷ [])) x_is reached)
