-- A node from one of its samples to the next: what stays until then, and what the sample adds.
use Rattle.std.proofs.Common.{◌≡◌, ◌∙◌, refl, sym, ap, subst, ℕ, zero, suc, ◌+◌, ◌-◌, ◌<◌, ◌≤◌, Bool, false, [], ◌∷◌, ◌++◌, length, arith, append-nil, length-append}
use Rattle.std.specs.Prelude.{count_by}
use Rattle.wl_level.specs.declared.Level.{Level}
use Rattle.wl_confine.specs.declared.Happened.{Happened}
use Rattle.wl_confine.specs.declared.Mode.TheVariants.{Active}
use Rattle.wl_confine.specs.Counts.{counts_of, mode_of, no_counts}
use Rattle.wl_segments.specs.Lengths.{Lengths}
use Rattle.wl_sync.specs.declared.Beat.{Beat}
use Rattle.wl_sync.specs.declared.Beat.TheVariants.{Plain, Sample, Start}
use Rattle.wl_sync.specs.declared.Seen.{Seen}
use Rattle.wl_sync.specs.Bits.{beat_of}
use Rattle.wl_machine.specs.Stretch.{Judgement, Sampled, Stretch}
use Rattle.wl_machine.specs.Stretch.Ended.{NoFrame}
use Rattle.wl_machine.specs.Stretch.Input.{Sample as Given}
use Rattle.wl_machine.specs.Judged.{judged, stretch_after, stretch_of}
use Rattle.wl_machine.proofs.Callers.{stretch_next}
use Rattle.wl_node.specs.declared.setup.NodeSetup.{NodeSetup}
use Rattle.wl_node.specs.History.{History, by_beat, passed_frames, sampled_next, switched_off}
use Rattle.wl_phase.specs.InStep.{seen_before}
use Rattle.wl_phase.specs.Ways.{ByTheBook, WayLaws}
use Rattle.wl_buses.specs.OneFrame.Clocked.{SamplesBy}
use Rattle.wl_buses.specs.OneFrame.Nodes.{IsRun, clock_sees}
use Rattle.wl_buses.proofs.OneFrame.Nodes.{happened_by, inputs_by, seen_are}
use Rattle.wl_buses.proofs.PassedFrames.Quanta.{calm_one}

-- no quantum between two is a sample
abbrev pub NoneSamples : Lengths → (ℕ → Seen) → (from to : ℕ) → Type 0
NoneSamples l seen from to = (q : ℕ) → from < q → q < to → (level : Level) → SamplesBy l seen q level → ⊥

-- what a node has got, found and kept stays
pub record Stays (old new : History) : Type 0 where
  pub inputs : new.inputs ≡ old.inputs
  pub happened : new.happened ≡ old.happened
  pub frames : new.frames ≡ old.frames

stays_by : (setup : NodeSetup) (h : History) (level : Level) (b : Beat) → ((v : Level) → b ≡ Sample v → ⊥) → Stays h (by_beat setup h level b)
stays_by setup h level Plain none = record { inputs = refl; happened = refl; frames = refl }
stays_by setup h level Start none = record { inputs = refl; happened = refl; frames = refl }
stays_by setup h level (Sample v) none = absurd (none v refl)

module _ (setup : NodeSetup) (levels : ℕ → Level) (node : ℕ → History) (run : IsRun setup levels node) (l : Lengths) (segments : setup.segments ≡ l) where
  abbrev sees : ℕ → Seen
  sees = clock_sees levels node

  beat_as : (q : ℕ) (v : Level) → SamplesBy l sees q v → beat_of setup.segments (seen_before sees q) (sees q) ≡ Sample v
  beat_as q v e = ap (λ m. beat_of m (seen_before sees q) (sees q)) segments ∙ e

  frames_by : (q : ℕ) (b : Beat) → beat_of setup.segments (seen_before sees q) (sees q) ≡ b → (node (suc q)).frames ≡ (by_beat setup (node q) (levels q) b).frames
  frames_by q b e =
      ap (λ h. h.frames) (run.next q) ∙ ap (λ x. (by_beat setup (node q) (levels q) x).frames) (ap (λ v. beat_of setup.segments v (sees q)) (seen_are setup levels node run q) ∙ e)

  -- a quantum that is no sample
  stays_one : (q : ℕ) → ((v : Level) → SamplesBy l sees q v → ⊥) → Stays (node q) (node (suc q))
  stays_one q none =
      let b : Beat = beat_of setup.segments (seen_before sees q) (sees q) in
      let x = stays_by setup (node q) (levels q) (beat_of setup.segments (seen_before sees q) (sees q)) (λ v e. none v (ap (λ m. beat_of m (seen_before sees q) (sees q)) (sym segments) ∙ e)) in
      record {
        inputs = inputs_by setup levels node run q (beat_of setup.segments (seen_before sees q) (sees q)) refl ∙ x.inputs;
        happened = happened_by setup levels node run q (beat_of setup.segments (seen_before sees q) (sees q)) refl ∙ x.happened;
        frames = frames_by q (beat_of setup.segments (seen_before sees q) (sees q)) refl ∙ x.frames;
      }

  stays_up : (k m : ℕ) → NoneSamples l sees k m → (d : ℕ) → suc k + d ≤ m → Stays (node (suc k)) (node (suc k + d))
  stays_up k m none zero less =
      subst (λ q. Stays (node (suc k)) (node q)) (let e : suc k ≡ suc k + 0 = omega arith in e) (record { inputs = refl; happened = refl; frames = refl })
  stays_up k m none (suc d) less =
      (let a = stays_up k m none d (omega arith) in
      let b = stays_one (suc k + d) (none (suc k + d) (omega arith) (omega arith)) in
      let e : suc (suc k + d) ≡ suc k + suc d = omega arith in
      subst (λ q. Stays (node (suc k)) (node q)) e (record { inputs = b.inputs ∙ a.inputs; happened = b.happened ∙ a.happened; frames = b.frames ∙ a.frames }))

  pub stays : (k m : ℕ) → k < m → NoneSamples l sees k m → Stays (node (suc k)) (node m)
  stays k m less none = (let e : suc k + (m - suc k) ≡ m = omega arith in subst (λ q. Stays (node (suc k)) (node q)) e (stays_up k m none (m - suc k) (omega arith)))

  pub stays_at : (k m q : ℕ) → k < q → q ≤ m → NoneSamples l sees k m → Stays (node (suc k)) (node q)
  stays_at k m q more less none = stays k q more (λ j a b. none j a (omega arith))

  -- a quantum that leaves what reached the machine is no sample
  longer_not : (x : Sampled) (h : History) → (h.inputs ++ Given x ∷ []) ++ switched_off x.mode (mode_of (counts_of (h.happened ++ (judged (stretch_of h.inputs) x).happened ∷ []))) ≡ h.inputs → ⊥
  longer_not x h e =
      let w = switched_off x.mode (mode_of (counts_of (h.happened ++ (judged (stretch_of h.inputs) x).happened ∷ []))) in
      let a = length-append (h.inputs ++ Given x ∷ []) (switched_off x.mode (mode_of (counts_of (h.happened ++ (judged (stretch_of h.inputs) x).happened ∷ [])))) in
      let b = length-append h.inputs (Given x ∷ []) in
      let c : length ((h.inputs ++ Given x ∷ []) ++ switched_off x.mode (mode_of (counts_of (h.happened ++ (judged (stretch_of h.inputs) x).happened ∷ [])))) ≡ length h.inputs = ap length e in
      omega arith

  pub unsampled : (q : ℕ) → (node (suc q)).inputs ≡ (node q).inputs → (v : Level) → SamplesBy l sees q v → ⊥
  unsampled q same v e = longer_not (sampled_next setup (node q) (levels q)) (node q) (sym (inputs_by setup levels node run q (Sample v) (beat_as q v e)) ∙ same)

  -- the level of a sample
  pub level_there : WayLaws → ByTheBook l → (m : ℕ) (v : Level) → SamplesBy l sees m v → levels m ≡ v
  level_there ways book m v e =
      let o = ways.only l (seen_before sees m) (sees m) v book e in
      let f : Sample v ≡ Sample (levels m) = sym e ∙ ways.sample l (seen_before sees m) (sees m) book o.0 o.1 in
      cc

  -- from the sample by quantum k to the next one, by quantum m, if the machine is in a stretch after the first
  module _ (k m : ℕ) (less : k < m) (none : NoneSamples l sees k m) (v : Level) (samples : SamplesBy l sees m v) (X : Stretch) (stretch : stretch_of (node (suc k)).inputs ≡ X) where
    pub last : Stays (node (suc k)) (node m)
    last = stays k m less none

    abbrev pub given : Sampled
    given = sampled_next setup (node m) (levels m)

    abbrev found : Judgement
    found = judged (stretch_of (node m).inputs) given

    beat : beat_of setup.segments (seen_before sees m) (sees m) ≡ Sample v
    beat = beat_as m v samples

    pub stretch_last : stretch_of (node m).inputs ≡ X
    stretch_last = ap stretch_of last.inputs ∙ stretch

    pub inputs_then : (node (suc m)).inputs ≡ ((node m).inputs ++ Given given ∷ []) ++ switched_off given.mode (mode_of (counts_of (node (suc m)).happened))
    inputs_then =
        inputs_by setup levels node run m (Sample v) beat
        ∙ ap (λ h. ((node m).inputs ++ Given given ∷ []) ++ switched_off given.mode (mode_of (counts_of h))) (sym (happened_by setup levels node run m (Sample v) beat))

    pub happened_then : (node (suc m)).happened ≡ (node m).happened ++ (judged X given).happened ∷ []
    happened_then = happened_by setup levels node run m (Sample v) beat ∙ ap (λ x. (node m).happened ++ (judged x given).happened ∷ []) stretch_last

    pub frames_then : (node (suc m)).frames ≡ (node (suc k)).frames ++ passed_frames (length (node m).seen) (judged X given).ended
    frames_then =
        frames_by m (Sample v) beat ∙ ap (λ x. (node m).frames ++ passed_frames (length (node m).seen) (judged x given).ended) stretch_last
        ∙ ap (λ f. f ++ passed_frames (length (node m).seen) (judged X given).ended) last.frames

    pub frames_stay : (judged X given).ended ≡ NoFrame → (node (suc m)).frames ≡ (node (suc k)).frames
    frames_stay e = frames_then ∙ ap (λ x. (node (suc k)).frames ++ passed_frames (length (node m).seen) x) e ∙ append-nil (node (suc k)).frames

    pub count_stays : (p : Happened → Bool) → p (judged X given).happened ≡ false → count_by p (node (suc m)).happened ≡ count_by p (node (suc k)).happened
    count_stays p e = ap (count_by p) happened_then ∙ calm_one p (node m).happened (judged X given).happened e ∙ ap (count_by p) last.happened

    -- the stretch after it, if nothing has counted
    pub stretch_then : counts_of (node (suc k)).happened ≡ no_counts → counts_of (node (suc m)).happened ≡ no_counts → stretch_of (node (suc m)).inputs ≡ stretch_after X (Given given)
    stretch_then before after =
        ap stretch_of (inputs_then ∙ ap (λ w. ((node m).inputs ++ Given given ∷ []) ++ w) off ∙ append-nil ((node m).inputs ++ Given given ∷ [])) ∙ stretch_next (node m).inputs (Given given)
        ∙ ap (λ x. stretch_after x (Given given)) stretch_last
      where
        off : switched_off given.mode (mode_of (counts_of (node (suc m)).happened)) ≡ []
        off =
            ap (λ c. switched_off (mode_of c) (mode_of (counts_of (node (suc m)).happened))) (ap counts_of last.happened ∙ before) ∙ ap (λ c. switched_off Active (mode_of c)) after
