-- A node whose bit clock no edge moves, one quantum later.
use Rattle.std.proofs.Common.{◌≡◌, ◌≢◌, ◌∙◌, inl, inr, refl, sym, ap, subst, ℕ, zero, suc, ◌+◌, ◌<◌, ◌≤◌, List, [], ◌∷◌, ◌++◌, length, Bool, false, cond, arith, append-nil, length-append, add-one}
use Rattle.std.specs.Prelude.{count_by}
use Rattle.std.proofs.lemmas.List.Sums.{fold-append, sum_by-append}
use Rattle.wl_level.specs.declared.Level.{Level}
use Rattle.wl_level.specs.declared.Level.TheVariants.{Dominant, Recessive}
use Rattle.wl_level.specs.Levels.{is_dominant}
use Rattle.wl_segments.specs.Lengths.{Lengths, sample_at, bit_quanta}
use Rattle.wl_sync.specs.declared.Beat.{Beat}
use Rattle.wl_sync.specs.declared.Beat.TheVariants.{Plain, Sample, Start}
use Rattle.wl_sync.specs.declared.Seen.{Seen}
use Rattle.wl_sync.specs.Bits.{beat_of}
use Rattle.wl_sync.specs.Running.{Running, clock_after, sample_after}
use Rattle.wl_sync.specs.Steps.{running_sync, running_after, running_beat, running_edge}
use Rattle.wl_confine.specs.declared.Happened.{Happened}
use Rattle.wl_confine.specs.declared.Happened.TheVariants.{Nothing, Acked, Sent}
use Rattle.wl_confine.specs.declared.Mode.TheVariants.{Active}
use Rattle.wl_confine.specs.Counts.{counts_of, counts_after, no_counts, mode_of, is_error}
use Rattle.wl_machine.specs.Stretch.{Stretch, Sampled}
use Rattle.wl_machine.specs.Stretch.Input.{Sample as Given}
use Rattle.wl_machine.specs.Judged.{judged, stretch_of, stretch_after, drive_of}
use Rattle.wl_machine.proofs.Callers.{stretch_next}
use Rattle.wl_node.specs.declared.setup.NodeSetup.{NodeSetup}
use Rattle.wl_node.specs.declared.setup.Passed.{Passed}
use Rattle.wl_node.specs.History.{History, staying_history, history_after, no_history, seen_next, sampled_next, by_beat, switched_off, passed_frames, error_count}
use Rattle.wl_phase.specs.Ways.{ByTheBook}
use Rattle.wl_phase.specs.InStep.{seen_before}
use Rattle.wl_phase.proofs.Callers.{Goes, IsValid, valid_after, before_dominant, now_recessive}
use Rattle.wl_buses.specs.BothProofs.Levels.{levels_before}
use Rattle.wl_buses.proofs.OneSender.Gliding.{IsAt, IsUnmovedBy, goes_on, is_plain, is_sample, starts, is_start}

-- the laws of the bit clock
pub record ClockGoes : Type 0 where
  pub goes : Goes
  pub level : (l : Lengths) (past : List Seen) (x : Seen) → (clock_after l (past ++ x ∷ [])).level ≡ x.level
  pub sample : (l : Lengths) (past : List Seen) (x : Seen) → (clock_after l (past ++ x ∷ [])).sample ≡ sample_after (beat_of l past x) (clock_after l past).sample

counts_more : (hs : List Happened) (h : Happened) → counts_of (hs ++ h ∷ []) ≡ counts_after (counts_of hs) h
counts_more hs h = fold-append counts_after no_counts hs (h ∷ [])

-- no error, and nothing that counts if nothing did before: nothing at all, an acknowledgement, or a frame that is sent
abbrev pub IsCalm : Happened → Type 0
IsCalm h = (counts_after no_counts h ≡ no_counts) × (is_error h ≡ false)

pub calm_nothing : (h : Happened) → h ≡ Nothing → IsCalm h
calm_nothing h e = (ap (counts_after no_counts) e, ap is_error e)

pub calm_acked : (h : Happened) → h ≡ Acked → IsCalm h
calm_acked h e = (ap (counts_after no_counts) e, ap is_error e)

pub calm_sent : (h : Happened) → h ≡ Sent → IsCalm h
calm_sent h e = (ap (counts_after no_counts) e, ap is_error e)

calm_error : (h : Happened) → IsCalm h → count_by is_error (h ∷ []) ≡ 0
calm_error h c = ap (λ b. 0 + cond b 1 0) c.1

module _ (clocks : ClockGoes) (setup : NodeSetup) (book : ByTheBook setup.segments) (levels : ℕ → Level) where
  abbrev l : Lengths
  l = setup.segments

  -- the node before quantum k
  abbrev pub node : ℕ → History
  node k = staying_history setup (levels_before levels k)

  abbrev pub sees_at : ℕ → Seen
  sees_at k = seen_next (node k) (levels k)

  abbrev pub clock_at : ℕ → Running
  clock_at k = clock_after l (node k).seen

  abbrev pub beat_at : ℕ → Beat
  beat_at k = beat_of l (node k).seen (sees_at k)

  pub node_first : node 0 ≡ no_history
  unfolding staying_history
  node_first = refl

  pub node_next : (k : ℕ) → node (suc k) ≡ history_after setup (node k) (levels k)
  unfolding staying_history
  node_next k = fold-append (history_after setup) no_history (levels_before levels k) (levels k ∷ [])

  pub seen_are : (k : ℕ) → (node k).seen ≡ seen_before sees_at k
  seen_are zero = ap (λ h. h.seen) node_first
  seen_are (suc k) = ap (λ h. h.seen) (node_next k) ∙ ap (λ v. v ++ sees_at k ∷ []) (seen_are k)

  -- the beat of a quantum, by what was seen before it
  pub beat_same : (k : ℕ) → beat_of l (seen_before sees_at k) (sees_at k) ≡ beat_at k
  beat_same k = ap (λ v. beat_of l v (sees_at k)) (sym (seen_are k))

  seen_next_is : (k : ℕ) → (node (suc k)).seen ≡ (node k).seen ++ sees_at k ∷ []
  seen_next_is k = ap (λ h. h.seen) (node_next k)

  pub seen_length : (k : ℕ) → length (node k).seen ≡ k
  seen_length zero = ap (λ h. length h.seen) node_first
  seen_length (suc k) = ap length (seen_next_is k) ∙ length-append (node k).seen (sees_at k ∷ []) ∙ ap (λ n. n + 1) (seen_length k) ∙ add-one k

  pub clock_next : (k : ℕ) → clock_at (suc k) ≡ running_after (clock_at k) (sees_at k)
  clock_next k = ap (clock_after l) (seen_next_is k) ∙ clocks.goes.clock l (node k).seen (sees_at k)

  pub level_before : (k : ℕ) → (clock_at (suc k)).level ≡ levels k
  level_before k = ap (λ v. (clock_after l v).level) (seen_next_is k) ∙ clocks.level l (node k).seen (sees_at k)

  pub sample_before : (k : ℕ) (level : Level) → beat_at k ≡ Sample level → (clock_at (suc k)).sample ≡ level
  sample_before k level e =
      ap (λ v. (clock_after l v).sample) (seen_next_is k) ∙ clocks.sample l (node k).seen (sees_at k) ∙ ap (λ b. sample_after b (clock_at k).sample) e

  sample_same : (k : ℕ) (b : Beat) → beat_at k ≡ b → (clock_at (suc k)).sample ≡ sample_after b (clock_at k).sample
  sample_same k b e =
      ap (λ v. (clock_after l v).sample) (seen_next_is k) ∙ clocks.sample l (node k).seen (sees_at k) ∙ ap (λ x. sample_after x (clock_at k).sample) e

  pub valid_at : (k : ℕ) → IsValid (clock_at k)
  valid_at k = valid_after clocks.goes l book (node k).seen

  beat_is : (k : ℕ) (b : Beat) → running_beat (running_edge (clock_at k)) (sees_at k) ≡ b → beat_at k ≡ b
  beat_is k b e = clocks.goes.beat l (node k).seen (sees_at k) ∙ e

  -- what a quantum with this beat leaves
  module _ (k : ℕ) (b : Beat) (e : beat_at k ≡ b) where
    pub inputs_by : (node (suc k)).inputs ≡ (by_beat setup (node k) (levels k) b).inputs
    inputs_by = ap (λ h. h.inputs) (node_next k) ∙ ap (λ x. (by_beat setup (node k) (levels k) x).inputs) e

    pub drive_by : (node (suc k)).drive ≡ (by_beat setup (node k) (levels k) b).drive
    drive_by = ap (λ h. h.drive) (node_next k) ∙ ap (λ x. (by_beat setup (node k) (levels k) x).drive) e

    pub frames_by : (node (suc k)).frames ≡ (by_beat setup (node k) (levels k) b).frames
    frames_by = ap (λ h. h.frames) (node_next k) ∙ ap (λ x. (by_beat setup (node k) (levels k) x).frames) e

    pub errors_by : error_count (node (suc k)) ≡ error_count (by_beat setup (node k) (levels k) b)
    errors_by = ap error_count (node_next k) ∙ ap (λ x. error_count (by_beat setup (node k) (levels k) x)) e

    pub counts_by : counts_of (node (suc k)).happened ≡ counts_of (by_beat setup (node k) (levels k) b).happened
    counts_by = ap (λ h. counts_of h.happened) (node_next k) ∙ ap (λ x. counts_of (by_beat setup (node k) (levels k) x).happened) e

  -- what a node has done: its stretch, what it drives, and the frames that have passed, without an error and a count
  pub record Does (passed : List Passed) (k : ℕ) (s : Stretch) (drive : Level) : Type 0 where
    pub stretch : stretch_of (node k).inputs ≡ s
    pub drives : (node k).drive ≡ drive
    pub frames : (node k).frames ≡ passed
    pub errors : error_count (node k) ≡ 0
    pub counts : counts_of (node k).happened ≡ no_counts

  -- a sample of this stretch that makes no error, and completes these frames
  pub record Completes (more : List Passed) (k : ℕ) (s next : Stretch) : Type 0 where
    pub calm : IsCalm (judged s (sampled_next setup (node k) (levels k))).happened
    pub ended : passed_frames k (judged s (sampled_next setup (node k) (levels k))).ended ≡ more
    pub stretch : stretch_after s (Given (sampled_next setup (node k) (levels k))) ≡ next

  -- or none
  abbrev pub Takes : (k : ℕ) (s next : Stretch) → Type 0
  Takes = Completes []

  pub does_first : Does [] 0 (stretch_of []) Recessive
  does_first = record {
    stretch = ap (λ h. stretch_of h.inputs) node_first;
    drives = ap (λ h. h.drive) node_first;
    frames = ap (λ h. h.frames) node_first;
    errors = ap error_count node_first;
    counts = ap (λ h. counts_of h.happened) node_first;
  }

  pub does_plain : {passed : List Passed} (k : ℕ) (s : Stretch) (drive : Level) → beat_at k ≡ Plain → Does passed k s drive → Does passed (suc k) s drive
  does_plain k s drive e d = record {
    stretch = ap stretch_of (inputs_by k Plain e) ∙ d.stretch;
    drives = drive_by k Plain e ∙ d.drives;
    frames = frames_by k Plain e ∙ d.frames;
    errors = errors_by k Plain e ∙ d.errors;
    counts = counts_by k Plain e ∙ d.counts;
  }

  pub does_start : {passed : List Passed} (k : ℕ) (s : Stretch) (drive : Level) → beat_at k ≡ Start → Does passed k s drive → Does passed (suc k) s (drive_of s)
  does_start k s drive e d = record {
    stretch = ap stretch_of (inputs_by k Start e) ∙ d.stretch;
    drives = drive_by k Start e ∙ ap drive_of d.stretch;
    frames = frames_by k Start e ∙ d.frames;
    errors = errors_by k Start e ∙ d.errors;
    counts = counts_by k Start e ∙ d.counts;
  }

  -- nothing has counted
  pub mode_is : {passed : List Passed} (k : ℕ) (s : Stretch) (drive : Level) → Does passed k s drive → (sampled_next setup (node k) (levels k)).mode ≡ Active
  mode_is k s drive d = ap mode_of d.counts

  pub does_complete : {passed : List Passed} (more : List Passed) (k : ℕ) (s next : Stretch) (drive level : Level) → beat_at k ≡ Sample level → Does passed k s drive
      → Completes more k s next → Does (passed ++ more) (suc k) next drive
  does_complete more k s next drive level e d t =
      let x : Sampled = sampled_next setup (node k) (levels k) in
      let h : Happened = (judged (stretch_of (node k).inputs) x).happened in
      let calm : IsCalm (judged (stretch_of (node k).inputs) x).happened = subst (λ v. IsCalm (judged v x).happened) (sym d.stretch) t.calm in
      let frame : passed_frames k (judged (stretch_of (node k).inputs) x).ended ≡ more = ap (λ v. passed_frames k (judged v x).ended) d.stretch ∙ t.ended in
      let now : counts_of ((node k).happened ++ (judged (stretch_of (node k).inputs) x).happened ∷ []) ≡ no_counts =
      counts_more (node k).happened (judged (stretch_of (node k).inputs) x).happened
      ∙ ap (λ c. counts_after c (judged (stretch_of (node k).inputs) x).happened) d.counts ∙ calm.0 in
      let mode : switched_off x.mode (mode_of (counts_of ((node k).happened ++ (judged (stretch_of (node k).inputs) x).happened ∷ []))) ≡ [] =
      ap (λ m. switched_off m (mode_of (counts_of ((node k).happened ++ (judged (stretch_of (node k).inputs) x).happened ∷ [])))) (mode_is k s drive d)
      ∙ ap (λ c. switched_off Active (mode_of c)) now in
      record {
        stretch =
            ap stretch_of (inputs_by k (Sample level) e ∙ ap (λ v. ((node k).inputs ++ Given x ∷ []) ++ v) mode ∙ append-nil ((node k).inputs ++ Given x ∷ []))
            ∙ stretch_next (node k).inputs (Given x) ∙ ap (λ v. stretch_after v (Given x)) d.stretch ∙ t.stretch;
        drives = drive_by k (Sample level) e ∙ d.drives;
        frames =
            frames_by k (Sample level) e
            ∙ ap (λ n. (node k).frames ++ passed_frames n (judged (stretch_of (node k).inputs) x).ended) (seen_length k)
            ∙ ap (λ v. (node k).frames ++ v) frame ∙ ap (λ v. v ++ more) d.frames;
        errors =
            errors_by k (Sample level) e ∙ sum_by-append (λ h. cond (is_error h) 1 0) (node k).happened ((judged (stretch_of (node k).inputs) x).happened ∷ [])
            ∙ ap (λ n. error_count (node k) + n) (calm_error (judged (stretch_of (node k).inputs) x).happened calm)
            ∙ ap (λ n. n + 0) d.errors;
        counts = counts_by k (Sample level) e ∙ now;
      }

  pub does_sample : {passed : List Passed} (k : ℕ) (s next : Stretch) (drive level : Level) → beat_at k ≡ Sample level → Does passed k s drive → Takes k s next
      → Does passed (suc k) next drive
  does_sample {passed = passed} k s next drive level e d t =
      subst (λ v. Does v (suc k) next drive) (append-nil passed) (does_complete [] k s next drive level e d t)

  -- the same, with its place in a bit that no edge has moved
  pub record IsGoing (passed : List Passed) (k p longer : ℕ) (fresh : Bool) (s : Stretch) (drive : Level) : Type 0 where
    pub place : IsAt (clock_at k) p longer fresh
    pub does : Does passed k s drive

  -- no edge moves the bit at quantum k
  abbrev pub IsUnmoved : ℕ → ℕ → Bool → Type 0
  IsUnmoved k p fresh = IsUnmovedBy (clock_at k) (sees_at k) p fresh

  pub unmoved_recessive : (k p : ℕ) (fresh : Bool) → levels k ≡ Recessive → IsUnmoved k p fresh
  unmoved_recessive k p fresh e = inl (now_recessive (clock_at k) (sees_at k) e)

  pub unmoved_before : (k p : ℕ) (fresh : Bool) → levels k ≡ Dominant → IsUnmoved (suc k) p fresh
  unmoved_before k p fresh e = inl (before_dominant (clock_at (suc k)) (sees_at (suc k)) (level_before k ∙ e))

  pub unmoved_driving : (k p : ℕ) → (node k).drive ≡ Dominant → p ≤ sample_at l → IsUnmoved k p false
  unmoved_driving k p e early = inr (ap is_dominant e, early, refl)

  module _ {passed : List Passed} (k p longer : ℕ) (fresh : Bool) (s : Stretch) (drive : Level) (g : IsGoing passed k p longer fresh s drive) where
    place_on : IsUnmoved k p fresh → p < bit_quanta l → IsAt (clock_at (suc k)) (suc p) longer fresh
    place_on u less = subst (λ r. IsAt r (suc p) longer fresh) (sym (clock_next k)) (goes_on (clock_at k) (sees_at k) p longer fresh book g.place (valid_at k) u less)

    pub step_on : IsUnmoved k p fresh → p < bit_quanta l → p ≢ sample_at l → IsGoing passed (suc k) (suc p) longer fresh s drive
    step_on u less apart = record {
      place = place_on u less;
      does = does_plain k s drive (beat_is k Plain (is_plain (clock_at k) (sees_at k) p longer fresh book g.place (valid_at k) u less apart)) g.does;
    }

    -- where no sample comes the last one stays
    pub sample_on : IsUnmoved k p fresh → p < bit_quanta l → p ≢ sample_at l → (clock_at (suc k)).sample ≡ (clock_at k).sample
    sample_on u less apart = sample_same k Plain (beat_is k Plain (is_plain (clock_at k) (sees_at k) p longer fresh book g.place (valid_at k) u less apart))

    pub sample_start : running_sync (clock_at k) (sees_at k) ≡ false → p ≡ bit_quanta l → (clock_at (suc k)).sample ≡ (clock_at k).sample
    sample_start e over = sample_same k Start (beat_is k Start (is_start (clock_at k) (sees_at k) p longer fresh book g.place (valid_at k) e over))

    pub beat_sample : IsUnmoved k p fresh → p ≡ sample_at l → beat_at k ≡ Sample (levels k)
    beat_sample u here = beat_is k (Sample (levels k)) (is_sample (clock_at k) (sees_at k) p longer fresh book g.place (valid_at k) u here)

    pub step_sample : (next : Stretch) → IsUnmoved k p fresh → p ≡ sample_at l → Takes k s next → IsGoing passed (suc k) (suc p) longer fresh next drive
    step_sample next u here t = record {
      place = place_on u (let low = book.lengths.ps2_low in omega arith);
      does = does_sample k s next drive (levels k) (beat_sample u here) g.does t;
    }

    pub step_complete : (more : List Passed) (next : Stretch) → IsUnmoved k p fresh → p ≡ sample_at l → Completes more k s next
        → IsGoing (passed ++ more) (suc k) (suc p) longer fresh next drive
    step_complete more next u here t = record {
      place = place_on u (let low = book.lengths.ps2_low in omega arith);
      does = does_complete more k s next drive (levels k) (beat_sample u here) g.does t;
    }

    pub step_start : running_sync (clock_at k) (sees_at k) ≡ false → p ≡ bit_quanta l → (f : Bool) → IsGoing passed (suc k) 1 0 f s (drive_of s)
    step_start e over f = record {
      place = subst (λ r. IsAt r 1 0 f) (sym (clock_next k)) (starts (clock_at k) (sees_at k) p longer fresh book g.place (valid_at k) e over f);
      does = does_start k s drive (beat_is k Start (is_start (clock_at k) (sees_at k) p longer fresh book g.place (valid_at k) e over)) g.does;
    }

-- what rests on the levels before a quantum alone
module _ (clocks : ClockGoes) (setup : NodeSetup) (book : ByTheBook setup.segments) (u v : ℕ → Level) (k : ℕ) (e : levels_before u k ≡ levels_before v k) where
  pub does_same : {passed : List Passed} (s : Stretch) (drive : Level) → Does clocks setup book u passed k s drive → Does clocks setup book v passed k s drive
  does_same s drive d = record {
    stretch = ap (λ ls. stretch_of (staying_history setup ls).inputs) (sym e) ∙ d.stretch;
    drives = ap (λ ls. (staying_history setup ls).drive) (sym e) ∙ d.drives;
    frames = ap (λ ls. (staying_history setup ls).frames) (sym e) ∙ d.frames;
    errors = ap (λ ls. error_count (staying_history setup ls)) (sym e) ∙ d.errors;
    counts = ap (λ ls. counts_of (staying_history setup ls).happened) (sym e) ∙ d.counts;
  }

  pub going_same : {passed : List Passed} (p longer : ℕ) (fresh : Bool) (s : Stretch) (drive : Level) → IsGoing clocks setup book u passed k p longer fresh s drive
      → IsGoing clocks setup book v passed k p longer fresh s drive
  going_same p longer fresh s drive g = record {
    place = subst (λ ls. IsAt (clock_after setup.segments (staying_history setup ls).seen) p longer fresh) e g.place;
    does = does_same s drive g.does;
  }
