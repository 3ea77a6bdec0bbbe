-- A line whose nodes wait for a first frame is silent.
use Rattle.std.proofs.Common.{◌≡◌, ◌∙◌, ◌⊎◌, inl, inr, refl, sym, ap, subst, ℕ, suc, ◌+◌, ◌*◌, ◌<◌, ◌≤◌, ◌||◌, Bool, true, false, [], length, replicate, None, arith}
use Rattle.std.proofs.lemmas.Bool.{cases_Bool, cases_lt}
use Rattle.wl_level.specs.declared.Level.{Level}
use Rattle.wl_level.specs.declared.Level.TheVariants.{Recessive}
use Rattle.wl_level.specs.Levels.{is_dominant, level_of}
use Rattle.wl_confine.specs.Counts.{counts_of, is_error, mode_of, no_counts}
use Rattle.wl_segments.specs.Lengths.{bit_quanta, sample_at}
use Rattle.wl_topology.specs.Driven.{driven}
use Rattle.wl_machine.specs.Judged.{stretch_of}
use Rattle.wl_machine.specs.Stretch.{Stretch}
use Rattle.wl_machine.specs.Stretch.Sort.{Idle, Integration}
use Rattle.wl_node.specs.declared.setup.NodeSetup.{NodeSetup}
use Rattle.wl_node.specs.History.{History, error_count, staying_history, unsent_of}
use Rattle.wl_phase.specs.Ways.{ByTheBook}
use Rattle.wl_plan.specs.Line.{Line}
use Rattle.wl_plan.specs.Simulation.{level, seen}
use Rattle.wl_plan.specs.Sound.{IsCausal}
use Rattle.wl_wire.specs.InStep.{AreSoundFrames}
use Rattle.wl_heal.specs.Silence.{is_off, is_off_by}
use Rattle.wl_buses.specs.BothProofs.Expected.{IsExpected, levels_found}
use Rattle.wl_buses.specs.BothProofs.Levels.{levels_before}
use Rattle.wl_buses.specs.BothProofs.Queues.{head_at, queued_contents, unsent_after}
use Rattle.wl_buses.specs.OneFrame.Lines.{node_after}
use Rattle.wl_buses.specs.OneFrame.Machines.{no_frame_sample}
use Rattle.wl_buses.specs.OneFrame.Stations.{AreStations, Stations}
use Rattle.wl_buses.specs.CleanLines.Lines.{line_history}
use Rattle.wl_buses.proofs.Callers.{quiet_after, run_of, still_at, unsent_first}
use Rattle.wl_silence.specs.Silences.{HaveFramesLeft, IsLineOfSince, IsSilentFor, NobodyIsReady, after_eleventh, silence_bits}
use Rattle.wl_silence.proofs.Lines as lines
use Rattle.wl_silence.proofs.Lines.{SilentLaws, node_same}

-- what is expected is driven, and seen
abbrev pub ExpectedLaw : Type 0
ExpectedLaw = (l : Line) (until : ℕ → ℕ) (drove : ℕ → ℕ → Bool) → IsCausal l → IsExpected l until drove → (i t : ℕ) → i < l.nodes → t < until i → level l i t ≡ drove i t

abbrev pub ExpectedSeen : Type 0
ExpectedSeen = (l : Line) (until : ℕ → ℕ) (drove : ℕ → ℕ → Bool) → IsCausal l → IsExpected l until drove → (i k : ℕ) → i < l.nodes → ((j : ℕ) → j < k → l.instant i j < until i)
    → seen l i k ≡ levels_before (levels_found l drove i) k

module _ (laws : SilentLaws) (driven_law : ExpectedLaw) (seen_law : ExpectedSeen) (l : Line) (setups : ℕ → NodeSetup) (s : Stations) (from until : ℕ) (bits : ℕ → ℕ) (of : IsLineOfSince l setups s from)
    (are : AreStations s) (waits : NobodyIsReady l setups from until bits) where
  abbrev pub none_drove : ℕ → ℕ → Bool
  none_drove i t = false

  module _ (i : ℕ) (inside : i < l.nodes) where
    abbrev setup : NodeSetup
    setup = setups i

    abbrev last : ℕ
    last = bits i * bit_quanta setup.segments + sample_at setup.segments

    counted : i < s.count
    counted = let e = of.nodes in omega arith

    book : ByTheBook setup.segments
    book = subst ByTheBook (sym (of.segments i inside)) (are.line.book i counted)

    up : (k m : ℕ) → k ≤ m → l.instant i k ≤ l.instant i m
    up k m less = laws.lines.clock_later l i k m of.causal inside less

    recessive : (k : ℕ) → l.instant i k < until → levels_found l none_drove i k ≡ Recessive
    recessive k early =
        let a = waits.later i i inside inside in
        let stop = waits.inside in
        let b = up 0 k (omega arith) in
        ap level_of (ap (λ b. b || l.disturbed i (l.instant i k)) nothing ∙ of.undisturbed i (l.instant i k) inside (omega arith) (omega arith))
      where
        nothing : driven l.nodes l.delay none_drove i (l.instant i k) ≡ false
        nothing = elim (cases_Bool (driven l.nodes l.delay none_drove i (l.instant i k))) [
          | inr none ↦ none
          | inl some ↦ (let w = laws.driven.dominant_by l.nodes l.delay none_drove i (l.instant i k) some in let e = w.3 in cc)
        ]

    abbrev silent : ℕ → Level
    silent k = Recessive

    abbrev node : ℕ → History
    node = node_after setup silent

    before_last : (k : ℕ) → l.instant i k < until → k < last
    before_last k early = elim (cases_lt k last) [
      | inl less ↦ less
      | inr more ↦ (let a = up last k more in let b = waits.long i inside in absurd (omega arith))
    ]

    unready : (n : ℕ) → 10 ≤ n → n < bits i → head_at setup setup.queue (n * bit_quanta setup.segments + sample_at setup.segments) ≡ None
    unready n more few = waits.none i n inside more (omega arith)

    -- what it is where it has seen nothing but recessive
    pub record IsQuietNode (h : History) : Type 0 where
      pub drive : h.drive ≡ Recessive
      pub counts : counts_of h.happened ≡ no_counts
      pub errors : error_count h ≡ 0
      pub frames : h.frames ≡ []
      pub on : is_off (stretch_of h.inputs) ≡ false

    on_by : (x : Stretch) → (x.sort ≡ Integration) ⊎ (x.sort ≡ Idle) → is_off x ≡ false
    on_by x (inl e) = ap is_off_by e
    on_by x (inr e) = ap is_off_by e

    quiet_node : (q : ℕ) → q ≤ last → IsQuietNode (node q)
    quiet_node q less =
        let x = still_at laws.clock.ways laws.clock.calm laws.clock.edges setup book silent node (run_of setup silent) (bits i) (λ k more. refl) unready q less in
        record {
          drive = x.is.drive;
          counts = x.is.counts;
          errors = x.is.found is_error refl;
          frames = x.is.frames;
          on = ap is_off x.is.stretch ∙ on_by (stretch_of (replicate x.count no_frame_sample)) (quiet_after x.count).sort;
        }

    there_same : (q : ℕ) → ((j : ℕ) → j < q → l.instant i j < until) → node_after setup (levels_found l none_drove i) q ≡ node q
    there_same q early = node_same setup (levels_found l none_drove i) silent q (λ j less. recessive j (early j less))

  pub expected : IsExpected l (λ i. until) none_drove
  expected = record {
    near = λ i j ni nj. omega arith;
    inside = λ i inside. waits.inside;
    before = λ i t inside less early. refl;
    drives = λ i k t inside less begun next.
        (let early = before_last i inside k (omega arith) in
        sym (of.drives i (levels_before (levels_found l none_drove i) (suc k)) inside ∙ ap (λ h. is_dominant h.drive) (there_same i inside (suc k) (λ j few. (let a = up i inside j k (omega arith) in omega arith))) ∙ ap is_dominant (quiet_node i inside (suc k) (omega arith)).drive));
  }

  history_same : (i k : ℕ) (inside : i < l.nodes) → l.instant i k < until → line_history l setups i (suc k) ≡ node i inside (suc k)
  history_same i k inside early =
      ap (staying_history (setups i)) (seen_law l (λ i. until) none_drove of.causal expected i (suc k) inside (λ j less. (let a = up i inside j k (omega arith) in omega arith)))
      ∙ there_same i inside (suc k) (λ j less. (let a = up i inside j k (omega arith) in omega arith))

  pub quiet_then : (i k : ℕ) (inside : i < l.nodes) → l.instant i k < until → IsQuietNode i inside (line_history l setups i (suc k))
  quiet_then i k inside early = subst (IsQuietNode i inside) (sym (history_same i k inside early)) (quiet_node i inside (suc k) (let h = before_last i inside k early in omega arith))

  module _ (lasts : (i : ℕ) → i < l.nodes → l.instant i (silence_bits * bit_quanta (setups i).segments) < until) where
    pub silent_for : IsSilentFor l setups from until (λ i. 0)
    silent_for = record {
      inside = waits.inside;
      quiet = λ i t inside late early. driven_law l (λ i. until) none_drove of.causal expected i t inside early;
      over = waits.later;
      lasts = λ i inside. subst (λ n. l.instant i n < until)
          (let e : silence_bits * bit_quanta (setups i).segments ≡ 0 + silence_bits * bit_quanta (setups i).segments = omega arith in e) (lasts i inside);
      on = λ i k inside late early. (quiet_then i k inside early).on;
      active = λ i k inside late early. ap mode_of (quiet_then i k inside early).counts;
    }

    pub has_left : AreSoundFrames s.count (λ i. queued_contents (setups i).queue) → ((i : ℕ) → s.count ≤ i → (setups i).queue ≡ []) → ((i : ℕ) → i < s.count → 0 < length (setups i).queue → s.may_send i ≡ true)
        → (i : ℕ) → i < s.count → 0 < length (setups i).queue → HaveFramesLeft l setups s (λ i. 0)
    has_left sound none may i counted some =
        let inside : i < l.nodes = (let e = of.nodes in omega arith) in
        let high = lines.high laws l setups s from until (λ i. 0) of silent_for are i inside in
        let early = lines.early_end laws l setups s from until (λ i. 0) of silent_for are i inside in
        let e : unsent_of (setups i) (line_history l setups i (after_eleventh l setups (λ i. 0) i)) ≡ (setups i).queue =
        ap (unsent_after (setups i)) (quiet_then i (lines.at laws l setups s from until (λ i. 0) of silent_for are i inside + lines.end laws l setups s from until (λ i. 0) of silent_for are i inside) inside early).frames
        ∙ unsent_first (setups i) in
        record {
          frames = sound;
          none = none;
          may = may;
          some = (i, counted, subst (λ q. 0 < length q) (sym e) some);
        }
