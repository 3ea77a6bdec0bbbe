-- A line stays silent after a silence, if no node has a frame left.
use Rattle.std.proofs.Common.{◌≡◌, ◌∙◌, refl, sym, ap, subst, ℕ, zero, suc, ◌+◌, ◌-◌, ◌*◌, ◌<◌, ◌≤◌, false, [], ◌++◌, arith, append-nil}
use Rattle.std.specs.Prelude.{IsPermutation, map}
use Rattle.std.proofs.lemmas.List.Sorted.{IsPermutation-refl}
use Rattle.std.proofs.Math.Nat.{mul-le-mul_left}
use Rattle.wl_segments.specs.Lengths.{bit_quanta, sample_at}
use Rattle.wl_frame.specs.Grammar.{Content}
use Rattle.wl_node.specs.declared.setup.NodeSetup.{NodeSetup}
use Rattle.wl_node.specs.History.{staying_history, unsent_of}
use Rattle.wl_node.proofs.Callers.{history_first}
use Rattle.wl_plan.specs.Line.{Line}
use Rattle.wl_plan.specs.Simulation.{AreInside, level}
use Rattle.wl_buses.specs.BothProofs.Queues.{head_at, queued_contents, unsent_after}
use Rattle.wl_buses.specs.OneFrame.Stations.{AreStations, Stations}
use Rattle.wl_buses.specs.CleanLines.Lines.{line_history}
use Rattle.wl_buses.proofs.Callers.{head_none}
use Rattle.wl_silence.specs.Restarts.{IsUnharmed, passed_since, ready_since}
use Rattle.wl_silence.specs.Shown.{ShowCleanSince, ShowsClean}
use Rattle.wl_silence.specs.Silences.{IsLineOfSince, IsSilentFor, NobodyIsReady, after_eleventh, eleventh_of, fresh_line, fresh_setups, fresh_stations, joins}
use Rattle.wl_silence.proofs.AtFirst as first_of
use Rattle.wl_silence.proofs.AtFirst.{ExpectedLaw, ExpectedSeen, expected, none_drove, quiet_then}
use Rattle.wl_silence.proofs.Lines as lines
use Rattle.wl_silence.proofs.Lines.{SilentLaws, history_is}
use Rattle.wl_silence.proofs.Moved.{are_since}
use Rattle.wl_silence.proofs.PoweredUp as powered
use Rattle.wl_silence.proofs.Through.{all_same, goes_at}

no_content : Content
no_content = record { extended = false; id = 0; remote = false; dlc = 0; bytes = [] }

module _ (laws : SilentLaws) (driven_law : ExpectedLaw) (seen_law : ExpectedSeen) (l : Line) (setups : ℕ → NodeSetup) (s : Stations) (from until : ℕ) (first : ℕ → ℕ) (of : IsLineOfSince l setups s from)
    (is : IsSilentFor l setups from until first) (are : AreStations s)
    (empty : (i : ℕ) → i < l.nodes → unsent_of (setups i) (line_history l setups i (after_eleventh l setups first i)) ≡ []) where
  abbrev R : ℕ → NodeSetup
  R = fresh_setups l setups first

  abbrev L : Line
  L = fresh_line l setups first

  abbrev s' : Stations
  s' = fresh_stations l setups first s

  abbrev at : ℕ → ℕ
  at i = joins l setups first i

  -- the fresh nodes have no frame at all
  of_fresh : IsLineOfSince L R s' from
  of_fresh =
      let line = powered.line laws l setups s from until first of is are in
      record { causal = line.causal; nodes = line.nodes; drives = line.drives; ticks = line.ticks; segments = line.segments; delays = line.delays; undisturbed = λ i t inside late below. refl }

  grows : (i k : ℕ) → i < l.nodes → k ≤ L.instant i k
  grows i zero inside = omega arith
  grows i (suc k) inside = let before = grows i k inside in let more = of_fresh.causal.clocks i k inside in omega arith

  unready : NobodyIsReady L R from l.stop (λ i. l.stop)
  unready = record {
    inside = omega arith;
    later = λ i k inside there. lines.after laws l setups s from until first of is are i inside k (at i + 0) there
        (let h = lines.late laws l setups s from until first of is are i inside in omega arith);
    long = λ i inside.
        (let low = (lines.book laws l setups s from until first of is are i inside).lengths.low in
        let n : ℕ = l.stop * bit_quanta (setups i).segments + sample_at (setups i).segments in
        let more : l.stop * 1 ≤ l.stop * bit_quanta (setups i).segments = mul-le-mul_left l.stop (omega arith) in
        let g = grows i n inside in
        omega arith);
    none = λ i n inside more less.
        ap (λ q. head_at (R i) (map (ready_since (at i)) q) (n * bit_quanta (setups i).segments + sample_at (setups i).segments)) (empty i inside)
        ∙ head_none (R i) (n * bit_quanta (setups i).segments + sample_at (setups i).segments);
  }

  quiet_fresh : (i k : ℕ) (inside : i < l.nodes) → l.instant i (at i + k) < l.stop
      → first_of.IsQuietNode laws driven_law seen_law L R s' from l.stop (λ i. l.stop) of_fresh (are_since s at are) unready i inside (line_history L R i (suc k))
  quiet_fresh i k inside below = quiet_then laws driven_law seen_law L R s' from l.stop (λ i. l.stop) of_fresh (are_since s at are) unready i k inside below

  none_yet : (i : ℕ) → line_history L R i 0 ≡ staying_history (R i) []
  none_yet i = history_is L R i 0

  fine : (i k : ℕ) → i < l.nodes → AreInside L i k → IsUnharmed (line_history L R i k)
  fine i zero inside there = subst IsUnharmed (sym (none_yet i ∙ history_first (R i))) (record { counters = refl; errors = refl })
  fine i (suc k) inside there = let q = quiet_fresh i k inside (there k (omega arith)) in record { counters = q.counts; errors = q.errors }

  none_passed : (i k : ℕ) → i < l.nodes → AreInside L i k → (line_history L R i k).frames ≡ []
  none_passed i zero inside there = ap (λ h. h.frames) (none_yet i ∙ history_first (R i))
  none_passed i (suc k) inside there = (quiet_fresh i k inside (there k (omega arith))).frames

  pub stays_silent : (i t : ℕ) → i < l.nodes → from ≤ t → t < l.stop → level l i t ≡ false
  stays_silent i t inside past below =
      sym (all_same laws l setups s from until first of is are fine (suc t) i t inside (omega arith) below past)
      ∙ driven_law L (λ i. l.stop) (none_drove laws driven_law seen_law L R s' from l.stop (λ i. l.stop) of_fresh (are_since s at are) unready) of_fresh.causal
      (expected laws driven_law seen_law L R s' from l.stop (λ i. l.stop) of_fresh (are_since s at are) unready) i t inside below

  at_quantum : (i k : ℕ) → i < l.nodes → eleventh_of (setups i).segments < k → AreInside L i k
      → ShowsClean (setups i) i (λ n. 0) (λ n. no_content) 0 (line_history l setups i (after_eleventh l setups first i)) (line_history l setups i (at i + k))
  at_quantum i k inside late there =
      let g = goes_at laws l setups s from until first of is are fine i k inside late there in
      let same : (line_history l setups i (at i + k)).frames ≡ (line_history l setups i (after_eleventh l setups first i)).frames =
      g.frames ∙ ap (λ f. (line_history l setups i (after_eleventh l setups first i)).frames ++ map (passed_since (at i)) f) (none_passed i k inside there)
      ∙ append-nil (line_history l setups i (after_eleventh l setups first i)).frames in
      record {
        errors = g.errors;
        counters = g.counters;
        since = [];
        frames = same ∙ sym (append-nil (line_history l setups i (after_eleventh l setups first i)).frames);
        passed = (0, omega arith, refl);
        left =
            subst (λ f. IsPermutation (queued_contents (unsent_of (setups i) (line_history l setups i (after_eleventh l setups first i)))) (queued_contents (unsent_after (setups i) f))) (sym same)
            (IsPermutation-refl (queued_contents (unsent_of (setups i) (line_history l setups i (after_eleventh l setups first i)))));
        order = λ fifo. ap (λ f. queued_contents (unsent_after (setups i) f)) same;
      }

  pub shows_silent : ShowCleanSince l setups first
  shows_silent = (
    λ n. 0,
    λ n. no_content,
    0,
    λ i k inside late there.
        (let e : at i + (k - at i) ≡ k = omega arith in
        subst (λ n. ShowsClean (setups i) i (λ n. 0) (λ n. no_content) 0 (line_history l setups i (after_eleventh l setups first i)) (line_history l setups i n)) e
        (at_quantum i (k - at i) inside (omega arith) (λ j less. there (at i + j) (omega arith)))),
  )
