-- A node waits for the first frame on a silent line.
use Rattle.std.proofs.Common.{◌≡◌, ◌∙◌, inl, inr, refl, sym, ap, subst, ℕ, suc, ◌+◌, ◌-◌, ◌*◌, ◌<◌, ◌≤◌, Bool, true, false, List, replicate, Option, Some, None, arith}
use Rattle.std.specs.Prelude.{slice_get}
use Rattle.std.proofs.lemmas.Bool.{cases_Bool}
use Rattle.std.proofs.Math.Nat.{lt_of_mul-lt-mul_right}
use Rattle.wl_level.specs.declared.Level.{Level}
use Rattle.wl_level.specs.declared.Level.TheVariants.{Recessive}
use Rattle.wl_confine.specs.declared.Mode.TheVariants.{Active}
use Rattle.wl_segments.specs.Lengths.{Lengths, bit_quanta, sample_at}
use Rattle.wl_sync.specs.Running.{clock_after}
use Rattle.wl_sync.specs.Skips.{steady_clock}
use Rattle.wl_frame.specs.Grammar.{Content}
use Rattle.wl_machine.specs.Stretch.{Stretch}
use Rattle.wl_machine.specs.Stretch.Input.{Sample}
use Rattle.wl_machine.specs.Judged.{stretch_after, stretch_of}
use Rattle.wl_machine.specs.States.{sample_of}
use Rattle.wl_node.specs.declared.setup.NodeSetup.{NodeSetup}
use Rattle.wl_node.specs.History.{History}
use Rattle.wl_phase.specs.InStep.{seen_before}
use Rattle.wl_phase.specs.Ways.{ByTheBook, WayLaws}
use Rattle.wl_buses.specs.OneFrame.Stations.{AreOnALine, Stations}
use Rattle.wl_buses.specs.OneFrame.Clocked.{EdgeLaws, NoEdgeLaws, SamplesBy}
use Rattle.wl_buses.specs.OneFrame.Machines.{no_frame_sample}
use Rattle.wl_buses.specs.OneFrame.Nodes.{IsRun, clock_sees}
use Rattle.wl_buses.specs.FirstFrame.FirstStarts.{AreIdle, HandTheFirst, Waiting, begins_first, due_first, edge_first, first_start, hard_from, has_first, last_before}
use Rattle.wl_buses.proofs.FirstFrame.Beginning.{IsLast, last_at, last_is, many, silence_of, silent_of}
use Rattle.wl_buses.proofs.FirstFrame.Reaching as reaching
use Rattle.wl_buses.proofs.FirstFrame.Silent as silence
use Rattle.wl_buses.specs.BothProofs.Queues.{head_at}

-- what it is handed with its last sample before, and the stretch of its machine then
abbrev pub head_by : List Content → (which : ℕ) → Bool → Option Content
head_by frames which true = slice_get frames which
head_by frames which false = None

abbrev pub next_after : ℕ → Option Content → Stretch
next_after n head = stretch_after (stretch_of (replicate n no_frame_sample)) (Sample (sample_of Recessive head Active))

-- a node whose line is silent until it drives its start of frame, or finds an edge
module _ (ways : WayLaws) (calm : NoEdgeLaws) (edges : EdgeLaws) (setups : ℕ → NodeSetup) (w : Waiting) (line : AreOnALine w.stations) (are : AreIdle w) (hand : HandTheFirst w setups)
    (i : ℕ) (inside : i < w.stations.count) (segments : (setups i).segments ≡ w.stations.lengths i) (levels : ℕ → Level) (node : ℕ → History) (run : IsRun (setups i) levels node)
    (silent : (q : ℕ) → q < (first_start w).from i → levels q ≡ Recessive) where
  abbrev s : Stations
  s = w.stations

  abbrev S : ℕ
  S = sample_at (s.lengths i)

  abbrev B : ℕ
  B = bit_quanta (s.lengths i)

  abbrev m : ℕ
  m = last_before w i

  book : ByTheBook (setups i).segments
  book = subst ByTheBook (sym segments) (line.book i inside)

  last : IsLast w line are i
  last = last_at w line are i inside

  -- what it is handed
  few : begins_first w i ≡ false → has_first w i ≡ true → (op : Option ℕ) → edge_first w i ≡ op → m < w.decides i
  few e own None none = (let yes = reaching.alone_begins (silence_of w) line (silent_of w line are) i inside none in cc)
  few e own (Some q) found =
      (let f = reaching.found_is (silence_of w) line (silent_of w line are) i q found in
      let by = reaching.by_decision (silence_of w) line (silent_of w line are) i q inside own e f in
      let from : (first_start w).from i ≡ q = ap (hard_from (due_first w i)) found in
      let before = last.before in
      lt_of_mul-lt-mul_right B (let h : m * B < w.decides i * B = omega arith in h))

  none_up_to : begins_first w i ≡ false → (n : ℕ) → 10 ≤ n → n ≤ m → head_at (setups i) (setups i).queue (n * B + S) ≡ None
  none_up_to e n more less = elim (cases_Bool (has_first w i)) [
    | inl own ↦ (let h = few e own (edge_first w i) refl in hand.unready i n inside more (omega arith))
    | inr none ↦ hand.none i (n * B + S) inside none
  ]

  own_bits : begins_first w i ≡ true → m ≡ w.decides i
  own_bits e = last_is w i e

  unready : (n : ℕ) → 10 ≤ n → n < m → head_at (setups i) (setups i).queue (n * B + S) ≡ None
  unready n more less = elim (cases_Bool (begins_first w i)) [
    | inl own ↦ (let h = own_bits own in hand.unready i n inside more (omega arith))
    | inr other ↦ none_up_to other n more (omega arith)
  ]

  handed_last : (c : Bool) → begins_first w i ≡ c → head_at (setups i) (setups i).queue (m * B + S) ≡ head_by (w.frames i) (w.which i) c
  handed_last true e =
      ap (λ n. head_at (setups i) (setups i).queue (n * B + S)) (own_bits e) ∙ hand.ready i inside (reaching.begins_has (silence_of w) line (silent_of w line are) i e)
  handed_last false e = none_up_to e m (many w line are i inside) (omega arith)

  -- by its segments
  abbrev Unready : Lengths → Type 0
  Unready k = (n : ℕ) → 10 ≤ n → n < m → head_at (setups i) (setups i).queue (n * bit_quanta k + sample_at k) ≡ None

  abbrev Silent : Lengths → Type 0
  Silent k = (q : ℕ) → q ≤ m * bit_quanta k + sample_at k → levels q ≡ Recessive

  abbrev Handed : Lengths → Type 0
  Handed k = head_at (setups i) (setups i).queue (m * bit_quanta k + sample_at k) ≡ head_by (w.frames i) (w.which i) (begins_first w i)

  -- it rests, by other words for its segments
  pub record Rests (k : Lengths) : Type 0 where
    pub sampled : SamplesBy k (clock_sees levels node) (m * bit_quanta k + sample_at k) Recessive
    pub clock : clock_after k (seen_before (clock_sees levels node) (suc (m * bit_quanta k + sample_at k))) ≡ steady_clock k
    pub stretch : stretch_of (node (suc (m * bit_quanta k + sample_at k))).inputs ≡ next_after m (head_by (w.frames i) (w.which i) (begins_first w i))
    pub counts : silence.NoneCounts (node (suc (m * bit_quanta k + sample_at k)))
    pub drive : (q : ℕ) → q ≤ suc (m * bit_quanta k + sample_at k) → (node q).drive ≡ Recessive
    pub nothing : (q : ℕ) → q ≤ suc (m * bit_quanta k + sample_at k) → silence.IsUntouched (node q)

  rests : Silent (setups i).segments → Unready (setups i).segments → Handed (setups i).segments → Rests (setups i).segments
  rests quiet none head = record {
    sampled = silence.sampled_last ways calm edges (setups i) book levels node run m quiet none (head_by (w.frames i) (w.which i) (begins_first w i)) head;
    clock = steady (m - 1) (let ten = many w line are i inside in omega arith);
    stretch = silence.stretch_last ways calm edges (setups i) book levels node run m quiet none (head_by (w.frames i) (w.which i) (begins_first w i)) head;
    counts = silence.counts_last ways calm edges (setups i) book levels node run m quiet none (head_by (w.frames i) (w.which i) (begins_first w i)) head;
    drive = silence.drive_up_to ways calm edges (setups i) book levels node run m quiet none (head_by (w.frames i) (w.which i) (begins_first w i)) head;
    nothing = silence.nothing_up_to ways calm edges (setups i) book levels node run m quiet none (head_by (w.frames i) (w.which i) (begins_first w i)) head;
  }
    where
      steady : (n : ℕ) → suc n ≡ m → clock_after (setups i).segments (seen_before (clock_sees levels node) (suc (m * bit_quanta (setups i).segments + sample_at (setups i).segments)))
          ≡ steady_clock (setups i).segments
      steady n e =
          subst (λ j. ((q : ℕ) → q ≤ j * bit_quanta (setups i).segments + sample_at (setups i).segments → levels q ≡ Recessive)
          → ((n : ℕ) → 10 ≤ n → n < j → head_at (setups i) (setups i).queue (n * bit_quanta (setups i).segments + sample_at (setups i).segments) ≡ None)
          → clock_after (setups i).segments (seen_before (clock_sees levels node) (suc (j * bit_quanta (setups i).segments + sample_at (setups i).segments))) ≡ steady_clock (setups i).segments)
          e (λ q u. silence.steady_last ways calm edges (setups i) book levels node run n q u) quiet none

  pub rests_then : Rests (s.lengths i)
  rests_then =
      subst (λ k. Silent k → Unready k → Handed k → Rests k) segments rests (λ q less. silent q (let h = last.before in omega arith)) unready (handed_last (begins_first w i) refl)
