-- A node that has sent its queue rests as long as its line is silent.
use Rattle.std.proofs.Common.{◌≡◌, ◌∙◌, inl, inr, refl, sym, ap, subst, ℕ, zero, suc, ◌+◌, ◌-◌, ◌*◌, ◌<◌, ◌≤◌, cond, Bool, List, [], None, arith}
use Rattle.std.specs.Prelude.{count_by, nat_lt}
use Rattle.std.proofs.lemmas.Bool.{cases_lt, le-ltb, lt-ltb}
use Rattle.wl_level.specs.declared.Level.{Level}
use Rattle.wl_level.specs.declared.Level.TheVariants.{Recessive}
use Rattle.wl_confine.specs.declared.Happened.{Happened}
use Rattle.wl_confine.specs.declared.Mode.TheVariants.{Active}
use Rattle.wl_confine.specs.Counts.{counts_of, is_error}
use Rattle.wl_segments.specs.Lengths.{bit_quanta, sample_at}
use Rattle.wl_sync.specs.Bits.{beat_of}
use Rattle.wl_sync.specs.Running.{clock_after}
use Rattle.wl_machine.specs.Stretch.{Input, Stretch, free}
use Rattle.wl_machine.specs.Stretch.Sort.{Idle}
use Rattle.wl_machine.specs.Stretch.Input.{Sample}
use Rattle.wl_machine.specs.Judged.{stretch_after, stretch_of}
use Rattle.wl_machine.specs.States.{sample_of, stretch_by}
use Rattle.wl_node.specs.declared.setup.NodeSetup.{NodeSetup}
use Rattle.wl_node.specs.declared.setup.Passed.{Passed}
use Rattle.wl_node.specs.History.{History, error_count, history_after, seen_next, unsent_of}
use Rattle.wl_phase.specs.InStep.{seen_before}
use Rattle.wl_buses.specs.OneFrame.Stations.{AreOnALine, Stations}
use Rattle.wl_buses.specs.OneFrame.Clocked.{EdgeLaws, NoEdgeLaws}
use Rattle.wl_buses.specs.OneFrame.Lines.{node_after}
use Rattle.wl_buses.specs.OneFrame.Machines.{no_frame_sample}
use Rattle.wl_buses.specs.OneFrame.Nodes.{IsRun, clock_sees}
use Rattle.wl_buses.proofs.OneFrame.Lines.{run_of}
use Rattle.wl_buses.proofs.OneFrame.Nodes.{seen_before_same}
use Rattle.wl_buses.specs.FirstFrame.Faults.{fault_count, is_fault}
use Rattle.wl_buses.specs.FrameEnd.Again.{RestsAgain}
use Rattle.wl_buses.specs.NextFrames.Silence.{StillRests}
use Rattle.wl_buses.proofs.NextFrames.Idle as idle
use Rattle.wl_buses.specs.BothProofs.Queues.{head_at, unsent_after}
use Rattle.wl_buses.proofs.BothProofs.Heads.{head_none}

-- on a line that is silent for ever
module _ (edges : EdgeLaws) (calm : NoEdgeLaws) (s : Stations) (line : AreOnALine s) (past : List Input) (i : ℕ) (inside : i < s.count) (setup : NodeSetup) (segments : setup.segments ≡ s.lengths i)
    (levels : ℕ → Level) (node : ℕ → History) (run : IsRun setup levels node) (rest since : ℕ) (first : RestsAgain s past i levels node rest since) (early : since ≤ rest + sample_at (s.lengths i))
    (is_free : stretch_of past ≡ stretch_by (free None) []) (sent : unsent_of setup (node (suc (rest + sample_at (s.lengths i)))) ≡ [])
    (silent : (j : ℕ) → rest + sample_at (s.lengths i) < j → levels j ≡ Recessive) where
  abbrev S : ℕ
  S = sample_at (s.lengths i)

  abbrev B : ℕ
  B = bit_quanta (s.lengths i)

  abbrev R : ℕ
  R = rest + S

  abbrev p : ℕ → ℕ
  p n = rest + n * B

  abbrev passed : List Passed
  passed = (node (suc R)).frames

  abbrev wrong : (Happened → Bool) → ℕ
  wrong test = count_by test (node (suc R)).happened

  abbrev RestsIn : ℕ → Stretch → Type 0
  RestsIn k x = idle.Rests edges calm setup (s.lengths i) segments (line.book i inside) levels node run k x passed wrong

  record Idles (n : ℕ) : Type 0 where
    x : Stretch
    is_idle : x.sort ≡ Idle
    rests : RestsIn (p n) x

  p_zero : rest ≡ p 0
  p_zero = omega arith

  idles_first : Idles 0
  idles_first = record {
    x = stretch_by (free None) [];
    is_idle = refl;
    rests =
        subst (λ k. RestsIn k (stretch_by (free None) [])) p_zero
        (record {
          sampled = first.sampled;
          clock = first.clock;
          stretch = first.stretch ∙ is_free;
          counts = first.counts;
          frames = refl;
          found = λ test fine. refl;
          drive = first.drive (suc R) (let h = early in omega arith) (omega arith);
        });
  }

  silent_bit : (n q : ℕ) → p n + S < q → q ≤ p n + B + S → levels q ≡ Recessive
  silent_bit n q low high = silent q (omega arith)

  -- it is handed no frame
  none_at : (q : ℕ) → head_at setup (unsent_after setup passed) q ≡ None
  none_at q = ap (λ v. head_at setup v q) sent ∙ head_none setup q

  idles_next : (n : ℕ) → Idles n → Idles (suc n)
  idles_next n a = record {
    x = stretch_after a.x no_frame_sample;
    is_idle = ap (λ k. (stretch_after (stretch_by k a.x.own) no_frame_sample).sort) a.is_idle;
    rests =
        subst (λ k. RestsIn k (stretch_after a.x no_frame_sample)) (let e : p n + B ≡ p (suc n) = omega arith in e)
        (subst (λ h. RestsIn (p n + B) (stretch_after a.x (Sample (sample_of Recessive h Active)))) (none_at (p n + B + S))
        (idle.rests_next edges calm setup (s.lengths i) segments (line.book i inside) levels node run (p n) a.x a.is_idle passed wrong a.rests (silent_bit n)));
  }

  idles_at : (n : ℕ) → Idles n
  idles_at zero = idles_first
  idles_at (suc n) = idles_next n (idles_at n)

  -- the bit that a quantum is in
  record Inside (q : ℕ) : Type 0 where
    bit : ℕ
    low : p bit + S < q
    high : q ≤ p bit + B + S

  some : 0 < B
  some = let h = (line.book i inside).lengths.low in omega arith

  inside_up : (d : ℕ) → Inside (suc R + d)
  inside_up zero = (let h = some in record { bit = 0; low = omega arith; high = omega arith })
  inside_up (suc d) =
      (let x = inside_up d in
      let low = x.low in
      let high = x.high in
      let h = some in
      let e : p x.bit + B ≡ p (suc x.bit) = omega arith in
      elim (cases_lt (p x.bit + B + S) (suc R + suc d)) [
        | inl more ↦ record { bit = suc x.bit; low = omega arith; high = omega arith }
        | inr few ↦ record { bit = x.bit; low = omega arith; high = few }
      ])

  inside_at : (q : ℕ) → R < q → Inside q
  inside_at q more = subst Inside (let e : suc R + (q - suc R) ≡ q = omega arith in e) (inside_up (q - suc R))

  pub rests_for_ever : (q : ℕ) → R < q → StillRests node (suc R) q
  rests_for_ever q more =
      let x = inside_at q more in
      let a = idles_at x.bit in
      let same = idle.same_at edges calm setup (s.lengths i) segments (line.book i inside) levels node run (p x.bit) a.x a.is_idle passed wrong a.rests (silent_bit x.bit) q x.low x.high in
      record {
        drive = same.drive;
        frames = same.frames;
        errors = ap (count_by is_error) same.happened ∙ a.rests.found is_error refl;
        faults = ap (count_by is_fault) same.happened ∙ a.rests.found is_fault refl;
      }

-- on a line that is silent up to a quantum: so it is if that stays silent
module _ (edges : EdgeLaws) (calm : NoEdgeLaws) (s : Stations) (line : AreOnALine s) (past : List Input) (i : ℕ) (inside : i < s.count) (setup : NodeSetup) (segments : setup.segments ≡ s.lengths i)
    (levels : ℕ → Level) (node : ℕ → History) (run : IsRun setup levels node) (rest since : ℕ) (first : RestsAgain s past i levels node rest since) (early : since ≤ rest + sample_at (s.lengths i))
    (is_free : stretch_of past ≡ stretch_by (free None) []) (sent : unsent_of setup (node (suc (rest + sample_at (s.lengths i)))) ≡ [])
    (q : ℕ) (more : rest + sample_at (s.lengths i) < q) (silent : (j : ℕ) → rest + sample_at (s.lengths i) < j → j < q → levels j ≡ Recessive) where
  abbrev last : ℕ
  last = rest + sample_at (s.lengths i)

  abbrev new : ℕ → Level
  new j = cond (nat_lt j q) (levels j) Recessive

  new_before : (j : ℕ) → j < q → new j ≡ levels j
  new_before j less = ap (λ b. cond b (levels j) Recessive) (lt-ltb j q less)

  new_silent : (j : ℕ) → last < j → new j ≡ Recessive
  new_silent j low = elim (cases_lt j q) [
    | inl less ↦ new_before j less ∙ silent j low less
    | inr later ↦ ap (λ b. cond b (levels j) Recessive) (le-ltb j q later)
  ]

  abbrev other : ℕ → History
  other = node_after setup new

  other_run : IsRun setup new other
  other_run = run_of setup new

  same_node : (k : ℕ) → k ≤ q → other k ≡ node k
  same_node zero by = other_run.first ∙ sym run.first
  same_node (suc k) by =
      other_run.next k ∙ ap (λ h. history_after setup h (new k)) (same_node k (omega arith)) ∙ ap (history_after setup (node k)) (new_before k by) ∙ sym (run.next k)

  same_sees : (k : ℕ) → k < q → clock_sees new other k ≡ clock_sees levels node k
  same_sees k less = ap (λ h. seen_next h (new k)) (same_node k (omega arith)) ∙ ap (seen_next (node k)) (new_before k less)

  seen_up_to : (k : ℕ) → k ≤ q → seen_before (clock_sees new other) k ≡ seen_before (clock_sees levels node) k
  seen_up_to k by = seen_before_same (clock_sees new other) (clock_sees levels node) k (λ j less. same_sees j (omega arith))

  first_other : RestsAgain s past i new other rest since
  first_other = record {
    sampled =
        ap (λ v. beat_of (s.lengths i) v (clock_sees new other last)) (seen_up_to last (omega arith))
        ∙ ap (beat_of (s.lengths i) (seen_before (clock_sees levels node) last)) (same_sees last more) ∙ first.sampled;
    clock = ap (clock_after (s.lengths i)) (seen_up_to (suc last) more) ∙ first.clock;
    stretch = ap (λ h. stretch_of h.inputs) (same_node (suc last) more) ∙ first.stretch;
    over = first.over;
    counts = ap (λ h. counts_of h.happened) (same_node (suc last) more) ∙ first.counts;
    drive = λ k low high. ap (λ h. h.drive) (same_node k (omega arith)) ∙ first.drive k low high;
  }

  pub rests_on : StillRests node (suc last) q
  rests_on =
      let x = rests_for_ever edges calm s line past i inside setup segments new other other_run rest since first_other early is_free
      (ap (unsent_of setup) (same_node (suc last) more) ∙ sent) new_silent q more in
      record {
        drive = ap (λ h. h.drive) (sym (same_node q (omega arith))) ∙ x.drive;
        frames = ap (λ h. h.frames) (sym (same_node q (omega arith))) ∙ x.frames ∙ ap (λ h. h.frames) (same_node (suc last) more);
        errors = ap error_count (sym (same_node q (omega arith))) ∙ x.errors ∙ ap error_count (same_node (suc last) more);
        faults = ap fault_count (sym (same_node q (omega arith))) ∙ x.faults ∙ ap fault_count (same_node (suc last) more);
      }
