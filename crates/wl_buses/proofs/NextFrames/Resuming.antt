-- A node that rests waits for the next frame.
use Rattle.std.proofs.Common.{◌≡◌, ◌∙◌, inl, inr, refl, sym, ap, subst, ℕ, zero, suc, ◌+◌, ◌*◌, ◌<◌, ◌≤◌, Bool, true, false, List, [], ◌∷◌, ◌++◌, length, replicate, Option, Some, None, arith, append-nil}
use Rattle.std.specs.Prelude.{count_by, slice_get}
use Rattle.std.proofs.lemmas.Bool.{cases_Bool, cases_lt}
use Rattle.std.proofs.lemmas.List.{append_assoc}
use Rattle.std.proofs.lemmas.Option.{slice_get_past}
use Rattle.std.proofs.Math.Nat.{lt_of_mul-lt-mul_right, mul-le-mul_right}
use Rattle.wl_level.specs.declared.Level.{Level}
use Rattle.wl_level.specs.declared.Level.TheVariants.{Recessive}
use Rattle.wl_confine.specs.declared.Happened.{Happened}
use Rattle.wl_confine.specs.declared.Mode.TheVariants.{Active}
use Rattle.wl_segments.specs.Lengths.{bit_quanta, sample_at}
use Rattle.wl_frame.specs.Grammar.{Content}
use Rattle.wl_machine.specs.Stretch.{Input, Stretch, free}
use Rattle.wl_machine.specs.Stretch.Sort.{Framing, Idle}
use Rattle.wl_machine.specs.Stretch.Input.{Sample}
use Rattle.wl_machine.specs.Judged.{stretch_after, stretch_of}
use Rattle.wl_machine.specs.States.{sample_of, stretch_by}
use Rattle.wl_machine.proofs.Callers.{stretch_next}
use Rattle.wl_node.specs.declared.setup.NodeSetup.{NodeSetup}
use Rattle.wl_node.specs.declared.setup.Passed.{Passed}
use Rattle.wl_node.specs.History.{History, unsent_of}
use Rattle.wl_wire.specs.Wire.{Handed, sampled}
use Rattle.wl_buses.specs.OneFrame.Stations.{AreOnALine, Stations}
use Rattle.wl_buses.specs.OneFrame.Clocked.{EdgeLaws, NoEdgeLaws}
use Rattle.wl_buses.specs.OneFrame.Expected.{Outset}
use Rattle.wl_buses.specs.OneFrame.Machines.{no_frame_sample}
use Rattle.wl_buses.specs.OneFrame.Nodes.{IsRun}
use Rattle.wl_buses.proofs.OneFrame.Waited.{idle_after, none_is, none_of, one_more, takes_head}
use Rattle.wl_buses.specs.FirstFrame.FirstStarts.{hard_from}
use Rattle.wl_buses.proofs.FirstFrame.Reaching as reaching
use Rattle.wl_buses.specs.FrameEnd.Again.{RestsAgain}
use Rattle.wl_buses.specs.NextFrames.NextStarts.{AreFreeNext, AreResting, Resting, begins_next, due_next, edge_next, has_next, last_next, outset_next, rest_next, rested, start_next, waiting_past}
use Rattle.wl_buses.specs.NextFrames.NextNodes.{HandsNext, head_after}
use Rattle.wl_buses.proofs.NextFrames.Idle as idle
use Rattle.wl_buses.proofs.NextFrames.Lasting.{IsLast, last_at, last_is, silence_of, silent_of}
use Rattle.wl_buses.proofs.NextFrames.Outset.{MayWait, begun, over_next, past_inside}
use Rattle.wl_buses.specs.BothProofs.Queues.{head_at, unsent_after}

-- the stretch of a machine that is free, and has sampled so many recessive bits more, with these heads
abbrev stretches : (head : ℕ → Option Content) → ℕ → Stretch
stretches head zero = stretch_by (free (head 0)) []
stretches head (suc n) = stretch_after (stretches head n) (Sample (sample_of Recessive (head (suc n)) Active))

module _ (wait : MayWait) (edges : EdgeLaws) (calm : NoEdgeLaws) (w : Resting) (before : ℕ → List Input) (line : AreOnALine w.stations) (are : AreResting w)
    (frees : AreFreeNext w.stations.count w.frames before) (i : ℕ) (inside : i < w.stations.count) (setup : NodeSetup) (segments : setup.segments ≡ w.stations.lengths i)
    (levels : ℕ → Level) (node : ℕ → History) (run : IsRun setup levels node) (handed : Handed) (active : handed.mode ≡ Active) (since : ℕ)
    (first : RestsAgain w.stations (before i ++ Sample (sampled Recessive (w.frames i) handed) ∷ []) i levels node (w.place i) since)
    (since_before : since ≤ rested w i) (silent : (q : ℕ) → rested w i < q → q < (start_next w).from i → levels q ≡ Recessive)
    (hands : HandsNext w i (slice_get (w.frames i) handed.which) (head_at setup (unsent_of setup (node (suc (rested w i)))))) where
  abbrev s : Stations
  s = w.stations

  abbrev o : Outset
  o = outset_next w before

  abbrev S : ℕ
  S = sample_at (s.lengths i)

  abbrev B : ℕ
  B = bit_quanta (s.lengths i)

  abbrev p : ℕ → ℕ
  p n = w.place i + n * B

  abbrev m : ℕ
  m = last_next w i

  last : IsLast w line are i
  last = last_at w line are i inside

  abbrev passed : List Passed
  passed = (node (suc (rested w i))).frames

  abbrev wrong : (Happened → Bool) → ℕ
  wrong test = count_by test (node (suc (rested w i))).happened

  abbrev head : ℕ → Option Content
  head = head_after w i (slice_get (w.frames i) handed.which) (head_at setup (unsent_of setup (node (suc (rested w i)))))

  -- what it is handed up to its last bit before the frame
  few : begins_next w i ≡ false → has_next w i ≡ true → (op : Option ℕ) → edge_next w i ≡ op → m < w.decides i
  few e own None none = (let yes = reaching.alone_begins (silence_of w) line (silent_of w line are) i inside none in cc)
  few e own (Some q) found =
      (let f = reaching.found_is (silence_of w) line (silent_of w line are) i q found in
      let by = reaching.by_decision (silence_of w) line (silent_of w line are) i q inside own e f in
      let from : (start_next w).from i ≡ q = ap (hard_from (due_next w i)) found in
      let before = last.before in
      lt_of_mul-lt-mul_right B (let h : m * B < w.decides i * B = omega arith in h))

  none_up_to : begins_next w i ≡ false → (n : ℕ) → n ≤ m → head n ≡ None
  none_up_to e n less = elim (cases_Bool (has_next w i)) [
    | inl own ↦ (let h = few e own (edge_next w i) refl in hands.unready n (omega arith))
    | inr none ↦ hands.none n none
  ]

  none_before : (n : ℕ) → n < m → head n ≡ None
  none_before n less = elim (cases_Bool (begins_next w i)) [
    | inl own ↦ (let h = last_is w i own in hands.unready n (omega arith))
    | inr other ↦ none_up_to other n (omega arith)
  ]

  head_last : begins_next w i ≡ true → head m ≡ slice_get (w.frames i) (w.which i)
  head_last e = ap head (last_is w i e) ∙ hands.ready (reaching.begins_has (silence_of w) line (silent_of w line are) i e)

  -- the stretch of its machine
  abbrev x : ℕ → Stretch
  x = stretches head

  abbrev resting : List Input
  resting = before i ++ no_frame_sample ∷ []

  resting_is : stretch_of resting ≡ stretch_by Idle []
  resting_is =
      ap (λ y. stretch_of (before i ++ y ∷ [])) (sym (none_is w.frames i)) ∙ frees.free i (none_of w.frames i) inside refl
      ∙ ap (λ h. stretch_by (free h) []) (slice_get_past (w.frames i) (length (w.frames i)) (omega arith))

  -- without a frame it is as after samples of an idle bus
  x_none : (n : ℕ) → ((j : ℕ) → j ≤ n → head j ≡ None) → x n ≡ stretch_of (resting ++ replicate n no_frame_sample)
  x_none zero none = ap (λ h. stretch_by (free h) []) (none 0 (omega arith)) ∙ sym (ap stretch_of (append-nil resting) ∙ resting_is)
  x_none (suc n) none =
      ap (λ h. stretch_after (x n) (Sample (sample_of Recessive h Active))) (none (suc n) (omega arith))
      ∙ ap (λ y. stretch_after y no_frame_sample) (x_none n (λ j less. none j (omega arith)))
      ∙ sym (ap (λ v. stretch_of (resting ++ v)) (one_more n)
      ∙ ap stretch_of (sym (append_assoc resting (replicate n no_frame_sample) (no_frame_sample ∷ [])))
      ∙ stretch_next (resting ++ replicate n no_frame_sample) no_frame_sample)

  x_idle : (n : ℕ) → n < m → (x n).sort ≡ Idle
  x_idle n less = ap (λ y. y.sort) (x_none n (λ j low. none_before j (omega arith))) ∙ idle_after resting n (ap (λ y. y.sort) resting_is)

  x_begun : (n : ℕ) (c : Content) → n ≤ m → head n ≡ Some c → ((j : ℕ) → j < n → head j ≡ None) → x n ≡ stretch_by (Framing (Some c)) []
  x_begun zero c less e none = ap (λ h. stretch_by (free h) []) e
  x_begun (suc n) c less e none =
      ap (λ h. stretch_after (x n) (Sample (sample_of Recessive h Active))) e ∙ takes_head (x n) c (x_idle n (omega arith))

  -- as is expected
  past_follows : begins_next w i ≡ false → stretch_of (o.past i) ≡ stretch_of (resting ++ replicate m no_frame_sample)
  past_follows e =
      ap stretch_of (past_inside wait w before line are frees i inside ∙ ap (λ b. before i ++ waiting_past b (w.frames i) (w.which i) m) e
      ∙ sym (append_assoc (before i) (no_frame_sample ∷ []) (replicate m no_frame_sample)))

  x_last : x m ≡ stretch_of (o.past i)
  x_last = elim (cases_Bool (begins_next w i)) [
    | inl own ↦
        (let c = begun wait w before line are frees i own in
        x_begun m c.0 (omega arith) (head_last own ∙ c.1) (λ j less. none_before j less) ∙ sym c.2)
    | inr other ↦ x_none m (λ j less. none_up_to other j less) ∙ sym (past_follows other)
  ]

  -- bit by bit
  abbrev Rests : ℕ → Type 0
  Rests n = idle.Rests edges calm setup (s.lengths i) segments (line.book i inside) levels node run (p n) (x n) passed wrong

  p_zero : p 0 ≡ w.place i
  p_zero = omega arith

  p_next : (n : ℕ) → p n + B ≡ p (suc n)
  p_next n = omega arith

  free_first : stretch_of (before i ++ Sample (sampled Recessive (w.frames i) handed) ∷ []) ≡ x 0
  free_first = frees.free i handed inside active

  rests_first : Rests 0
  rests_first =
      subst (λ k. idle.Rests edges calm setup (s.lengths i) segments (line.book i inside) levels node run k (x 0) passed wrong) (sym p_zero)
      (record {
        sampled = first.sampled;
        clock = first.clock;
        stretch = first.stretch ∙ free_first;
        counts = first.counts;
        frames = refl;
        found = λ test fine. refl;
        drive = first.drive (suc (rested w i)) (let h = since_before in omega arith) (omega arith);
      })

  silent_bit : (n : ℕ) → n < m → (q : ℕ) → p n + S < q → q ≤ p n + B + S → levels q ≡ Recessive
  silent_bit n less q low high =
      let b = last.before in
      let up : suc n * B ≤ m * B = mul-le-mul_right B less in
      let e : suc n * B ≡ n * B + B = omega arith in
      silent q (omega arith) (omega arith)

  -- the head by its place
  head_is : (n : ℕ) → head_at setup (unsent_after setup passed) (p n + B + S) ≡ head (suc n)
  head_is n = ap (head_at setup (unsent_after setup passed)) (let e : p n + B + S ≡ w.place i + suc n * B + S = omega arith in e)

  rests_next_by : (n : ℕ) → n < m → Rests n → Rests (suc n)
  rests_next_by n less r =
      subst (λ k. idle.Rests edges calm setup (s.lengths i) segments (line.book i inside) levels node run k (x (suc n)) passed wrong) (p_next n)
      (subst (λ h. idle.Rests edges calm setup (s.lengths i) segments (line.book i inside) levels node run (p n + B) (stretch_after (x n) (Sample (sample_of Recessive h Active))) passed wrong) (head_is n)
      (idle.rests_next edges calm setup (s.lengths i) segments (line.book i inside) levels node run (p n) (x n) (x_idle n less) passed wrong r (silent_bit n less)))

  rests_at : (n : ℕ) → n ≤ m → Rests n
  rests_at zero less = rests_first
  rests_at (suc n) less = rests_next_by n less (rests_at n (omega arith))

  drive_at : (n : ℕ) → n ≤ m → (q : ℕ) → since < q → q ≤ suc (p n + S) → (node q).drive ≡ Recessive
  drive_at zero less q low high = first.drive q low (omega arith)
  drive_at (suc n) less q low high = elim (cases_lt (p n + S) q) [
    | inl later ↦
        idle.drive_next edges calm setup (s.lengths i) segments (line.book i inside) levels node run (p n) (x n) (x_idle n less) passed wrong (rests_at n (omega arith)) (silent_bit n less) q later
        (let e = p_next n in omega arith)
    | inr sooner ↦ drive_at n (omega arith) q low (omega arith)
  ]

  pub resumes : RestsAgain s (o.past i) i levels node (rest_next w i) since
  resumes =
      let r = rests_at m (omega arith) in
      record {
        sampled = r.sampled;
        clock = r.clock;
        stretch = r.stretch ∙ x_last;
        over = over_next wait w before line are frees i inside;
        counts = r.counts;
        drive = drive_at m (omega arith);
      }

  -- no frame has passed it meanwhile
  pub passed_none : (node (suc (rest_next w i + S))).frames ≡ passed
  passed_none = (rests_at m (omega arith)).frames
