-- A station that only listens goes from frame to frame, and receives each.
use Rattle.std.proofs.Common.{◌≡◌, ◌≢◌, ◌∙◌, refl, sym, ap, subst, ℕ, zero, suc, ◌+◌, ◌*◌, ◌<◌, ◌≤◌, cond, true, false, [], ◌∷◌, ◌++◌, None, arith, append-nil, append_assoc, inl, inr}
use Rattle.std.proofs.lemmas.Bool.{cases_lt, ne_eqb}
use Rattle.wl_level.specs.declared.Level.{Level}
use Rattle.wl_level.specs.Levels.{level_of}
use Rattle.wl_segments.specs.Lengths.{bit_quanta, sample_at}
use Rattle.wl_topology.specs.Driven.{driven}
use Rattle.wl_frame.specs.Grammar.{Content}
use Rattle.wl_node.specs.declared.setup.NodeSetup.{NodeSetup}
use Rattle.wl_node.specs.declared.setup.Passed.{Passed}
use Rattle.wl_node.specs.Queues.{head_by, unsent_by}
use Rattle.wl_node.specs.History.{History, error_count, unsent_of}
use Rattle.wl_phase.specs.Clocks.{steady_tick}
use Rattle.wl_buses.specs.BothProofs.Queues.{head_at}
use Rattle.wl_buses.specs.OneFrame.Expected.{IsOutset, Outset, expected_bits, expected_drove, expected_sample, past_at}
use Rattle.wl_buses.specs.OneFrame.Lines.{BeginsAfter}
use Rattle.wl_buses.specs.OneFrame.Machines.{HasWon}
use Rattle.wl_buses.specs.OneFrame.Nodes.{IsRun}
use Rattle.wl_buses.specs.OneFrame.Stations.{AreStations, HaveRoom, Stations}
use Rattle.wl_buses.specs.FirstFrame.Faults.{fault_count}
use Rattle.wl_buses.specs.FrameEnd.Again.{RestsAgain}
use Rattle.wl_buses.specs.FrameEnd.Asked.{EndsBefore}
use Rattle.wl_buses.specs.FrameEnd.Finds.{FindsTheEnd, finds_at}
use Rattle.wl_buses.specs.FrameEnd.Rests.{passed_frame, waiting_frame}
use Rattle.wl_buses.specs.NextFrames.Frames.{AreInOrder, Frame, frames_drove, resting_of, third_sample}
use Rattle.wl_buses.specs.NextFrames.NextNodes.{HandsNext, head_after}
use Rattle.wl_buses.specs.NextFrames.NextStarts.{AreResting, Resting, due_next, has_next, rest_next}
use Rattle.wl_buses.specs.NextFrames.Runs.{GoesThroughInOrder}
use Rattle.wl_buses.specs.PassedFrames.Passing.{PassesOne}
use Rattle.wl_buses.specs.OneListener.Beside.{with_listener}
use Rattle.wl_buses.specs.OneListener.Frames.{CanAllBeHeard, ReceivesAll, received_with}
use Rattle.wl_buses.proofs.BothProofs.Orders.{left_none, none_by}
use Rattle.wl_buses.proofs.OneFrame.Measures.{tick_next}
use Rattle.wl_buses.proofs.FrameEnd.Below.{MachineLaws}
use Rattle.wl_buses.proofs.FrameEnd.Placing as placing
use Rattle.wl_buses.proofs.OneFrame.Expecting.{from_sample}
use Rattle.wl_buses.proofs.NextFrames.Found.{NothingFound, alone}
use Rattle.wl_buses.proofs.NextFrames.Onward as onward
use Rattle.wl_buses.proofs.NextFrames.Onward.{FreeLaw, GoesOn, RestsLaw, ThroughLaw, WaitLaw}
use Rattle.wl_buses.proofs.SentFrames.Handing.{WaitFine}
use Rattle.wl_buses.proofs.OneListener.AtEnd.{at_rest, finds_the_end, other_wins}

-- the law that this rests on
abbrev pub PassFound : Type 0
PassFound = (s : Stations) (o : Outset) (end : ℕ) → AreStations s → HaveRoom s → IsOutset s o → 0 < end → EndsBefore s o end → (won : HasWon s (expected_bits s o) o.frames end)
    → (i rest since : ℕ) (setup : NodeSetup) (levels : ℕ → Level) (node : ℕ → History) → i < s.count → FindsTheEnd s o end i → setup.segments ≡ s.lengths i → IsRun setup levels node
    → BeginsAfter s o i rest → RestsAgain s (o.past i) i levels node rest since → since ≤ rest + sample_at (s.lengths i)
    → ((q : ℕ) → rest + sample_at (s.lengths i) < q → q ≤ expected_sample s o (end + 12) i → levels q ≡ level_of (finds_at s o end i q)) → PassesOne s o end won.station i rest won.frame node

module _ (m : MachineLaws) (nothing : NothingFound) (rests : RestsLaw) (free : FreeLaw) (wait : WaitLaw) (through : ThroughLaw) (pass : PassFound) (wait_fine : WaitFine)
    (s : Stations) (are : AreStations (with_listener s)) (room : HaveRoom (with_listener s)) (mute : s.may_send s.count ≡ false) (fs : ℕ → Frame) (count : ℕ) (frames : AreInOrder (with_listener s) fs count)
    (way : ℕ → ℕ → ℕ) (chase : ℕ → ℕ) (more : ℕ → ℕ → ℕ) (can : CanAllBeHeard s fs count frames way chase more)
    (content : ℕ → Content) (wins_with : (n : ℕ) (less : n < count) → (frames.each n less).won.frame ≡ content n)
    (setup : NodeSetup) (segments : setup.segments ≡ s.lengths s.count) (empty : setup.queue ≡ []) (levels : ℕ → Level) (node : ℕ → History) (run : IsRun setup levels node)
    (finds : (n q : ℕ) → n < count → q ≤ third_sample (with_listener s) (fs n) s.count
    → levels q ≡ level_of (driven (suc s.count) s.delay (frames_drove (with_listener s) fs count) s.count (steady_tick (s.clocks s.count) q))) where
  abbrev l : ℕ
  l = s.count

  abbrev x : Stations
  x = with_listener s

  abbrev T : ℕ → ℕ
  T n = third_sample x (fs n) l

  abbrev S : ℕ
  S = sample_at (s.lengths l)

  inside_l : l < x.count
  inside_l = omega arith

  pub hears : (n : ℕ) → n < count → FindsTheEnd x (fs n).outset (fs n).bits l
  hears n less =
      let f = frames.each n less in
      finds_the_end m s are room mute (fs n).outset f.outset (fs n).bits f.ends.none f.ends.there f.won way chase (more n) (can.each n less) (can.unheard n less)

  pub other : (n : ℕ) (less : n < count) → l ≢ (frames.each n less).won.station
  other n less e =
      let f = frames.each n less in
      other_wins m s are room mute (fs n).outset f.outset (fs n).bits f.ends.none f.ends.there f.won way chase (more n) (can.each n less) (can.unheard n less) (sym e)

  abbrev r : (n : ℕ) → suc n < count → Resting
  r n less = resting_of x (fs n) (fs (suc n)) (frames.next n less)

  -- the listener has no frame
  has_none : (n : ℕ) (less : suc n < count) → has_next (r n less) l ≡ true → ⊥
  has_none n less e = (let may = (frames.next n less).more.may l e in cc)

  -- all rest before the next frame
  third_first : (n i k : ℕ) → suc n < count → i < x.count → k < s.count → i ≢ k
      → steady_tick (s.clocks i) (third_sample x (fs n) i) < steady_tick (s.clocks k) ((expected_bits x (fs n).outset ((fs n).bits + 12)).place k + bit_quanta (s.lengths k)) + s.delay k i
  third_first n i k less inside there apart = elim (cases_lt i s.count) [
    | inl one ↦ can.others n i k less one there apart
    | inr past ↦
        (let same : l ≡ i = omega arith in
        let before : n < count = omega arith in
        let f = frames.each n before in
        subst (λ w. steady_tick (s.clocks w) (third_sample x (fs n) w) < steady_tick (s.clocks k) ((expected_bits x (fs n).outset ((fs n).bits + 12)).place k + bit_quanta (s.lengths k)) + s.delay k w) same
        (at_rest m s are room mute (fs n).outset f.outset (fs n).bits f.ends.none f.ends.there f.won way chase (more n) (can.each n before) (can.unheard n before) (can.rest n before) k there))
  ]

  idle_at : (n : ℕ) (less : suc n < count) (i k : ℕ) → i < x.count → i ≢ k → has_next (r n less) k ≡ true
      → steady_tick (s.clocks i) (third_sample x (fs n) i) < steady_tick (s.clocks k) (due_next (r n less) k) + s.delay k i
  idle_at n less i k inside apart has =
      let low = (frames.next n less).more.inside k has in
      let mine : k ≢ l = (λ e. has_none n less (subst (λ w. has_next (r n less) w ≡ true) e has)) in
      let there : k < s.count = omega (arith, low, mine) in
      let decides = (frames.next n less).decides k in
      let bit = bit_quanta (s.lengths k) in
      let e : suc ((frames.next n less).decides k) * bit_quanta (s.lengths k) ≡ bit_quanta (s.lengths k) + (frames.next n less).decides k * bit_quanta (s.lengths k) = omega arith in
      let later : (expected_bits x (fs n).outset ((fs n).bits + 12)).place k + bit_quanta (s.lengths k) ≤ due_next (r n less) k = omega arith in
      let up = tick_next x are k low ((expected_bits x (fs n).outset ((fs n).bits + 12)).place k + bit_quanta (s.lengths k)) (due_next (r n less) k) later in
      let before = third_first n i k less inside there apart in
      omega arith

  pub resting : (n : ℕ) (less : suc n < count) → AreResting (r n less)
  resting n less = record {
    frames = (frames.each n (omega arith)).outset.frames;
    inside = (frames.next n less).more.inside;
    may = (frames.next n less).more.may;
    some = (frames.next n less).more.some;
    idle = idle_at n less;
  }

  -- and the listener is handed nothing
  pub none_head : (h : History) (quantum : ℕ) → head_at setup (unsent_of setup h) quantum ≡ None
  none_head h quantum =
      ap (λ q. head_by setup.order (unsent_by setup.order q h.frames) quantum) empty ∙ ap (λ q. head_by setup.order q quantum) (left_none setup.order h.frames) ∙ none_by setup.order quantum

  hands : (n : ℕ) (less : suc n < count) → HandsNext (r n less) l (waiting_frame setup (node (T n))) (head_at setup (unsent_of setup (node (suc (T n)))))
  hands n less = record {
    none = λ k e. all_none k;
    unready = λ k e. all_none k;
    ready = λ e. absurd (has_none n less e);
  }
    where
      all_none : (k : ℕ) → head_after (r n less) l (waiting_frame setup (node (T n))) (head_at setup (unsent_of setup (node (suc (T n))))) k ≡ None
      all_none zero = none_head (node (T n)) _
      all_none (suc k) = none_head (node (suc (T n))) _

  -- up to its sample of the first CRC delimiter it finds what the first frame's stuffed part drives
  pub finds_first : (some : 0 < count) (q : ℕ) → q < (fs 0).outset.start.from l
      → levels q ≡ level_of (driven x.count s.delay (expected_drove x (fs 0).outset (fs 0).bits) l (steady_tick (s.clocks l) q))
  finds_first some q less =
      let f = frames.each 0 some in
      let begun = from_sample m.steps m.errors m.winner m.stuffed m.six m.ten x are room (fs 0).outset f.outset (fs 0).bits f.ends.none 0 l inside_l in
      let stuffed = placing.samples_up m x are room (fs 0).outset f.outset (fs 0).bits f.ends.none f.ends.there f.won 0 (fs 0).bits l inside_l (omega arith) in
      let third = placing.samples_up m x are room (fs 0).outset f.outset (fs 0).bits f.ends.none f.ends.there f.won (fs 0).bits ((fs 0).bits + 12) l inside_l (omega arith) in
      finds 0 q some (omega arith)
      ∙ ap level_of
      (alone m nothing x are room fs count frames l inside_l hears resting 0 q some (λ j e. absurd (omega (arith, e))) (omega arith)
      ∙ placing.found_was m x are room (fs 0).outset f.outset (fs 0).bits f.ends.none f.ends.there f.won l inside_l (hears 0 some).later q (omega arith))

  -- from its rest before the first frame on
  module _ (first_rest first_since : ℕ) (begins : BeginsAfter x (fs 0).outset l first_rest) (first : RestsAgain x ((fs 0).outset.past l) l levels node first_rest first_since)
      (early : first_since ≤ first_rest + sample_at (s.lengths l)) where
    abbrev Goes : (n : ℕ) → n < count → Type 0
    Goes n less = GoesThroughInOrder x fs count frames l first_since setup levels node n less

    record Stage (n : ℕ) (less : n < count) : Type 0 where
      goes : Goes n less
      received : (node (suc (T n))).frames ≡ (node (suc (first_rest + S))).frames ++ received_with s fs content (suc n)
      errors : error_count (node (suc (T n))) ≡ error_count (node (suc (first_rest + S)))
      faults : fault_count (node (suc (T n))) ≡ fault_count (node (suc (first_rest + S)))

    abbrev got : ℕ → Passed
    got n = record { sent = false; quantum = expected_sample x (fs n).outset ((fs n).bits + 8) l; frame = content n }

    got_is : (n : ℕ) (less : n < count) → passed_frame x (fs n).outset (fs n).bits l (frames.each n less).won.station (frames.each n less).won.frame ≡ got n
    got_is n less =
        ap (λ b. record { sent = b; quantum = expected_sample x (fs n).outset ((fs n).bits + cond b 9 8) l; frame = (frames.each n less).won.frame }) (ne_eqb l (frames.each n less).won.station (other n less))
        ∙ ap (λ c. record { sent = false; quantum = expected_sample x (fs n).outset ((fs n).bits + 8) l; frame = c }) (wins_with n less)

    stage : (n : ℕ) (less : n < count) (rest since : ℕ) → BeginsAfter x (fs n).outset l rest → RestsAgain x ((fs n).outset.past l) l levels node rest since → since ≤ rest + S
        → ((j : ℕ) → suc j ≡ n → T j ≤ rest + S) → Goes n less
        → (node (suc (rest + S))).frames ≡ (node (suc (first_rest + S))).frames ++ received_with s fs content n
        → error_count (node (suc (rest + S))) ≡ error_count (node (suc (first_rest + S)))
        → fault_count (node (suc (rest + S))) ≡ fault_count (node (suc (first_rest + S))) → Stage n less
    stage n less rest since after at by_then last goes had errors faults =
        let f = frames.each n less in
        let p : PassesOne x (fs n).outset (fs n).bits (frames.each n less).won.station l rest (frames.each n less).won.frame node =
        pass x (fs n).outset (fs n).bits are room f.outset f.some f.ends f.won l rest since setup levels node inside_l (hears n less) segments run after at by_then
        (λ q above up. onward.finds_alone m nothing rests free wait through x are room fs count frames l inside_l hears resting setup segments levels node run finds first_rest first_since begins first early
        n q less (λ j e. (let low = last j e in omega arith)) up) in
        record {
          goes = goes;
          received =
              p.frames ∙ ap (λ g. (node (suc (rest + S))).frames ++ g ∷ []) (got_is n less) ∙ ap (λ w. w ++ got n ∷ []) had
              ∙ append_assoc (node (suc (first_rest + S))).frames (received_with s fs content n) (got n ∷ []);
          errors = p.errors ∙ errors;
          faults = p.faults ∙ faults;
        }

    step : (n : ℕ) (less : suc n < count) → Stage n (omega arith) → Stage (suc n) less
    step n less y =
        let f = frames.each n (omega arith) in
        let g : GoesOn x fs count frames l first_since setup levels node n less =
        onward.goes_on m nothing rests free wait through x are room fs count frames l inside_l hears resting setup segments levels node run finds first_rest first_since begins first early n less y.goes (hands n less) in
        let fine =
        wait_fine (r n less) (past_at x (fs n).outset ((fs n).bits + 12)) are.line (resting n less) (free x (fs n).outset (fs n).bits are room f.outset f.ends f.won) l inside_l setup segments levels node run g.handed
        g.active g.since g.early g.rests g.silent g.hands in
        stage (suc n) less (rest_next (r n less) l) (T n) g.begins g.again (omega arith)
        (λ j e. (let same : j ≡ n = omega (arith, e) in let h : T j ≡ T n = ap T same in omega arith)) g.goes (g.same ∙ y.received) (fine.0 ∙ y.errors) (fine.1 ∙ y.faults)

    stages : (n : ℕ) (less : n < count) → Stage n less
    stages zero less =
        stage 0 less first_rest first_since begins first early (λ j e. absurd (omega (arith, e)))
        (onward.goes_first m nothing rests free wait through x are room fs count frames l inside_l hears resting setup segments levels node run finds first_rest first_since begins first early less)
        (sym (append-nil (node (suc (first_rest + S))).frames)) refl refl
    stages (suc n) less = step n less (stages n (omega arith))

    pub receives_all : ReceivesAll s fs count frames content setup levels node first_rest first_since
    receives_all = record {
      goes = λ n less. (stages n less).goes;
      received = λ n less. (stages n less).received;
      errors = λ n less. (stages n less).errors;
      faults = λ n less. (stages n less).faults;
    }
