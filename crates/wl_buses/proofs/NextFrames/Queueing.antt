-- A queue hands one of its frames to a node that rests.
use Rattle.std.proofs.Common.{◌≡◌, ◌∙◌, refl, sym, ap, subst, ℕ, zero, suc, ◌+◌, ◌-◌, ◌*◌, ◌<◌, ◌≤◌, false, true, List, [], ◌∷◌, length, arith}
use Rattle.std.specs.Int.{div_ceil}
use Rattle.std.proofs.lemmas.Bool.{le-ltb, lt-ltb}
use Rattle.std.proofs.lemmas.Grind.{div_ceil_times}
use Rattle.std.proofs.Math.Nat.{mul-le-mul_right}
use Rattle.wl_segments.specs.Lengths.{bit_quanta, sample_at}
use Rattle.wl_node.specs.declared.setup.Queued.{Queued}
use Rattle.wl_node.specs.History.{History, unsent_of}
use Rattle.wl_buses.specs.BothProofs.Queues.{head_at, wakes_at}
use Rattle.wl_buses.proofs.BothProofs.Heads.{head_early, head_late, head_none, none_then, some_then}
use Rattle.wl_level.specs.declared.Level.{Level}
use Rattle.wl_node.specs.declared.setup.NodeSetup.{NodeSetup}
use Rattle.wl_buses.specs.OneFrame.Stations.{Stations}
use Rattle.wl_buses.specs.OneFrame.Nodes.{IsRun, clock_sees}
use Rattle.wl_buses.proofs.OneFrame.Nodes.{seen_are}
use Rattle.wl_buses.proofs.FirstFrame.Silent.{seen_length}
use Rattle.wl_buses.specs.FrameEnd.Rests.{waiting_frame}
use Rattle.wl_buses.specs.NextFrames.Frames.{FollowOneAnother, Frame, resting_of, third_sample}
use Rattle.wl_buses.specs.NextFrames.Runs.{HandsBetween}
use Rattle.wl_buses.specs.NextFrames.NextNodes.{HandsNext, head_after}
use Rattle.wl_buses.specs.NextFrames.NextStarts.{Resting, decision_next, has_next, rested}
use Rattle.wl_buses.specs.NextFrames.Queues.{DecidesByQueue, SendsByQueue, decides_after}

module _ (r : Resting) (i : ℕ) (setup : NodeSetup) (unsent : List Queued) (by : DecidesByQueue r i setup unsent) (some : 0 < bit_quanta (r.stations.lengths i)) where
  decides : r.decides i ≡ decides_after (r.stations.lengths i) (r.place i) (wakes_at setup unsent)
  decides = by.decides

  abbrev S : ℕ
  S = sample_at (r.stations.lengths i)

  abbrev B : ℕ
  B = bit_quanta (r.stations.lengths i)

  abbrev ready : ℕ
  ready = wakes_at setup unsent

  abbrev wait : ℕ
  wait = ready - (r.place i + S)

  head_is : (n : ℕ) → head_after r i (head_at setup unsent (rested r i)) (head_at setup unsent) n ≡ head_at setup unsent (r.place i + n * B + S)
  head_is zero = ap (head_at setup unsent) (let e : r.place i + S ≡ r.place i + 0 * B + S = omega arith in e)
  head_is (suc n) = refl

  before : (n : ℕ) → n < r.decides i → r.place i + n * B + S < ready
  before n less =
      let up : suc n * B ≤ div_ceil wait B * B = mul-le-mul_right B (let e = decides in let h : suc n ≤ div_ceil wait B = omega arith in h) in
      let more : suc n * B ≡ n * B + B = omega arith in
      let ceil = (div_ceil_times wait B some).1 in
      omega arith

  by_then : ready ≤ decision_next r i
  by_then =
      let ceil = (div_ceil_times wait B some).0 in
      let same : r.decides i * B ≡ div_ceil wait B * B = ap (λ n. n * B) decides in
      omega arith

  -- it has a frame to send if its queue has one left
  pub has_some : 0 < length unsent → has_next r i ≡ true
  has_some more = (let x = head_late setup unsent (decision_next r i) more by_then in lt_true (some_then (r.frames i) (r.which i) x.frame (by.which ∙ x.is)))
    where
      lt_true : r.which i < length (r.frames i) → has_next r i ≡ true
      lt_true less = lt-ltb (r.which i) (length (r.frames i)) less

  pub has_none : unsent ≡ [] → has_next r i ≡ false
  has_none none =
      le-ltb (r.which i) (length (r.frames i))
      (none_then (r.frames i) (r.which i) (by.which ∙ ap (λ u. head_at setup u (decision_next r i)) none ∙ head_none setup (decision_next r i)))

  none_of : (u : List Queued) → unsent ≡ u → has_next r i ≡ false → unsent ≡ []
  none_of [] is e = is
  none_of (q ∷ more) is e = (let yes = has_some (let l = ap length is in omega arith) in cc)

  pub queue_hands : HandsNext r i (head_at setup unsent (rested r i)) (head_at setup unsent)
  queue_hands = record {
    none = λ n e. head_is n ∙ ap (λ u. head_at setup u (r.place i + n * B + S)) (none_of unsent refl e) ∙ head_none setup (r.place i + n * B + S);
    unready = λ n less. head_is n ∙ head_early setup unsent (r.place i + n * B + S) (before n less);
    ready = λ e. head_is (r.decides i) ∙ sym by.which;
  }

-- after one frame
pub hands_one : (s : Stations) (frames : ℕ → Frame) (count : ℕ) (are : FollowOneAnother s frames count) (i : ℕ) (setup : NodeSetup) (levels : ℕ → Level) (node : ℕ → History) → IsRun setup levels node
    → 0 < bit_quanta (s.lengths i) → (n : ℕ) (less : suc n < count)
    → DecidesByQueue (resting_of s (frames n) (frames (suc n)) (are.next n less)) i setup (unsent_of setup (node (third_sample s (frames n) i)))
    → unsent_of setup (node (suc (third_sample s (frames n) i))) ≡ unsent_of setup (node (third_sample s (frames n) i))
    → HandsNext (resting_of s (frames n) (frames (suc n)) (are.next n less)) i (waiting_frame setup (node (third_sample s (frames n) i))) (head_at setup (unsent_of setup (node (suc (third_sample s (frames n) i)))))
hands_one s frames count are i setup levels node run some n less by same =
    let third : length (node (third_sample s (frames n) i)).seen ≡ third_sample s (frames n) i =
    ap length (seen_are setup levels node run (third_sample s (frames n) i)) ∙ seen_length (clock_sees levels node) (third_sample s (frames n) i) in
    subst (λ k. HandsNext (resting_of s (frames n) (frames (suc n)) (are.next n less)) i (head_at setup (unsent_of setup (node (third_sample s (frames n) i))) k)
    (head_at setup (unsent_of setup (node (suc (third_sample s (frames n) i)))))) (sym third)
    (subst (λ u. HandsNext (resting_of s (frames n) (frames (suc n)) (are.next n less)) i (head_at setup (unsent_of setup (node (third_sample s (frames n) i))) (third_sample s (frames n) i)) (head_at setup u)) (sym same)
    (queue_hands (resting_of s (frames n) (frames (suc n)) (are.next n less)) i setup (unsent_of setup (node (third_sample s (frames n) i))) by some))

-- after each frame
pub hands_between : (s : Stations) (frames : ℕ → Frame) (count : ℕ) (are : FollowOneAnother s frames count) (i : ℕ) (setup : NodeSetup) (levels : ℕ → Level) (node : ℕ → History) → IsRun setup levels node
    → 0 < bit_quanta (s.lengths i) → SendsByQueue s frames count are i setup node → HandsBetween s frames count are i setup node
hands_between s frames count are i setup levels node run some by n less =
    let q = by n less in
    hands_one s frames count are i setup levels node run some n less q.0 q.1
