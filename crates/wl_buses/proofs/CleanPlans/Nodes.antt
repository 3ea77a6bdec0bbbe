-- A node at each of its quanta: what has passed it, and that it has found nothing that isn't fine.
use Rattle.std.proofs.Common.{◌≡◌, ◌∙◌, ◌⊎◌, inl, inr, sym, ap, subst, ℕ, zero, suc, ◌-◌, ◌<◌, ◌≤◌, List, [], ◌∷◌, ◌++◌, length, arith, append-nil}
use Rattle.std.proofs.lemmas.List.{length-append}
use Rattle.wl_level.specs.declared.Level.{Level}
use Rattle.wl_node.specs.declared.setup.NodeSetup.{NodeSetup}
use Rattle.wl_node.specs.declared.setup.Passed.{Passed}
use Rattle.wl_node.specs.History.{History, unsent_of}
use Rattle.wl_buses.specs.BothProofs.Queues.{unsent_after}
use Rattle.wl_buses.specs.OneFrame.Expected.{expected_sample}
use Rattle.wl_buses.specs.OneFrame.Nodes.{IsRun}
use Rattle.wl_buses.specs.OneFrame.Stations.{Stations}
use Rattle.wl_buses.specs.FrameEnd.Rests.{passed_frame, passing_bit}
use Rattle.wl_buses.specs.NextFrames.Frames.{FollowOneAnother, Frame, third_sample}
use Rattle.wl_buses.specs.NextFrames.Runs.{GoesThroughOne}
use Rattle.wl_buses.specs.FirstFrame.Faults.{fault_count}
use Rattle.wl_buses.specs.NextFrames.Silence.{StillRests}
use Rattle.wl_buses.specs.SentFrames.Sending.{ByQueues, PassesAll}
use Rattle.wl_buses.specs.SentFrames.Winners.{passed_with}
use Rattle.wl_buses.proofs.CleanPlans.Passed.{many}

-- the laws that this rests on
abbrev pub FaultsStay : Type 0
FaultsStay = (setup : NodeSetup) (levels : ℕ → Level) (node : ℕ → History) (k m : ℕ) → IsRun setup levels node → k ≤ m → fault_count (node k) ≤ fault_count (node m)

abbrev pub FramesStay : Type 0
FramesStay = (setup : NodeSetup) (levels : ℕ → Level) (node : ℕ → History) (k m : ℕ) → IsRun setup levels node → k ≤ m → (more : List Passed) × ((node m).frames ≡ (node k).frames ++ more)

module _ (faults : FaultsStay) (stay : FramesStay) (s : Stations) (setups : ℕ → NodeSetup) (frames : ℕ → Frame) (count : ℕ) (all : FollowOneAnother s frames count)
    (by : ByQueues s setups frames count all) (some : 0 < count) (i : ℕ) (inside : i < s.count) (levels : ℕ → Level) (node : ℕ → History) (run : IsRun (setups i) levels node)
    (has : PassesAll s setups frames count all by i node) where
  abbrev T : ℕ → ℕ
  T n = third_sample s (frames n) i

  abbrev P : ℕ → List Passed
  P n = passed_with s frames by.winner by.content i n

  -- the last frame
  abbrev pub z : ℕ
  z = count - 1

  pub z_is : suc z ≡ count
  z_is = omega arith

  last_passed : (node (suc (T z))).frames ≡ P count
  last_passed = has.passed z (omega arith) ∙ ap P z_is

  -- what is known of a quantum: what has passed is a first part of all frames
  pub record IsKnown (k : ℕ) : Type 0 where
    pub more : List Passed
    pub frames_are : P count ≡ (node k).frames ++ more
    pub fine : fault_count (node k) ≡ 0

  known_early : (k : ℕ) → k ≤ suc (T z) → IsKnown k
  known_early k early =
      let x = stay (setups i) levels node k (suc (T z)) run early in
      let grows = faults (setups i) levels node k (suc (T z)) run early in
      let none = has.faults z (omega arith) in
      record { more = x.0; frames_are = sym last_passed ∙ x.1; fine = omega arith }

  known_late : (k : ℕ) → StillRests node (suc (T z)) k → IsKnown k
  known_late k rests =
      record { more = []; frames_are = sym last_passed ∙ sym rests.frames ∙ sym (append-nil (node k).frames); fine = rests.faults ∙ has.faults z (omega arith) }

  pub known : (k : ℕ) → (k ≤ suc (T z)) ⊎ StillRests node (suc (T z)) k → IsKnown k
  known k (inl early) = known_early k early
  known k (inr rests) = known_late k rests

  -- if nothing of its queue is left after all frames
  module _ (emptied : unsent_after (setups i) (P count) ≡ []) where
    unsent_none : (q : ℕ) → (node q).frames ≡ P count → unsent_of (setups i) (node q) ≡ []
    unsent_none q passed = ap (unsent_after (setups i)) passed ∙ emptied

    pub none_before : (n : ℕ) → suc n ≡ count → unsent_of (setups i) (node (T n)) ≡ []
    none_before n e = unsent_none (T n) (has.third n (omega arith) ∙ ap P e)

    pub none_after : (n : ℕ) → suc n ≡ count → unsent_of (setups i) (node (suc (T n))) ≡ []
    none_after n e = unsent_none (suc (T n)) (has.passed n (omega arith) ∙ ap P e)

  -- a frame passes it with the bit that is computed
  module _ (grows : (n bit : ℕ) → suc n < count → T n < expected_sample s (frames (suc n)).outset bit i) (first : ℕ)
      (goes : (n : ℕ) (less : n < count) → GoesThroughOne s frames count all i first (setups i) levels node n less) where
    abbrev at : ℕ → ℕ → ℕ
    at n sender = expected_sample s (frames n).outset (passing_bit (frames n).bits i sender) i

    length_up : (k m : ℕ) → k ≤ m → length (node k).frames ≤ length (node m).frames
    length_up k m few = let x = stay (setups i) levels node k m run few in let e = ap length x.1 in let both = length-append (node k).frames x.0 in omega arith

    before : (n sender : ℕ) → n < count → n ≤ length (node (at n sender)).frames
    before zero sender less = omega arith
    before (suc n) sender less =
        (let up = length_up (suc (T n)) (at (suc n) sender) (grows n (passing_bit (frames (suc n)).bits i sender) less) in
        let e = ap length (has.passed n (omega arith)) in
        let l = many s frames by.winner by.content i (suc n) in
        omega arith)

    passes_own : (n : ℕ) (less : n < count) → suc n ≤ length (node (suc (at n (all.each n less).won.station))).frames
    passes_own n less =
        let w = (all.each n less).won.station in
        let e = ap length (goes n less).ends.passes in
        let both =
        length-append (node (at n (all.each n less).won.station)).frames
        (passed_frame s (frames n).outset (frames n).bits i (all.each n less).won.station (all.each n less).won.frame ∷ []) in
        let l = before n (all.each n less).won.station less in
        omega arith

    pub in_time : (n k : ℕ) → n < count → at n (by.winner n) < k → n < length (node k).frames
    in_time n k less late =
        let own : suc n ≤ length (node (suc (at n (by.winner n)))).frames = subst (λ w. suc n ≤ length (node (suc (at n w))).frames) (by.wins n less) (passes_own n less) in
        let up = length_up (suc (at n (by.winner n))) k late in
        omega arith
