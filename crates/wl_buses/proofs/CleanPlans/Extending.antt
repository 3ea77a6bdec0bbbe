-- Another frame follows each one on the bus as the queues of stations hand it, as long as some station has a frame left.
use Rattle.std.proofs.Common.{◌≡◌, ◌∙◌, ◌⊎◌, inl, inr, refl, sym, ap, subst, ℕ, zero, suc, ◌+◌, ◌*◌, ◌<◌, ◌==◌, cond, Bool, true, false, List, [], ◌∷◌, ◌++◌, length, Option, Some, None, if◌then◌else◌, arith}
use Rattle.std.specs.Prelude.{nat_lt, slice_get}
use Rattle.std.proofs.lemmas.Bool.{cases_Bool, cases_eq, cases_lt, eq-eqb, le-ltb, lt-ltb, ltb-false, ltb-true, ne_eqb}
use Rattle.std.proofs.lemmas.Option.{slice_get_past}
use Rattle.wl_segments.specs.Lengths.{bit_quanta, sample_at}
use Rattle.wl_topology.specs.Driven.{any_below}
use Rattle.wl_topology.proofs.Callers.{any_from, any_one}
use Rattle.wl_frame.specs.Grammar.{Content}
use Rattle.wl_machine.specs.Stretch.{Input}
use Rattle.wl_node.specs.declared.setup.NodeSetup.{NodeSetup}
use Rattle.wl_node.specs.declared.setup.Passed.{Passed}
use Rattle.wl_node.specs.declared.setup.Queued.{Queued}
use Rattle.wl_buses.specs.BothProofs.Queues.{head_at, place_among, queued_contents, unsent_after, wakes_at}
use Rattle.wl_buses.proofs.BothProofs.Heads.{IsHandedBy, head_in, place_is, same_length, sent_length, unsent_first, unsent_in, unsent_received}
use Rattle.wl_buses.specs.OneFrame.Acknowledged.{chased_way}
use Rattle.wl_buses.specs.OneFrame.Expected.{IsOutset, Outset, expected_bits, past_at}
use Rattle.wl_buses.specs.OneFrame.Machines.{HasWon}
use Rattle.wl_buses.specs.OneFrame.Stations.{AreOnALine, AreStations, HaveRoom, Stations}
use Rattle.wl_buses.specs.FrameEnd.Again.{HasRoomToRest}
use Rattle.wl_buses.specs.FrameEnd.Asked.{CanBeAnswered, EndsBefore}
use Rattle.wl_buses.specs.NextFrames.Frames.{FollowOneAnother, Frame, HasRoomForAll, IsBegun, IsBegunAfter, resting_of}
use Rattle.wl_buses.specs.NextFrames.NextStarts.{AreFreeNext, AreResting, HaveMore, Resting, has_next, outset_next, resting_after}
use Rattle.wl_buses.specs.FrameEnd.Rests.{passed_frame}
use Rattle.wl_buses.proofs.NextFrames.Queueing.{has_some}
use Rattle.wl_buses.specs.NextFrames.Queues.{DecidesByQueue, decides_after}
use Rattle.wl_buses.specs.SentFrames.Sending.{ByQueues}
use Rattle.wl_buses.specs.SentFrames.Winners.{passed_with, won_by}

-- the laws that this rests on
abbrev pub OutsetNext : Type 0
OutsetNext = (r : Resting) (before : ℕ → List Input) → AreOnALine r.stations → AreResting r → AreFreeNext r.stations.count r.frames before → IsOutset r.stations (outset_next r before)

abbrev pub RestNext : Type 0
RestNext = (s : Stations) (o : Outset) (end : ℕ) (chase which decides : ℕ → ℕ) → AreStations s → HaveRoom s → IsOutset s o → EndsBefore s o end → (won : HasWon s (expected_bits s o) o.frames end)
    → CanBeAnswered s won.station chase → HasRoomToRest s (chased_way s won.station chase) → HaveMore s o.frames which → AreResting (resting_after s o end which decides)

abbrev pub FreeNext : Type 0
FreeNext = (s : Stations) (o : Outset) (end : ℕ) → AreStations s → HaveRoom s → IsOutset s o → EndsBefore s o end → HasWon s (expected_bits s o) o.frames end
    → AreFreeNext s.count o.frames (past_at s o (end + 12))

abbrev pub BegunBy : Type 0
BegunBy = (s : Stations) (o : Outset) (chase : ℕ → ℕ) → AreStations s → HaveRoom s → HasRoomForAll s chase → IsOutset s o → (bits : ℕ) × IsBegun s (record { outset = o; bits = bits })

abbrev pub NextHanded : Type 0
NextHanded = (s : Stations) (a b : Frame) → AreStations s → HaveRoom s → IsBegun s a → (is : IsBegun s b) → (after : IsBegunAfter s a b)
    → slice_get (a.outset.frames is.won.station) (after.which is.won.station) ≡ Some is.won.frame

-- one more for whom it is
abbrev pub one_for : (winner i : ℕ) → ℕ
one_for winner i = if i == winner then 1 else 0

pub one_own : (w i : ℕ) → i ≡ w → one_for w i ≡ 1
one_own w i e = ap (λ b. cond b 1 0) (eq-eqb i w e)

pub one_other : (w i : ℕ) → (i ≡ w → ⊥) → one_for w i ≡ 0
one_other w i f = ap (λ b. cond b 1 0) (ne_eqb i w f)

-- A frame on the bus, and what has passed each station before it. The queue of each has sent as many frames as its station has won, and handed the frames that it has begun.
pub record Gone (s : Stations) (setups : ℕ → NodeSetup) : Type 0 where
  pub frame : Frame
  pub begun : IsBegun s frame
  pub passed : ℕ → List Passed
  pub frames : (i : ℕ) → frame.outset.frames i ≡ queued_contents (setups i).queue
  pub handed : IsHandedBy (setups begun.won.station) (unsent_after (setups begun.won.station) (passed begun.won.station)) begun.won.frame

module _ (s : Stations) (setups : ℕ → NodeSetup) where
  abbrev pub left_before : Gone s setups → ℕ → List Queued
  left_before x i = unsent_after (setups i) (x.passed i)

  -- what passes each with it, and is left after it
  abbrev pub passed_now : Gone s setups → ℕ → List Passed
  passed_now x i = x.passed i ++ passed_frame s x.frame.outset x.frame.bits i x.begun.won.station x.begun.won.frame ∷ []

  abbrev pub left_now : Gone s setups → ℕ → List Queued
  left_now x i = unsent_after (setups i) (passed_now x i)

  abbrev pub is_left : Gone s setups → ℕ → Bool
  is_left x i = nat_lt 0 (length (left_now x i))

  abbrev pub some_left : Gone s setups → Bool
  some_left x = any_below s.count (is_left x)

  -- the frame after another one
  pub record Linked (x y : Gone s setups) : Type 0 where
    pub after : IsBegunAfter s x.frame y.frame
    pub queues : (i : ℕ) → i < s.count → DecidesByQueue (resting_of s x.frame y.frame after) i (setups i) (left_now x i)
    pub grown : (i : ℕ) → y.passed i ≡ passed_now x i

  -- one fewer is left at its winner, and as many at each other one
  pub fewer_left : (x : Gone s setups) (i : ℕ) → length (left_now x i) + one_for x.begun.won.station i ≡ length (left_before x i)
  fewer_left x i = elim (cases_eq i x.begun.won.station) [
    | inl own ↦
        (let one = one_own x.begun.won.station i own in
        let h : IsHandedBy (setups i) (left_before x i) x.begun.won.frame =
        subst (λ k. IsHandedBy (setups k) (unsent_after (setups k) (x.passed k)) x.begun.won.frame) (sym own) x.handed in
        let fewer =
        sent_length (setups i) (x.passed i) (passed_frame s x.frame.outset x.frame.bits i x.begun.won.station x.begun.won.frame) h.0 (eq-eqb i x.begun.won.station own) h.1 in
        omega arith)
    | inr other ↦
        (let none = one_other x.begun.won.station i other in
        let same =
        ap length (unsent_received (setups i) (x.passed i) (passed_frame s x.frame.outset x.frame.bits i x.begun.won.station x.begun.won.frame) (ne_eqb i x.begun.won.station other)) in
        omega arith)
  ]

  -- no station has one left
  pub all_sent : (x : Gone s setups) → some_left x ≡ false → (i : ℕ) → i < s.count → length (left_now x i) ≡ 0
  all_sent x none i inside = elim (cases_Bool (is_left x i)) [
    | inl one ↦ (let own = any_from s.count i (is_left x) inside one in cc)
    | inr over ↦ (let h = ltb-false 0 (length (left_now x i)) over in omega arith)
  ]

module _ (begins : OutsetNext) (rest : RestNext) (free : FreeNext) (begun_by : BegunBy) (next_handed : NextHanded) (s : Stations) (setups : ℕ → NodeSetup) (are : AreStations s) (room : HaveRoom s)
    (chase : ℕ → ℕ) (enough : HasRoomForAll s chase) (may : (i : ℕ) → i < s.count → 0 < length (setups i).queue → s.may_send i ≡ true) where
  abbrev pub G : Type 0
  G = Gone s setups

  abbrev left : G → ℕ → List Queued
  left x i = left_now s setups x i

  abbrev place : G → ℕ → ℕ
  place x i = (expected_bits s x.frame.outset (x.frame.bits + 12)).place i

  abbrev decides : G → ℕ → ℕ
  decides x i = decides_after (s.lengths i) (place x i) (wakes_at (setups i) (left x i))

  -- the quantum of its decision, and the frame on which it decides
  abbrev decision : G → ℕ → ℕ
  decision x i = place x i + decides x i * bit_quanta (s.lengths i) + sample_at (s.lengths i)

  abbrev head : G → ℕ → Option Content
  head x i = head_at (setups i) (left x i) (decision x i)

  abbrev which : G → ℕ → ℕ
  which x i = if nat_lt i s.count then place_among (head x i) (x.frame.outset.frames i) else length (x.frame.outset.frames i)

  abbrev r : G → Resting
  r x = resting_after s x.frame.outset x.frame.bits (which x) (decides x)

  abbrev before : G → ℕ → List Input
  before x = past_at s x.frame.outset (x.frame.bits + 12)

  -- it is one of its queue's
  which_is : (x : G) (i : ℕ) → i < s.count → slice_get (x.frame.outset.frames i) (which x i) ≡ head x i
  which_is x i inside =
      ap (λ b. slice_get (x.frame.outset.frames i) (cond b (place_among (head x i) (x.frame.outset.frames i)) (length (x.frame.outset.frames i)))) (lt-ltb i s.count inside) ∙ by (head x i) refl
    where
      by : (h : Option Content) → head x i ≡ h → slice_get (x.frame.outset.frames i) (place_among h (x.frame.outset.frames i)) ≡ h
      by None e = slice_get_past (x.frame.outset.frames i) (length (x.frame.outset.frames i)) (omega arith)
      by (Some c) e =
          (let n = head_in (setups i) (left x i) (decision x i) c e in
          let m = unsent_in (setups i) (passed_now s setups x i) n.0 c n.1 in
          place_is c (x.frame.outset.frames i) m.0 (ap (λ f. slice_get f m.0) (x.frames i) ∙ m.1))

  by_queue : (x : G) (i : ℕ) → i < s.count → DecidesByQueue (r x) i (setups i) (left x i)
  by_queue x i inside = record { frames = x.frames i; decides = refl; which = which_is x i inside }

  has_one : (x : G) (i : ℕ) → has_next (r x) i ≡ true → (i < s.count) × (0 < length (setups i).queue)
  has_one x i e =
      let less = ltb-true (which x i) (length (x.frame.outset.frames i)) e in
      let there : i < s.count = elim (cases_lt i s.count) [
        | inl inside ↦ inside
        | inr past ↦
            (let out : which x i ≡ length (x.frame.outset.frames i) =
            ap (λ b. cond b (place_among (head x i) (x.frame.outset.frames i)) (length (x.frame.outset.frames i))) (le-ltb i s.count past) in
            absurd (omega arith))
      ] in (
        there,
        (let l = ap length (x.frames i) in let same = same_length (setups i).queue in omega arith),
      )

  more_of : (x : G) → some_left s setups x ≡ true → HaveMore s x.frame.outset.frames (which x)
  more_of x some = record {
    inside = λ i e. (has_one x i e).0;
    may = λ i e. (let h = has_one x i e in may i h.0 h.1);
    some =
        (let w = any_one s.count (is_left s setups x) some in (
          w.0,
          has_some (r x) w.0 (setups w.0) (left x w.0) (by_queue x w.0 w.1) (let k = w.1 in omega arith) (ltb-true 0 (length (left x w.0)) w.2),
        ));
  }

  begins_so : (x : G) → some_left s setups x ≡ true → IsOutset s (outset_next (r x) (before x))
  begins_so x some =
      let f = x.begun in
      begins (r x) (before x) are.line (rest s x.frame.outset x.frame.bits f.chase (which x) (decides x) are room f.outset f.ends f.won f.answer f.room (more_of x some))
      (free s x.frame.outset x.frame.bits are room f.outset f.ends f.won)

  pub next_of : (x : G) → some_left s setups x ≡ true → (y : G) × Linked s setups x y
  next_of x some =
      let b = begun_by s (outset_next (r x) (before x)) chase are room enough (begins_so x some) in
      let after : IsBegunAfter s x.frame (record { outset = outset_next (r x) (before x); bits = b.0 }) = record { which = which x; decides = decides x; more = more_of x some; is = refl } in (
        record {
          frame = record { outset = outset_next (r x) (before x); bits = b.0 };
          begun = b.1;
          passed = passed_now s setups x;
          frames = x.frames;
          handed = (decision x b.1.won.station, sym (which_is x b.1.won.station b.1.won.inside) ∙ next_handed s x.frame (record { outset = outset_next (r x) (before x); bits = b.0 }) are room x.begun b.1 after);
        },
        record {
          after = after;
          queues = λ i inside. by_queue x i inside;
          grown = λ i. refl;
        },
      )

  abbrev pub step_by : (x : G) → (some_left s setups x ≡ true) ⊎ (some_left s setups x ≡ false) → G
  step_by x (inl some) = (next_of x some).0
  step_by x (inr over) = x

  linked_by : (x : G) (d : (some_left s setups x ≡ true) ⊎ (some_left s setups x ≡ false)) → some_left s setups x ≡ true → Linked s setups x (step_by x d)
  linked_by x (inl some) e = (next_of x some).1
  linked_by x (inr over) e = cc

  -- the frames, one after another from a first one on
  module _ (first : G) (none : (i : ℕ) → first.passed i ≡ []) where
    abbrev pub gone : ℕ → G
    gone zero = first
    gone (suc n) = step_by (gone n) (cases_Bool (some_left s setups (gone n)))

    pub linked : (n : ℕ) → some_left s setups (gone n) ≡ true → Linked s setups (gone n) (gone (suc n))
    linked n e = linked_by (gone n) (cases_Bool (some_left s setups (gone n))) e

    abbrev pub winner : ℕ → ℕ
    winner n = (gone n).begun.won.station

    abbrev pub content : ℕ → Content
    content n = (gone n).begun.won.frame

    abbrev fs : ℕ → Frame
    fs n = (gone n).frame

    pub passed_is : (n : ℕ) → ((m : ℕ) → m < n → some_left s setups (gone m) ≡ true) → (i : ℕ) → (gone n).passed i ≡ passed_with s fs winner content i n
    passed_is zero on i = none i
    passed_is (suc n) on i =
        (linked n (on n (omega arith))).grown i
        ∙ ap (λ p. p ++ passed_frame s (fs n).outset (fs n).bits i (winner n) (content n) ∷ []) (passed_is n (λ m less. on m (omega arith)) i)

    -- what is left, and how many it has won
    pub left_is : (n : ℕ) → ((m : ℕ) → m < n → some_left s setups (gone m) ≡ true) → (i : ℕ) → length (left_before s setups (gone n) i) + won_by winner i n ≡ length (setups i).queue
    left_is zero on i = (let e = ap length (ap (unsent_after (setups i)) (none i) ∙ unsent_first (setups i)) in omega arith)
    left_is (suc n) on i =
        (let before = left_is n (λ m less. on m (omega arith)) i in
        let grown = ap length (ap (unsent_after (setups i)) ((linked n (on n (omega arith))).grown i)) in
        let fewer = fewer_left s setups (gone n) i in
        omega arith)

    -- up to the last one that is asked for, or one after which no station has one left
    pub record Last (most : ℕ) : Type 0 where
      pub last : ℕ
      pub on : (n : ℕ) → n < last → some_left s setups (gone n) ≡ true
      pub over : (last ≡ most) ⊎ (some_left s setups (gone last) ≡ false)

    pub last_of : (most : ℕ) → Last most
    last_of zero = record { last = 0; on = λ n less. absurd (omega arith); over = inl refl }
    last_of (suc most) = more (last_of most)
      where
        on_for : (n : ℕ) → ((m : ℕ) → m < n → some_left s setups (gone m) ≡ true) → some_left s setups (gone n) ≡ true → (m : ℕ) → m < suc n → some_left s setups (gone m) ≡ true
        on_for n on here m less = elim (cases_eq m n) [
          | inl same ↦ subst (λ k. some_left s setups (gone k) ≡ true) (sym same) here
          | inr other ↦ on m (omega (arith, other))
        ]

        more : Last most → Last (suc most)
        more x = elim x.over [
          | inr over ↦ record { last = x.last; on = x.on; over = inr over }
          | inl at ↦ elim (cases_Bool (some_left s setups (gone x.last))) [
            | inl some ↦ record { last = suc x.last; on = on_for x.last x.on some; over = inl (ap suc at) }
            | inr over ↦ record { last = x.last; on = x.on; over = inr over }
          ]
        ]

    abbrev all_follow : (last : ℕ) → ((n : ℕ) → n < last → some_left s setups (gone n) ≡ true) → FollowOneAnother s fs (suc last)
    all_follow last on = record { each = λ n less. (gone n).begun; next = λ n less. (linked n (on n (omega arith))).after }

    by_queues : (last : ℕ) (on : (n : ℕ) → n < last → some_left s setups (gone n) ≡ true) → ByQueues s setups fs (suc last) (all_follow last on)
    by_queues last on = record {
      winner = winner;
      content = content;
      wins = λ n less. refl;
      wins_with = λ n less. refl;
      queues = λ i n less inside.
          subst (DecidesByQueue (resting_of s (fs n) (fs (suc n)) ((all_follow last on).next n less)) i (setups i))
          (ap (λ p. unsent_after (setups i) (p ++ passed_frame s (fs n).outset (fs n).bits i (winner n) (content n) ∷ [])) (passed_is n (λ m before. on m (omega arith)) i))
          ((linked n (on n (omega arith))).queues i inside);
    }

    emptied : (last : ℕ) → ((n : ℕ) → n < last → some_left s setups (gone n) ≡ true) → some_left s setups (gone last) ≡ false → (i : ℕ) → i < s.count
        → won_by winner i (suc last) ≡ length (queued_contents (setups i).queue)
    emptied last on none i inside =
        let before = left_is last on i in
        let fewer = fewer_left s setups (gone last) i in
        let empty = all_sent s setups (gone last) none i inside in
        let same = same_length (setups i).queue in
        omega arith

    -- The frames, so many and one, or fewer if every queue is sent with the last one.
    pub record Course (most : ℕ) : Type 0 where
      pub frames : ℕ → Frame
      pub count : ℕ
      pub some : 0 < count
      pub follow : FollowOneAnother s frames count
      pub first_is : frames 0 ≡ first.frame
      pub by : ByQueues s setups frames count follow
      pub ends : (count ≡ suc most) ⊎ ((i : ℕ) → i < s.count → won_by by.winner i count ≡ length (queued_contents (setups i).queue))

    pub course : (most : ℕ) → Course most
    unfolding by_queues
    course most = let x = last_of most in record {
      frames = fs;
      count = suc x.last;
      some = omega arith;
      follow = all_follow x.last x.on;
      first_is = refl;
      by = by_queues x.last x.on;
      ends = ends x;
    }
      where
        ends : (x : Last most) → (suc x.last ≡ suc most) ⊎ ((i : ℕ) → i < s.count → won_by winner i (suc x.last) ≡ length (queued_contents (setups i).queue))
        ends x = elim x.over [
          | inl at ↦ inl (ap suc at)
          | inr over ↦ inr (emptied x.last x.on over)
        ]
