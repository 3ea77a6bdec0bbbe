-- Frames that follow one another on a line do so too with a listener among its stations.
use Rattle.std.proofs.Common.{◌≡◌, ◌≢◌, ◌∙◌, ◌⊎◌, inl, inr, refl, sym, ap, subst, ℕ, zero, suc, ◌+◌, ◌*◌, ◌<◌, ◌≤◌, true, false, length, arith}
use Rattle.std.specs.Prelude.{nat_lt}
use Rattle.std.proofs.lemmas.Bool.{cases_lt, false_from_ne_true}
use Rattle.wl_segments.specs.Lengths.{bit_quanta, sample_at}
use Rattle.wl_topology.proofs.Callers.{any_same}
use Rattle.wl_frame.specs.Grammar.{Content}
use Rattle.wl_phase.specs.Clocks.{steady_tick}
use Rattle.wl_buses.specs.OneFrame.Acknowledged.{chased_way}
use Rattle.wl_buses.specs.OneFrame.Stations.{AreStations, HaveRoom, Stations, with_longer_ways}
use Rattle.wl_buses.specs.OneFrame.Expected.{IsOutset, Outset, expected_bits, expected_sample, past_at}
use Rattle.wl_buses.specs.OneFrame.Machines.{HasWon}
use Rattle.wl_buses.specs.FrameEnd.Again.{HasRoomToRest}
use Rattle.wl_buses.specs.FrameEnd.Asked.{CanBeAnswered, EndsBefore}
use Rattle.wl_buses.specs.FirstFrame.FirstStarts.{Waiting, first_outset, has_first}
use Rattle.wl_buses.specs.NextFrames.Frames.{AreInOrder, FollowOneAnother, Frame, IsBegun, IsBegunAfter, IsOneFrame, frame_drove, third_sample}
use Rattle.wl_buses.specs.NextFrames.NextStarts.{AreResting, HaveMore, Resting, due_next, has_next, outset_next, resting_after}
use Rattle.wl_buses.specs.HeardFrames.Joined.{JoinsFrames, MayJoin, on_line}
use Rattle.wl_buses.specs.OneListener.Beside.{with_listener}
use Rattle.wl_buses.specs.OneListener.Ends.{CanBeHeard, HasRoomToRestBeside, others_gathered}
use Rattle.wl_buses.specs.OneListener.Frames.{CanAllBeHeard}
use Rattle.wl_buses.proofs.OneFrame.Measures.{tick_next}
use Rattle.wl_buses.proofs.FrameEnd.Below.{MachineLaws}
use Rattle.wl_buses.proofs.CleanLines.Beginning.{OutsetFirst}
use Rattle.wl_buses.proofs.CleanPlans.Extending.{OutsetNext, RestNext}
use Rattle.wl_buses.proofs.NextFrames.Onward.{FreeLaw}
use Rattle.wl_buses.proofs.NextFrames.Winning.{PartEnds}
use Rattle.wl_buses.proofs.OneListener.AtEnd.{at_rest}
use Rattle.wl_buses.proofs.HeardFrames.Alike.{AreAlike}
use Rattle.wl_buses.proofs.HeardFrames.OneMore as one_more
use Rattle.wl_buses.proofs.HeardFrames.OneMore.{WinsLaw}
use Rattle.wl_buses.proofs.HeardFrames.Starting.{first_alike, next_alike}

-- the law that this rests on
abbrev pub AtRestLaw : Type 0
AtRestLaw = (s : Stations) (o : Outset) (end : ℕ) (chase : ℕ → ℕ) → AreStations s → HaveRoom s → IsOutset s o → EndsBefore s o end → (won : HasWon s (expected_bits s o) o.frames end)
    → CanBeAnswered s won.station chase → HasRoomToRest s (chased_way s won.station chase) → (i k : ℕ) → i < s.count → k < s.count
    → steady_tick (s.clocks i) (expected_sample s o (end + 12) i) < steady_tick (s.clocks k) ((expected_bits s o (end + 12)).place k + bit_quanta (s.lengths k)) + s.delay k i

module _ (m : MachineLaws) (parts : PartEnds) (wins : WinsLaw) (free : FreeLaw) (rest_law : RestNext) (at_rest_law : AtRestLaw) (begins_first : OutsetFirst) (begins_next : OutsetNext)
    (s : Stations) (delay way late : ℕ → ℕ → ℕ) (w : Waiting) (fs : ℕ → Frame) (count : ℕ) (chase : ℕ → ℕ) (more : ℕ → ℕ → ℕ) (content : ℕ → Content) (are_s : AreStations s) (room_s : HaveRoom s)
    (frames : FollowOneAnother s fs count) (wins_with : (n : ℕ) (less : n < count) → (frames.each n less).won.frame ≡ content n) (first : (fs 0).outset ≡ first_outset (record w { stations = s }))
    (may : MayJoin s delay way late w fs count chase more) where
  abbrev l : ℕ
  l = s.count

  abbrev a : Stations
  a = on_line s delay way

  abbrev x : Stations
  x = with_listener a

  abbrev u : Waiting
  u = record w { stations = x }

  abbrev tick : ℕ → ℕ → ℕ
  tick k q = steady_tick (s.clocks k) q

  -- the frames, one by one
  abbrev outset_by : Outset → (n : ℕ) → (suc n < count) ⊎ (count ≤ suc n) → Outset
  outset_by p n (inl less) = outset_next (resting_after x p (fs n).bits (frames.next n less).which (frames.next n less).decides) (past_at x p ((fs n).bits + 12))
  outset_by p n (inr over) = p

  abbrev joined_outset : ℕ → Outset
  joined_outset zero = first_outset u
  joined_outset (suc n) = outset_by (joined_outset n) n (cases_lt (suc n) count)

  abbrev joined : ℕ → Frame
  joined n = record { outset = joined_outset n; bits = (fs n).bits }

  -- what is known of one of them
  record Begun (p : Outset) (n : ℕ) : Type 0 where
    alike : AreAlike s.count p (fs n).outset
    is : IsOutset x p

  none_first : has_first w l ≡ false
  none_first = false_from_ne_true (has_first w l) (λ e. (let own = may.idle.may l e in let mute = may.mute in cc))

  first_begun : Begun (first_outset u) 0
  first_begun =
      (let k : ℕ = may.idle.some.0 in
      let e : has_first w may.idle.some.0 ≡ true = may.idle.some.1 in
      let low : may.idle.some.0 < suc s.count = may.idle.inside may.idle.some.0 may.idle.some.1 in
      let other : may.idle.some.0 ≢ l = (λ f. (let g : has_first w may.idle.some.0 ≡ has_first w l = ap (has_first w) f in let none = none_first in cc)) in
      record {
        alike = subst (AreAlike s.count (first_outset u)) (sym first) (first_alike s delay way may.delays may.are w none_first (may.idle.some.0, omega (arith, low, other), e));
        is = begins_first u may.are.line may.idle;
      })

  module _ (p : Outset) (n : ℕ) (less : n < count) (b : Begun p n) where
    abbrev f : IsBegun s (fs n)
    f = frames.each n less

    abbrev one : IsOneFrame x (record { outset = p; bits = (fs n).bits })
    one = record {
      outset = b.is;
      some = f.some;
      ends = one_more.ends_x m parts wins s delay way may.delays may.are may.room are_s room_s may.two may.mute p (fs n) b.alike b.is f.outset f.ends f.won;
      won = one_more.won_x m parts wins s delay way may.delays may.are may.room are_s room_s may.two may.mute p (fs n) b.alike b.is f.outset f.ends f.won;
    }

    winner_may : s.may_send one.won.station ≡ true
    winner_may = (one_more.winner_may m parts wins s delay way may.delays may.are may.room are_s room_s may.two may.mute p (fs n) b.alike b.is f.outset f.ends f.won)

    winner_inside : one.won.station < s.count
    winner_inside = (one_more.winner_inside m parts wins s delay way may.delays may.are may.room are_s room_s may.two may.mute p (fs n) b.alike b.is f.outset f.ends f.won)

    frame_is : one.won.frame ≡ content n
    frame_is =
        one_more.frame_is m parts wins s delay way may.delays may.are may.room are_s room_s may.two may.mute p (fs n) b.alike b.is f.outset f.ends f.won ∙ wins_with n less

    place_is : (bit i : ℕ) → bit ≤ (fs n).bits + 12 → i < s.count → (expected_bits x p bit).place i ≡ (expected_bits s (fs n).outset bit).place i
    place_is =
        one_more.place_is m parts wins s delay way may.delays may.are may.room are_s room_s may.two may.mute p (fs n) b.alike b.is f.outset f.ends f.won (may.far n less)

    -- all rest after it
    module _ (which decides : ℕ → ℕ) (has : HaveMore s (fs n).outset.frames which) where
      abbrev rx : Resting
      rx = resting_after x p (fs n).bits which decides

      abbrev rs : Resting
      rs = resting_after s (fs n).outset (fs n).bits which decides

      has_same : (k : ℕ) → has_next rx k ≡ has_next rs k
      has_same k = ap (λ f. nat_lt (which k) (length (f k))) b.alike.frames

      none_next : has_next rs l ≡ false
      none_next = false_from_ne_true (has_next rs l) (λ e. (let low = has.inside l e in absurd (omega arith)))

      has_more : HaveMore x p.frames which
      has_more = record {
        inside = λ i e. (let low = has.inside i (sym (has_same i) ∙ e) in omega arith);
        may = λ i e. has.may i (sym (has_same i) ∙ e);
        some = (has.some.0, has_same has.some.0 ∙ has.some.1);
      }

      resting_s : AreResting rs
      resting_s = (rest_law s (fs n).outset (fs n).bits f.chase which decides are_s room_s f.outset f.ends f.won f.answer f.room has)

      due_same : (k : ℕ) → k < s.count → due_next rx k ≡ due_next rs k
      due_same k there = ap (λ q. q + suc (decides k) * bit_quanta (s.lengths k)) (place_is ((fs n).bits + 12) k (omega arith) there)

      idle_at : (i k : ℕ) → i < x.count → i ≢ k → has_next rx k ≡ true
          → tick i ((expected_bits x p ((fs n).bits + 12)).place i + sample_at (s.lengths i)) < tick k (due_next rx k) + delay k i
      idle_at i k inside apart e =
          let own : has_next rs k ≡ true = sym (has_same k) ∙ e in
          let there : k < s.count = has.inside k own in
          elim (cases_lt i s.count) [
            | inl low ↦
                (let h = resting_s.idle i k low apart own in
                let d = may.delays k i there low in
                let mine : tick i ((expected_bits x p ((fs n).bits + 12)).place i + sample_at (s.lengths i)) ≡ tick i ((expected_bits s (fs n).outset ((fs n).bits + 12)).place i + sample_at (s.lengths i)) =
                ap (λ q. tick i (q + sample_at (s.lengths i))) (place_is ((fs n).bits + 12) i (omega arith) low) in
                let theirs : tick k (due_next rx k) ≡ tick k (due_next rs k) = ap (tick k) (due_same k there) in
                omega arith)
            | inr past ↦
                (let same : l ≡ i = omega arith in
                let far = one_more.unheard m parts wins s delay way may.delays may.are may.room are_s room_s may.two may.mute p (fs n) b.alike b.is f.outset f.ends f.won (may.far n less) in
                let rests =
                at_rest m a may.are may.room may.mute p b.is (fs n).bits one.ends.none one.ends.there one.won late chase (more one.won.station) (may.can one.won.station winner_inside winner_may) far
                (may.rest one.won.station winner_inside winner_may) k there in
                let e : suc (decides k) * bit_quanta (s.lengths k) ≡ bit_quanta (s.lengths k) + decides k * bit_quanta (s.lengths k) = omega arith in
                let later : (expected_bits x p ((fs n).bits + 12)).place k + bit_quanta (s.lengths k) ≤ due_next rx k = omega arith in
                let up = tick_next x may.are k (omega arith) ((expected_bits x p ((fs n).bits + 12)).place k + bit_quanta (s.lengths k)) (due_next rx k) later in
                subst (λ j. tick j ((expected_bits x p ((fs n).bits + 12)).place j + sample_at (s.lengths j)) < tick k (due_next rx k) + delay k j) same (omega arith))
          ]

      resting : AreResting rx
      resting = record {
        frames = b.is.frames;
        inside = has_more.inside;
        may = has_more.may;
        some = has_more.some;
        idle = idle_at;
      }

      next_outset : IsOutset x (outset_next rx (past_at x p ((fs n).bits + 12)))
      next_outset = begins_next rx (past_at x p ((fs n).bits + 12)) may.are.line resting (free x p (fs n).bits may.are may.room b.is one.ends one.won)

      next_same : AreAlike s.count (outset_next rx (past_at x p ((fs n).bits + 12))) (outset_next rs (past_at s (fs n).outset ((fs n).bits + 12)))
      next_same =
          (next_alike s delay way may.delays may.are p (fs n).outset (fs n).bits which decides b.alike.frames (λ k there. place_is ((fs n).bits + 12) k (omega arith) there)
          (λ k there. one_more.past_is m parts wins s delay way may.delays may.are may.room are_s room_s may.two may.mute p (fs n) b.alike b.is f.outset f.ends f.won ((fs n).bits + 12) k (omega arith) there)
          none_next (has.some.0, has.inside has.some.0 has.some.1, has.some.1))

  begun_next : (p : Outset) (n : ℕ) (d : (suc n < count) ⊎ (count ≤ suc n)) → suc n < count → Begun p n → Begun (outset_by p n d) (suc n)
  begun_next p n (inl less) given b =
      let next = frames.next n less in
      record {
        alike = subst (AreAlike s.count (outset_by p n (inl less))) (sym next.is) (next_same p n (omega arith) b next.which next.decides next.more);
        is = next_outset p n (omega arith) b next.which next.decides next.more;
      }
  begun_next p n (inr over) given b = absurd (omega arith)

  begun : (n : ℕ) → n < count → Begun (joined_outset n) n
  begun zero less = first_begun
  begun (suc n) less = begun_next (joined_outset n) n (cases_lt (suc n) count) less (begun n (omega arith))

  begun_after : (n : ℕ) (d : (suc n < count) ⊎ (count ≤ suc n)) → suc n < count → IsBegunAfter x (joined n) (record { outset = outset_by (joined_outset n) n d; bits = (fs (suc n)).bits })
  begun_after n (inl less) given =
      let next = frames.next n less in
      record { which = next.which; decides = next.decides; more = has_more (joined_outset n) n (omega arith) (begun n (omega arith)) next.which next.decides next.more; is = refl }
  begun_after n (inr over) given = absurd (omega arith)

  -- what jumps leave at the listener in each
  abbrev frame_by : (n : ℕ) → (n < count) ⊎ (count ≤ n) → n < count → IsOneFrame x (joined n)
  frame_by n (inl less) given = one (joined_outset n) n less (begun n less)
  frame_by n (inr over) given = absurd (omega arith)

  abbrev more_by : (n : ℕ) → (n < count) ⊎ (count ≤ n) → ℕ → ℕ
  more_by n (inl less) = more (one (joined_outset n) n less (begun n less)).won.station
  more_by n (inr over) = λ i. 0

  abbrev in_order : AreInOrder x joined count
  in_order = record { each = λ n less. frame_by n (cases_lt n count) less; next = λ n less. begun_after n (cases_lt (suc n) count) less }

  third_is : (n i : ℕ) → n < count → i < s.count → third_sample x (joined n) i ≡ third_sample s (fs n) i
  third_is n i less inside = ap (λ q. q + sample_at (s.lengths i)) (place_is (joined_outset n) n less (begun n less) ((fs n).bits + 12) i (omega arith) inside)

  can_by : (n : ℕ) (d : (n < count) ⊎ (count ≤ n)) (given : n < count) → CanBeHeard a (frame_by n d given).won.station late chase (more_by n d)
  can_by n (inl less) given = may.can (one (joined_outset n) n less (begun n less)).won.station (winner_inside (joined_outset n) n less (begun n less)) (winner_may (joined_outset n) n less (begun n less))
  can_by n (inr over) given = absurd (omega arith)

  rest_by : (n : ℕ) (d : (n < count) ⊎ (count ≤ n)) (given : n < count)
      → HasRoomToRestBeside a (with_longer_ways (others_gathered a (frame_by n d given).won.station late chase) (more_by n d)).way
  rest_by n (inl less) given = may.rest (one (joined_outset n) n less (begun n less)).won.station (winner_inside (joined_outset n) n less (begun n less)) (winner_may (joined_outset n) n less (begun n less))
  rest_by n (inr over) given = absurd (omega arith)

  wins_by : (n : ℕ) (d : (n < count) ⊎ (count ≤ n)) (given : n < count) → (frame_by n d given).won.frame ≡ content n
  wins_by n (inl less) given = frame_is (joined_outset n) n less (begun n less)
  wins_by n (inr over) given = absurd (omega arith)

  others : (n i k : ℕ) → n < count → i < s.count → k < s.count
      → tick i (third_sample x (joined n) i) < tick k ((expected_bits x (joined_outset n) ((fs n).bits + 12)).place k + bit_quanta (s.lengths k)) + delay k i
  others n i k less inside there =
      (let f = frames.each n less in
      let h = at_rest_law s (fs n).outset (fs n).bits f.chase are_s room_s f.outset f.ends f.won f.answer f.room i k inside there in
      let d = may.delays k i there inside in
      let mine : tick i (third_sample x (joined n) i) ≡ tick i (third_sample s (fs n) i) = ap (tick i) (third_is n i less inside) in
      let theirs : tick k ((expected_bits x (joined_outset n) ((fs n).bits + 12)).place k + bit_quanta (s.lengths k)) ≡ tick k ((expected_bits s (fs n).outset ((fs n).bits + 12)).place k + bit_quanta (s.lengths k)) =
      ap (λ q. tick k (q + bit_quanta (s.lengths k))) (place_is (joined_outset n) n less (begun n less) ((fs n).bits + 12) k (omega arith) there) in
      omega arith)

  can_all : CanAllBeHeard a joined count in_order late chase (λ n. more_by n (cases_lt n count))
  can_all = record {
    each = λ n less. can_by n (cases_lt n count) less;
    unheard = λ n less. (let f = frames.each n less in
        let b = begun n less in
        one_more.unheard m parts wins s delay way may.delays may.are may.room are_s room_s may.two may.mute (joined_outset n) (fs n) b.alike b.is f.outset f.ends f.won (may.far n less));
    rest = λ n less. rest_by n (cases_lt n count) less;
    others = λ n i k less inside there apart. others n i k (omega arith) inside there;
  }

  pub joins : JoinsFrames s delay way late w fs count chase content
  joins = record {
    joined = joined;
    are = in_order;
    first = refl;
    more = λ n. more_by n (cases_lt n count);
    can = can_all;
    wins = λ n less. wins_by n (cases_lt n count) less;
    bits = λ n. refl;
    places = λ n bit i less small inside. place_is (joined_outset n) n less (begun n less) bit i (omega arith) inside;
    drove = λ i t inside. any_same count (λ n. frame_drove x (joined n) i t) (λ n. frame_drove s (fs n) i t) (λ n less.
        (let f = frames.each n less in
        let b = begun n less in
        one_more.drove_is m parts wins s delay way may.delays may.are may.room are_s room_s may.two may.mute (joined_outset n) (fs n) b.alike b.is f.outset f.ends f.won (may.far n less) i t inside));
  }
