-- From the winner's start of frame to the bit after the intermission, and to the sample with which the frame passes, in time.
use Rattle.std.proofs.Common.{◌≡◌, ◌≢◌, ◌∙◌, inl, inr, refl, sym, ap, subst, ℕ, suc, ◌+◌, ◌*◌, ◌<◌, ◌≤◌, cond, true, arith}
use Rattle.std.proofs.lemmas.Bool.{cases_eq, eq-eqb, ne_eqb}
use Rattle.std.proofs.Math.Nat.{mul-le-mul_left}
use Rattle.wl_segments.specs.Lengths.{bit_quanta, sample_at}
use Rattle.wl_buses.specs.OneFrame.Expected.{expected_bits, expected_sample}
use Rattle.wl_buses.specs.OneFrame.Starts.{Start}
use Rattle.wl_buses.specs.OneFrame.Stations.{AreStations, HaveRoom, Stations, shared_instant, shared_quantum, shared_tick}
use Rattle.wl_buses.proofs.OneFrame.Measures.{instant_more}
use Rattle.wl_buses.specs.FrameEnd.Rests.{passing_bit}
use Rattle.wl_buses.proofs.FrameEnd.Below.{MachineLaws}
use Rattle.wl_buses.specs.NextFrames.Frames.{Frame, IsBegun}
use Rattle.wl_buses.proofs.NextFrames.Winning.{has_begun}
use Rattle.wl_buses.specs.FrameTimes.Times.{ComesWithin, TakeNoLonger, Times, start_place, frame_time, following_place, tail_time}
use Rattle.wl_buses.proofs.FrameTimes.Adding.{longer}
use Rattle.wl_buses.proofs.FrameTimes.Places.{after, instant_up, other_by, winner_slot}

module _ (m : MachineLaws) (s : Stations) (are : AreStations s) (room : HaveRoom s) (f : Frame) (b : IsBegun s f) where
  abbrev bits : ℕ → Start
  bits = expected_bits s f.outset

  abbrev end : ℕ
  end = f.bits

  abbrev w : ℕ
  w = b.won.station

  abbrev quanta : ℕ → ℕ
  quanta i = bit_quanta (s.lengths i)

  winner_bit : (n : ℕ) → n ≤ 11 → (bits (suc end + n)).place w ≤ start_place s f w + (suc end + n) * quanta w + (s.lengths w).sjw
  winner_bit n small =
      let slot = winner_slot m s are room f.outset b.outset end b.ends.none b.ends.there b.won b.chase b.answer.catch b.answer.room b.room in
      let more = after m s are room f.outset b.outset end b.ends.none b.ends.there b.won b.chase b.answer.catch b.answer.room b.room n w small in
      omega arith

  abbrev place_of : ℕ → ℕ → ℕ
  place_of n i = (bits n).place i

  twelve : suc end + 11 ≡ end + 12
  twelve = omega arith

  pub winner_next : following_place s f w ≤ start_place s f w + (end + 13) * quanta w + (s.lengths w).sjw
  winner_next =
      let by = winner_bit 11 (omega arith) in
      let same : place_of (suc end + 11) w ≡ place_of (end + 12) w = ap (λ n. place_of n w) twelve in
      omega arith

  may : s.may_send w ≡ true
  may = b.outset.allowed w b.won.inside (has_begun s bits end w b.won.sends)

  module _ (t : Times) (take : TakeNoLonger s t) where
    own_bits : (i k : ℕ) → i < s.count → t.unit * (quanta i * shared_quantum s i k) ≤ t.bit * shared_tick s i k
    own_bits i k inside = (let h = take.bits i inside in let all : (s.clocks k).den * (t.unit * (quanta i * (s.clocks i).num)) ≤ (s.clocks k).den * (t.bit * (s.clocks i).den) = mul-le-mul_left (s.clocks k).den h in omega arith)

    -- at the winner: so many bits, a jump, and some quanta more
    winner_within : (n q more extra : ℕ) → q ≤ start_place s f w + n * quanta w + (s.lengths w).sjw + more → t.unit * (more * (s.clocks w).num) ≤ extra * (s.clocks w).den
        → ComesWithin s t (n * t.bit + extra + t.shift) w q w (start_place s f w)
    winner_within n q more extra low rest = record {
      within =
          (let up = instant_up s w w q (start_place s f w + n * quanta w + (s.lengths w).sjw + more) low in
          let all : t.unit * shared_instant s w w q ≤ t.unit * shared_instant s w w (start_place s f w + n * quanta w + (s.lengths w).sjw + more) = mul-le-mul_left t.unit up in
          let bit : (s.clocks w).den * (n * (t.unit * (quanta w * (s.clocks w).num))) ≤ (s.clocks w).den * (n * (t.bit * (s.clocks w).den)) = mul-le-mul_left (s.clocks w).den (mul-le-mul_left n (take.bits w b.won.inside)) in
          let jump : (s.clocks w).den * (t.unit * ((s.lengths w).sjw * (s.clocks w).num)) ≤ (s.clocks w).den * (t.shift * (s.clocks w).den) = mul-le-mul_left (s.clocks w).den (take.jumps w b.won.inside may) in
          let last : (s.clocks w).den * (t.unit * (more * (s.clocks w).num)) ≤ (s.clocks w).den * (extra * (s.clocks w).den) = mul-le-mul_left (s.clocks w).den rest in
          omega arith);
    }

    -- at another station: so many bits, its way since the last edge, and some quanta more
    module _ (j : ℕ) (there : j < s.count) (other : j ≢ w) where
      theirs : t.unit * (quanta w * shared_quantum s w j) ≤ t.bit * shared_tick s j w
      theirs = (let h = own_bits w j b.won.inside in omega arith)

      other_within : (n q more extra : ℕ) → n ≤ 11 → q ≤ place_of (suc end + n) j + more → t.unit * (more * (s.clocks j).num) ≤ extra * (s.clocks j).den
          → ComesWithin s t ((suc end + n) * t.bit + extra + t.shift) j q w (start_place s f w)
      other_within n q more extra small low rest = record {
        within =
            (let by =
            other_by m s are room f.outset b.outset end b.ends.none b.ends.there b.won b.chase b.answer.catch b.answer.room b.room j there other t.unit t.bit (own_bits j w there) theirs n small in
            let lag = take.lags j w there b.won.inside other may in
            let up = instant_up s j w q (place_of (suc end + n) j + more) low in
            let sum = instant_more s are j w there b.won.inside (place_of (suc end + n) j) more in
            let all : t.unit * shared_instant s j w q ≤ t.unit * (shared_instant s j w (place_of (suc end + n) j) + more * shared_quantum s j w) = mul-le-mul_left t.unit (omega arith) in
            let last : (s.clocks w).den * (t.unit * (more * (s.clocks j).num)) ≤ (s.clocks w).den * (extra * (s.clocks j).den) = mul-le-mul_left (s.clocks w).den rest in
            omega arith);
      }

    -- the bit after the intermission
    at_winner : ComesWithin s t (frame_time t end) w (following_place s f w) w (start_place s f w)
    at_winner = (let low = winner_next in
        subst (λ time. ComesWithin s t time w (following_place s f w) w (start_place s f w)) (let e : (end + 13) * t.bit + 0 + t.shift ≡ frame_time t end = omega arith in e)
        (winner_within (end + 13) (following_place s f w) 0 0 (omega arith) (omega arith)))

    at_other : (j : ℕ) → j < s.count → j ≢ w → ComesWithin s t (frame_time t end) j (following_place s f j) w (start_place s f w)
    at_other j there other =
        let same : place_of (suc end + 11) j ≡ place_of (end + 12) j = ap (λ n. place_of n j) twelve in
        subst (λ time. ComesWithin s t time j (following_place s f j) w (start_place s f w)) (let e : (suc end + 11) * t.bit + t.bit + t.shift ≡ frame_time t end = omega arith in e)
        (other_within j there other 11 (following_place s f j) (quanta j) t.bit (omega arith) (omega arith) (take.bits j there))

    pub lasts : (i : ℕ) → i < s.count → ComesWithin s t (frame_time t end) i (following_place s f i) w (start_place s f w)
    lasts i inside = elim (cases_eq i w) [
      | inl own ↦ subst (λ k. ComesWithin s t (frame_time t end) k (following_place s f k) w (start_place s f w)) (sym own) at_winner
      | inr other ↦ at_other i inside other
    ]

    -- the sample with which it passes
    sample_at_winner : ComesWithin s t (tail_time t end) w (place_of (suc end + 8) w + sample_at (s.lengths w)) w (start_place s f w)
    sample_at_winner =
        let by = winner_bit 8 (omega arith) in
        subst (λ time. ComesWithin s t time w (place_of (suc end + 8) w + sample_at (s.lengths w)) w (start_place s f w))
        (let e : (suc end + 8) * t.bit + t.sample + t.shift ≡ tail_time t end = omega arith in e)
        (winner_within (suc end + 8) (place_of (suc end + 8) w + sample_at (s.lengths w)) (sample_at (s.lengths w)) t.sample (omega arith) (take.samples w b.won.inside))

    sample_at_other : (j : ℕ) → j < s.count → j ≢ w → ComesWithin s t (tail_time t end) j (place_of (suc end + 7) j + sample_at (s.lengths j)) w (start_place s f w)
    sample_at_other j there other =
        longer s t ((suc end + 7) * t.bit + t.sample + t.shift) (tail_time t end) j (place_of (suc end + 7) j + sample_at (s.lengths j)) w (start_place s f w) (omega arith)
        (other_within j there other 7 (place_of (suc end + 7) j + sample_at (s.lengths j)) (sample_at (s.lengths j)) t.sample (omega arith) (omega arith) (take.samples j there))

    pub passes : (i : ℕ) → i < s.count → ComesWithin s t (tail_time t end) i (expected_sample s f.outset (passing_bit end i w) i) w (start_place s f w)
    passes i inside = elim (cases_eq i w) [
      | inl own ↦
          (let bit : suc end + 8 ≡ passing_bit end w w = (let e : suc end + 8 ≡ end + 9 = omega arith in e ∙ sym (ap (λ b. end + cond b 9 8) (eq-eqb w w refl))) in
          subst (λ k. ComesWithin s t (tail_time t end) k (expected_sample s f.outset (passing_bit end k w) k) w (start_place s f w)) (sym own)
          (subst (λ n. ComesWithin s t (tail_time t end) w (place_of n w + sample_at (s.lengths w)) w (start_place s f w)) bit sample_at_winner))
      | inr other ↦
          (let bit : suc end + 7 ≡ passing_bit end i w = (let e : suc end + 7 ≡ end + 8 = omega arith in e ∙ sym (ap (λ b. end + cond b 9 8) (ne_eqb i w other))) in
          subst (λ n. ComesWithin s t (tail_time t end) i (place_of n i + sample_at (s.lengths i)) w (start_place s f w)) bit (sample_at_other i inside other))
    ]
