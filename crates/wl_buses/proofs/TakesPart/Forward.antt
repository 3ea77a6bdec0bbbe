-- A frame begins at any station before a later one is sampled at another one, but for the way between them.
use Rattle.std.proofs.Common.{◌≡◌, ◌≢◌, ◌⊎◌, inl, inr, sym, ap, ℕ, zero, suc, ◌+◌, ◌<◌, ◌≤◌, arith}
use Rattle.std.proofs.lemmas.Bool.{cases_eq}
use Rattle.wl_phase.specs.Clocks.{steady_tick}
use Rattle.wl_buses.specs.OneFrame.Expected.{expected_bits, expected_sample}
use Rattle.wl_buses.specs.OneFrame.Starts.{BeginFrame, BeginsAlone, Drives, FollowsHard, Start, reaches_at}
use Rattle.wl_buses.specs.OneFrame.Stations.{AreStations, HaveRoom, Stations}
use Rattle.wl_buses.proofs.OneFrame.Measures.{tick_next}
use Rattle.wl_buses.proofs.FrameEnd.Below.{MachineLaws}
use Rattle.wl_buses.proofs.FrameEnd.Hearing.{samples_up}
use Rattle.wl_buses.specs.NextFrames.Frames.{FollowOneAnother, Frame, third_sample}

abbrev pub Grows : Type 0
Grows = (s : Stations) (frames : ℕ → Frame) (count : ℕ) → AreStations s → HaveRoom s → FollowOneAnother s frames count → (n bit i : ℕ) → suc n < count → i < s.count
    → third_sample s (frames n) i < expected_sample s (frames (suc n)).outset bit i

-- the start of a frame at two stations
module _ (s : Stations) (are : AreStations s) (b : Start) (begin : BeginFrame s b) where
  abbrev tick : ℕ → ℕ → ℕ
  tick k q = steady_tick (s.clocks k) q

  before_edge : (j v : ℕ) → j < s.count → Drives s b j v → BeginsAlone s b j ⊎ FollowsHard s b j → tick j (b.place j) < reaches_at s b v j
  before_edge j v there d (inl itself) = itself.unfound v d
  before_edge j v there d (inr hard) =
      let place = hard.place in
      let unseen = hard.finds.finds.unseen (b.place j) (omega arith) in
      let first = hard.finds.first v d in
      omega arith

  from_place : (j : ℕ) → j < s.count → BeginsAlone s b j ⊎ FollowsHard s b j → b.place j ≤ b.from j
  from_place j there (inl itself) = (let e = itself.from in omega arith)
  from_place j there (inr hard) = (let e = hard.from in let place = hard.place in omega arith)

  after_edge : (i j : ℕ) → i < s.count → j < s.count → i ≢ j → BeginsAlone s b i ⊎ FollowsHard s b i → tick j (b.place j) < tick i (suc (b.place i)) + s.delay i j
  after_edge i j inside there apart (inl itself) =
      let d : Drives s b j i = record { inside = inside; other = apart; dominant = itself.dominant } in
      let h = before_edge j i there d (begin j there) in
      let from : tick i (b.from i) ≡ tick i (b.place i) = ap (tick i) itself.from in
      let up = tick_next s are i inside (b.place i) (suc (b.place i)) (omega arith) in
      omega arith
  after_edge i j inside there apart (inr hard) =
      let v = hard.by in
      let by = hard.finds.by in
      let seen = hard.finds.finds.seen in
      let place : tick i hard.found ≡ tick i (suc (b.place i)) = ap (tick i) (sym hard.place) in
      elim (cases_eq hard.by j) [
        | inl same ↦
            (let from = from_place j there (begin j there) in
            let up = tick_next s are j there (b.place j) (b.from j) from in
            let e : reaches_at s b hard.by i ≡ reaches_at s b j i = ap (λ k. reaches_at s b k i) same in
            let way = are.line.later j i there inside in
            omega arith)
        | inr other ↦
            (let d : Drives s b j hard.by = record { inside = by.inside; other = other; dominant = by.dominant } in
            let h = before_edge j hard.by there d (begin j there) in
            let over = are.line.detours hard.by i j by.inside inside there in
            omega arith)
      ]

  pub starts_near : (i j : ℕ) → i < s.count → j < s.count → i ≢ j → tick j (b.place j) < tick i (suc (b.place i)) + s.delay i j
  starts_near i j inside there apart = after_edge i j inside there apart (begin i inside)

module _ (m : MachineLaws) (grows : Grows) (s : Stations) (are : AreStations s) (room : HaveRoom s) (fs : ℕ → Frame) (count : ℕ) (frames : FollowOneAnother s fs count) where
  abbrev T : ℕ → ℕ → ℕ
  T n i = third_sample s (fs n) i

  abbrev S : ℕ → ℕ → ℕ → ℕ
  S n j i = expected_sample s (fs n).outset j i

  past_third : (n k bit i : ℕ) → n < k → k < count → i < s.count → T n i < S k bit i
  past_third n zero bit i low less inside = absurd (omega arith)
  past_third n (suc k) bit i low less inside = elim (cases_eq n k) [
    | inl same ↦ (let next = grows s fs count are room frames k bit i less inside in let e : T n i ≡ T k i = ap (λ g. T g i) same in omega arith)
    | inr other ↦
        (let before = past_third n k ((fs k).bits + 12) i (omega (arith, other, low)) (omega arith) inside in
        let next = grows s fs count are room frames k bit i less inside in
        omega arith)
  ]

  pub own_forward : (n k bit i : ℕ) → n < k → k < count → i < s.count → (expected_bits s (fs n).outset 0).place i < S k bit i
  own_forward n k bit i low less inside =
      let f = frames.each n (omega arith) in
      let first = samples_up m s are room (fs n).outset f.outset (fs n).bits f.ends.none f.ends.there f.won f.chase f.answer.catch f.answer.room 0 ((fs n).bits + 12) i inside (omega arith) in
      let later = past_third n k bit i low less inside in
      omega arith

  pub other_forward : (n k bit i j : ℕ) → n < k → k < count → i < s.count → j < s.count → i ≢ j
      → steady_tick (s.clocks j) ((expected_bits s (fs n).outset 0).place j) < steady_tick (s.clocks i) (S k bit i) + s.delay i j
  other_forward n k bit i j low less inside there apart =
      let f = frames.each n (omega arith) in
      let own = own_forward n k bit i low less inside in
      let up = tick_next s are i inside (suc ((expected_bits s (fs n).outset 0).place i)) (S k bit i) own in
      let near = starts_near s are (fs n).outset.start f.outset.begin i j inside there apart in
      omega arith
