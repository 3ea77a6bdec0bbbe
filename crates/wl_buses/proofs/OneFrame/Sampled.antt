-- What a station finds at its sample of a bit: what some sender drives, and no bit before or after it.
use Rattle.std.proofs.Common.{◌≡◌, ◌≢◌, ◌∙◌, inl, inr, sym, ap, subst, ℕ, zero, suc, ◌+◌, ◌-◌, ◌*◌, ◌<◌, ◌≤◌, Bool, true, false, arith}
use Rattle.std.proofs.lemmas.Bool.{cases_lt, cases_eq, cases_Bool, false_from_ne_true}
use Rattle.std.proofs.Math.Nat.{mul-le-mul_right, lt_of_mul-lt-mul_left}
use Rattle.wl_segments.specs.Lengths.{bit_quanta, sample_at}
use Rattle.wl_topology.specs.Driven.{DrivenLaws, driven, any_below}
use Rattle.wl_topology.proofs.Callers.{any_one}
use Rattle.wl_phase.specs.Clocks.{steady_tick, instant}
use Rattle.wl_phase.proofs.Callers.{floor_low, floor_high}
use Rattle.wl_buses.specs.OneFrame.Stations.{Stations, AreStations, AreClose, HaveRoomToSample, shared_quantum, shared_instant, bit_drift}
use Rattle.wl_buses.specs.OneFrame.Starts.{Start, AreAllowed, reaches_at}
use Rattle.wl_buses.specs.OneFrame.OneBit.{OneBit, AreRight, IsRight, sampled_at}
use Rattle.wl_buses.proofs.OneFrame.Measures.{same_tick, instant_more, reaches_by, ticks_before, tick_next}
use Rattle.wl_buses.proofs.BothProofs.Small.{none_below}

module _ (s : Stations) (are : AreStations s) (room : HaveRoomToSample s) (sends : ℕ → Bool) (since : ℕ) (few : since ≤ 10) (b : Start) (allowed : AreAllowed s sends) (close : AreClose s sends since b.place) where
  -- a bit that a sender begins with its place 0 is there at the sample of each other station, and at its own
  there_other : (i k : ℕ) → i < s.count → k < s.count → i ≢ k → sends k ≡ true → b.from k ≡ b.place k → reaches_at s b k i ≤ sampled_at s b i
  there_other i k inside there other sender from =
      let near = close k i there inside (λ e. other (sym e)) (inl sender) in
      let fits = room.is_there i k inside there other (allowed k there sender) in
      let drift : since * bit_drift s k i ≤ 10 * bit_drift s k i = mul-le-mul_right (bit_drift s k i) few in
      let same = same_tick s are i k inside there in
      let all = instant_more s are i k inside there (b.place i) (sample_at (s.lengths i)) in
      let f : shared_instant s k i (b.from k) ≡ shared_instant s k i (b.place k) = ap (shared_instant s k i) from in
      reaches_by s are i k inside there (b.from k) (b.place i + sample_at (s.lengths i)) (s.delay k i) (omega arith)

  there_own : (i : ℕ) → i < s.count → sends i ≡ true → b.from i ≡ b.place i → reaches_at s b i i ≤ sampled_at s b i
  there_own i inside sender from =
      let fits = room.loops i inside (allowed i inside sender) in
      let low = floor_low (s.clocks i) (b.place i) in
      let high = floor_high (s.clocks i) (b.place i + sample_at (s.lengths i)) (are.line.steady i inside).divides in
      let all : instant (s.clocks i) (b.place i + sample_at (s.lengths i)) ≡ instant (s.clocks i) (b.place i) + sample_at (s.lengths i) * (s.clocks i).num = omega arith in
      let m : (s.clocks i).den * (steady_tick (s.clocks i) (b.place i) + s.delay i i) < (s.clocks i).den * suc (sampled_at s b i) = omega arith in
      let less = lt_of_mul-lt-mul_left (s.clocks i).den m in
      let e : steady_tick (s.clocks i) (b.from i) ≡ steady_tick (s.clocks i) (b.place i) = ap (steady_tick (s.clocks i)) from in
      omega arith

  pub is_there : (i k : ℕ) → i < s.count → k < s.count → sends k ≡ true → b.from k ≡ b.place k → reaches_at s b k i ≤ sampled_at s b i
  is_there i k inside there sender from = elim (cases_eq k i) [
    | inl own ↦ subst (λ n. reaches_at s b n i ≤ sampled_at s b i) (sym own) (there_own i inside (subst (λ n. sends n ≡ true) own sender) (subst (λ n. b.from n ≡ b.place n) own from))
    | inr other ↦ there_other i k inside there (λ e. other (sym e)) sender from
  ]

module _ (s : Stations) (are : AreStations s) (room : HaveRoomToSample s) (sends : ℕ → Bool) (since : ℕ) (b c : Start) (drove : ℕ → ℕ → Bool) (one : OneBit s sends since b c drove) where
  -- a dominant bit has one that began by itself
  origin : (n k : ℕ) → k < s.count → b.drives k ≡ true → steady_tick (s.clocks k) (b.from k) < n → (w : ℕ) × (w < s.count) × (b.drives w ≡ true) × (b.from w ≡ b.place w)
  origin zero k there dominant less = absurd (omega arith)
  origin (suc n) k there dominant less = elim (one.begun k there (one.senders k there dominant)) [
    | inl from ↦ (k, there, dominant, from)
    | inr moved ↦
        (let found = moved.2 dominant in
        let way = are.line.later moved.0 k moved.1.inside there in
        origin n moved.0 moved.1.inside moved.1.dominant (omega arith))
  ]

  -- the next bit isn't there yet
  own_later : (i : ℕ) → i < s.count → sampled_at s b i ≤ steady_tick (s.clocks i) (c.from i)
  own_later i inside = (let after = one.after i inside in tick_next s are i inside (b.place i + sample_at (s.lengths i)) (c.from i) (omega arith))

  next_alone : (i k : ℕ) → i < s.count → k < s.count → i ≢ k → sends k ≡ true → c.from k ≡ b.place k + bit_quanta (s.lengths k) → sampled_at s b i < reaches_at s c k i
  next_alone i k inside there other sender from =
      let near = one.close i k inside there other (inr sender) in
      let fits = room.not_early i k inside there other (one.allowed k there sender) in
      let drift : suc since * bit_drift s i k ≤ 10 * bit_drift s i k = mul-le-mul_right (bit_drift s i k) (let f = one.few in let g : suc since ≤ 10 = omega arith in g) in
      let more : suc since * bit_drift s i k ≡ since * bit_drift s i k + bit_drift s i k = omega arith in
      let own = instant_more s are i k inside there (b.place i) (sample_at (s.lengths i)) in
      let theirs = instant_more s are k i there inside (b.place k) (bit_quanta (s.lengths k)) in
      let bit : bit_quanta (s.lengths i) * shared_quantum s i k ≡ sample_at (s.lengths i) * shared_quantum s i k + (s.lengths i).ps2 * shared_quantum s i k = omega arith in
      let e : shared_instant s k i (c.from k) ≡ shared_instant s k i (b.place k + bit_quanta (s.lengths k)) = ap (shared_instant s k i) from in
      ticks_before s are i k inside there (b.place i + sample_at (s.lengths i)) (c.from k) (s.delay k i) (omega arith)

  -- whose samples come before that of i, those are right
  abbrev pub RightBefore : ℕ → Type 0
  RightBefore i = (w : ℕ) → w < s.count → sampled_at s b w < sampled_at s b i → IsRight s b drove w

  -- from one whose edge it follows
  next_by : (n i k : ℕ) → i < s.count → k < s.count → RightBefore i → sends k ≡ true → k ≢ i → reaches_at s c k i ≤ sampled_at s b i → steady_tick (s.clocks k) (c.from k) < suc n
      → ((w : ℕ) → w < s.count → sends w ≡ true → steady_tick (s.clocks w) (c.from w) < n → sampled_at s b i < reaches_at s c w i) → sampled_at s b i < reaches_at s c k i
  next_by n i k inside there right sender other here less again =
      let own = own_later k there in
      let way = are.line.later k i there inside in
      elim (one.next k there sender (right k there (omega arith))) [
        | inl from ↦ next_alone i k inside there (λ e. other (sym e)) sender from
        | inr moved ↦
            (let third = moved.1.inside in
            let found = moved.2 in
            let over = are.line.later moved.0 k third there in
            let loop = are.line.later k k there there in
            let detour = are.line.detours moved.0 k i third there inside in
            let theirs = own_later moved.0 third in
            let still = one.still moved.0 third (right moved.0 third (omega arith)) moved.1.dominant in
            let before = again moved.0 third still (omega arith) in
            omega arith)
      ]

  pub next_later : (n i k : ℕ) → i < s.count → k < s.count → RightBefore i → sends k ≡ true → steady_tick (s.clocks k) (c.from k) < n → sampled_at s b i < reaches_at s c k i
  next_later zero i k inside there right sender less = absurd (omega arith)
  next_later (suc n) i k inside there right sender less = elim (cases_eq k i) [
    | inl own ↦
        subst (λ w. sampled_at s b i < reaches_at s c w i) (sym own)
        (let later = own_later i inside in let loop = are.line.later i i inside inside in let g : sampled_at s b i < reaches_at s c i i = omega arith in g)
    | inr other ↦ elim (cases_lt (sampled_at s b i) (reaches_at s c k i)) [
      | inl later ↦ later
      | inr here ↦ next_by n i k inside there right sender other here less (λ w third still before. next_later n i w inside third right still before)
    ]
  ]

  -- what a sender drives in the bit is what is found at the sample, a delay later
  driven_then : (i k : ℕ) → i < s.count → k < s.count → RightBefore i → sends k ≡ true → b.from k ≡ b.place k → (s.delay k i ≤ sampled_at s b i) × (drove k (sampled_at s b i - s.delay k i) ≡ b.drives k)
  driven_then i k inside there right sender from =
      let here = is_there s are room sends since (let f = one.few in omega arith) b one.allowed one.close i k inside there sender from in
      let later = next_later (suc (steady_tick (s.clocks k) (c.from k))) i k inside there right sender (omega arith) in
      (omega arith, one.drives k (sampled_at s b i - s.delay k i) there sender (omega arith) (omega arith))

  finds_dominant : DrivenLaws → (i k : ℕ) → i < s.count → k < s.count → RightBefore i → b.drives k ≡ true → driven s.count s.delay drove i (sampled_at s b i) ≡ true
  finds_dominant laws i k inside there right dominant =
      let w = origin (suc (steady_tick (s.clocks k) (b.from k))) k there dominant (omega arith) in
      let d = driven_then i w.0 inside w.1 right (one.senders w.0 w.1 w.2) w.3 in
      laws.dominant_from s.count s.delay drove w.0 i (sampled_at s b i) w.1 d.0 (d.1 ∙ w.2)

  finds_recessive : (i k : ℕ) → i < s.count → k < s.count → RightBefore i → ((w : ℕ) → w < s.count → b.drives w ≡ false) → s.delay k i ≤ sampled_at s b i
      → drove k (sampled_at s b i - s.delay k i) ≡ false
  finds_recessive i k inside there right none later = elim (cases_Bool (sends k)) [
    | inl sender ↦ elim (one.begun k there sender) [
      | inl from ↦ (driven_then i k inside there right sender from).1 ∙ none k there
      | inr moved ↦ (let d = moved.1.dominant in let e = none moved.0 moved.1.inside in cc)
    ]
    | inr quiet ↦ one.quiet i k inside there quiet (right k there) later
  ]

  is_right : DrivenLaws → (i : ℕ) → i < s.count → RightBefore i → IsRight s b drove i
  is_right laws i inside right = elim (cases_Bool (any_below s.count b.drives)) [
    | inl some ↦ (let k = any_one s.count b.drives some in finds_dominant laws i k.0 inside k.1 right k.2 ∙ sym some)
    | inr none ↦
        false_from_ne_true (driven s.count s.delay drove i (sampled_at s b i))
        (λ e. (let k = laws.dominant_by s.count s.delay drove i (sampled_at s b i) e in
        let f = finds_recessive i k.0 inside k.1 right (none_below s.count b.drives none) k.2 in let g = k.3 in cc))
        ∙ sym none
  ]

  right_by : DrivenLaws → (n i : ℕ) → i < s.count → sampled_at s b i < n → IsRight s b drove i
  right_by laws zero i inside less = absurd (omega arith)
  right_by laws (suc n) i inside less = is_right laws i inside (λ w there before. right_by laws n w there (omega arith))

  pub all_right : DrivenLaws → AreRight s b drove
  all_right laws i inside = right_by laws (suc (sampled_at s b i)) i inside (omega arith)
