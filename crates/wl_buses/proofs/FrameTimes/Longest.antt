-- The times of a bus are times of its stations.
use Rattle.std.proofs.Common.{◌≡◌, ◌≢◌, ◌∙◌, inl, inr, refl, sym, ap, subst, ℕ, zero, suc, ◌+◌, ◌-◌, ◌*◌, ◌<◌, ◌≤◌, max, Bool, true, false, cond, not, arith}
use Rattle.std.specs.Prelude.{◌==◌}
use Rattle.std.proofs.lemmas.Bool.{and_from, and_parts, cases_eq, cases_lt, eq-eqb, ne_eqb}
use Rattle.std.proofs.Math.Nat.{mul-le-mul_left, mul-le-mul_right}
use Rattle.wl_segments.specs.Lengths.{bit_quanta, sample_at}
use Rattle.wl_bound.specs.Families.{Bus}
use Rattle.wl_bound.specs.Terms.{greatest, sends_but}
use Rattle.wl_bound.proofs.Greatest.{bounds_each}
use Rattle.wl_buses.specs.OneFrame.Acknowledged.{chased_way}
use Rattle.wl_buses.specs.OneFrame.Bounds.{HasStations, bus_way, following_way, other_sends}
use Rattle.wl_buses.specs.OneFrame.Stations.{AreOnALine, Stations, shared_quantum, shared_tick}
use Rattle.wl_buses.proofs.OneFrame.AckBounds.{less}
use Rattle.wl_buses.proofs.OneFrame.Bounded.{inside, quanta_there}
use Rattle.wl_buses.specs.NextFrames.Frames.{HasRoomForAll}
use Rattle.wl_buses.specs.FrameTimes.Times.{TakeNoLonger}
use Rattle.wl_buses.specs.FrameTimes.BusTimes.{bit_times, bus_times, following_time, greatest_lag, lag_time, greatest_bit, greatest_sample, greatest_shift, way_time}

-- so much of the greatest of some numbers
times_max : (b : Bool) (u x y most : ℕ) → u * x ≤ most → (b ≡ true → u * y ≤ most) → u * max x (cond b y 0) ≤ most
times_max true u x y most h k = elim (cases_lt x y) [
  | inl less ↦ (let e : max x y ≡ y = omega arith in let f : u * max x y ≡ u * y = ap (λ n. u * n) e in let g = k refl in omega arith)
  | inr more ↦ (let e : max x y ≡ x = omega arith in let f : u * max x y ≡ u * x = ap (λ n. u * n) e in omega arith)
]
times_max false u x y most h k = (let e : max x 0 ≡ x = omega arith in let f : u * max x 0 ≡ u * x = ap (λ n. u * n) e in omega arith)

times_greatest : (n u : ℕ) (test : ℕ → Bool) (f : ℕ → ℕ) (most : ℕ) → ((k : ℕ) → k < n → test k ≡ true → u * f k ≤ most) → u * greatest n test f ≤ most
times_greatest zero u test f most h = omega arith
times_greatest (suc n) u test f most h = times_max (test n) u (greatest n test f) (f n) most (times_greatest n u test f most (λ k less passes. h k (omega arith) passes)) (λ passes. h n (omega arith) passes)

module _ (bus : Bus) (s : Stations) (line : AreOnALine s) (of : HasStations bus s) where
  -- so many quanta, in units
  quanta_by : (i n most : ℕ) → i < s.count → n * bus.longest i ≤ most → bus.tick * (n * (s.clocks i).num) ≤ most * (s.clocks i).den
  quanta_by i n most there h =
      let slow : n * (bus.tick * (s.clocks i).num) ≤ n * (bus.longest i * (s.clocks i).den) = mul-le-mul_left n (of.slowest i there) in
      let wide : n * bus.longest i * (s.clocks i).den ≤ most * (s.clocks i).den = mul-le-mul_right (s.clocks i).den h in
      omega arith

  bit_by : (i : ℕ) → i < s.count → bit_quanta (s.lengths i) * bus.longest i ≤ greatest_bit bus
  bit_by i there =
      subst (λ l. bit_quanta l * bus.longest i ≤ greatest_bit bus) (of.lengths i)
      (bounds_each bus.nodes (λ k. true) (λ k. bit_quanta (bus.lengths k) * bus.longest k) (greatest_bit bus) (omega arith) i (inside bus s line of i there) refl)

  sample_by : (i : ℕ) → i < s.count → sample_at (s.lengths i) * bus.longest i ≤ greatest_sample bus
  sample_by i there =
      subst (λ l. sample_at l * bus.longest i ≤ greatest_sample bus) (of.lengths i)
      (bounds_each bus.nodes (λ k. true) (λ k. sample_at (bus.lengths k) * bus.longest k) (greatest_sample bus) (omega arith) i (inside bus s line of i there) refl)

  shift_by : (k : ℕ) → k < s.count → s.may_send k ≡ true → max (greatest_lag bus k) ((bus.lengths k).sjw * bus.longest k) ≤ greatest_shift bus
  shift_by k there may =
      bounds_each bus.nodes bus.sends (λ n. max (greatest_lag bus n) ((bus.lengths n).sjw * bus.longest n)) (greatest_shift bus) (omega arith) k (inside bus s line of k there) (of.sends k there ∙ may)

  jump_by : (k : ℕ) → k < s.count → s.may_send k ≡ true → (s.lengths k).sjw * bus.longest k ≤ greatest_shift bus
  jump_by k there may = subst (λ l. l.sjw * bus.longest k ≤ greatest_shift bus) (of.lengths k) (let h = shift_by k there may in omega arith)

  lag_by : (i k : ℕ) → i < s.count → k < s.count → i ≢ k → s.may_send k ≡ true → way_time bus k i ≤ greatest_shift bus + bus.delay i k
  lag_by i k there nk other may =
      let shift = shift_by k nk may in
      let lag : lag_time bus k i ≤ greatest_lag bus k =
      bounds_each bus.nodes (λ n. not (n == k)) (lag_time bus k) (greatest_lag bus k) (omega arith) i (inside bus s line of i there) (ap not (ne_eqb i k other)) in
      by (way_time bus k i) (bus.delay i k) (greatest_lag bus k) ((bus.lengths k).sjw * bus.longest k) (greatest_shift bus) lag shift
    where
      by : (way back lag jump shift : ℕ) → way - back ≤ lag → max lag jump ≤ shift → way ≤ shift + back
      by way back lag jump shift h g = omega arith

  -- the way over the edge of a third station
  abbrev third : (k i a : ℕ) → ℕ
  third k i a = (s.delay a i + s.delay i k) * shared_tick s i k + shared_quantum s k i + shared_tick s i k - s.delay a k * shared_tick s i k

  abbrev third_time : (k i a : ℕ) → ℕ
  third_time k i a = bus.delay a i + bus.delay i k + bus.longest k + bus.tick - bus.delay a k

  third_by : (k i a : ℕ) → k < s.count → i < s.count → a < s.count → bus.tick * third k i a ≤ third_time k i a * shared_tick s i k
  third_by k i a nk ni na =
      let look = quanta_there bus s line of i k 1 nk in
      let one : bus.delay a i * shared_tick s i k ≡ s.delay a i * bus.tick * shared_tick s i k = ap (λ n. n * shared_tick s i k) (of.delays a i na ni) in
      let two : bus.delay i k * shared_tick s i k ≡ s.delay i k * bus.tick * shared_tick s i k = ap (λ n. n * shared_tick s i k) (of.delays i k ni nk) in
      let back : bus.delay a k * shared_tick s i k ≡ s.delay a k * bus.tick * shared_tick s i k = ap (λ n. n * shared_tick s i k) (of.delays a k na nk) in
      let h : bus.tick * third k i a ≤ shared_tick s i k * third_time k i a =
      less bus.tick (shared_tick s i k) ((s.delay a i + s.delay i k) * shared_tick s i k + shared_quantum s k i + shared_tick s i k) (s.delay a k * shared_tick s i k)
      (bus.delay a i + bus.delay i k + bus.longest k + bus.tick) (bus.delay a k) (omega arith, omega arith) in
      omega arith

  -- the way over the edge of another station
  follows_time : (k i a : ℕ) → k < s.count → i < s.count → a < s.count → bus.tick * following_way s k i a ≤ following_time bus k i a * shared_tick s i k
  follows_time k i a nk ni na = elim (cases_eq a i) [
    | inl own ↦
        (let e = eq-eqb a i own in
        let look = quanta_there bus s line of i k 1 nk in
        let one : bus.tick * following_way s k i a ≡ bus.tick * (shared_quantum s k i + shared_tick s i k) = ap (λ b. bus.tick * cond b (shared_quantum s k i + shared_tick s i k) (third k i a)) e in
        let two : following_time bus k i a * shared_tick s i k ≡ (bus.longest k + bus.tick) * shared_tick s i k = ap (λ b. cond b (bus.longest k + bus.tick) (third_time k i a) * shared_tick s i k) e in
        omega arith)
    | inr other ↦
        (let e = ne_eqb a i other in
        let one : bus.tick * following_way s k i a ≡ bus.tick * third k i a = ap (λ b. bus.tick * cond b (shared_quantum s k i + shared_tick s i k) (third k i a)) e in
        let two : following_time bus k i a * shared_tick s i k ≡ third_time k i a * shared_tick s i k = ap (λ b. cond b (bus.longest k + bus.tick) (third_time k i a) * shared_tick s i k) e in
        let by = third_by k i a nk ni na in
        omega arith)
  ]

  abbrev over_way : (k i : ℕ) → ℕ
  over_way k i = greatest s.count (other_sends s k) (following_way s k i)

  abbrev over_time : (k i : ℕ) → ℕ
  over_time k i = greatest bus.nodes (sends_but bus k) (following_time bus k i)

  max_turned : (x y : ℕ) → max x y ≡ max y x
  max_turned x y = omega arith

  way_by_time : (k i : ℕ) → k < s.count → i < s.count → s.may_send k ≡ true → bus.tick * s.way k i ≤ way_time bus k i * shared_tick s i k
  way_by_time k i nk ni may =
      let is : bus.tick * s.way k i ≡ bus.tick * bus_way s k i = ap (λ n. bus.tick * n) (of.ways i k ni nk) in
      let one : bus.delay k i * shared_tick s i k ≡ s.delay k i * bus.tick * shared_tick s i k = ap (λ n. n * shared_tick s i k) (of.delays k i nk ni) in
      let two : bus.delay i k * shared_tick s i k ≡ s.delay i k * bus.tick * shared_tick s i k = ap (λ n. n * shared_tick s i k) (of.delays i k ni nk) in
      let own : cond (s.may_send k) ((s.delay k i + s.delay i k) * shared_tick s i k) 0 ≡ (s.delay k i + s.delay i k) * shared_tick s i k = ap (λ b. cond b ((s.delay k i + s.delay i k) * shared_tick s i k) 0) may in
      let own_time : cond (bus.sends k) (bus.delay k i + bus.delay i k) 0 ≡ bus.delay k i + bus.delay i k = ap (λ b. cond b (bus.delay k i + bus.delay i k) 0) (of.sends k nk ∙ may) in
      let over : bus.tick * over_way k i ≤ over_time k i * shared_tick s i k =
      times_greatest s.count bus.tick (other_sends s k) (following_way s k i) (over_time k i * shared_tick s i k)
      (λ a na sends. (let h = follows_time k i a nk ni na in
      let parts = and_parts (s.may_send a) (not (a == k)) sends in
      let some : sends_but bus k a ≡ true = and_from (bus.sends a) (not (a == k)) (of.sends a na ∙ parts.0) parts.1 in
      let most : following_time bus k i a ≤ over_time k i = bounds_each bus.nodes (sends_but bus k) (following_time bus k i) (over_time k i) (omega arith) a (inside bus s line of a na) some in
      let wide : following_time bus k i a * shared_tick s i k ≤ over_time k i * shared_tick s i k = mul-le-mul_right (shared_tick s i k) most in
      omega arith)) in
      let both : bus.tick * max (over_way k i) (cond (s.may_send k) ((s.delay k i + s.delay i k) * shared_tick s i k) 0) ≤ way_time bus k i * shared_tick s i k =
      times_max (s.may_send k) bus.tick (over_way k i) ((s.delay k i + s.delay i k) * shared_tick s i k) (way_time bus k i * shared_tick s i k)
      (let wide : over_time k i * shared_tick s i k ≤ way_time bus k i * shared_tick s i k = mul-le-mul_right (shared_tick s i k) (omega arith) in omega arith)
      (λ sends. (let wide : (bus.delay k i + bus.delay i k) * shared_tick s i k ≤ way_time bus k i * shared_tick s i k = mul-le-mul_right (shared_tick s i k) (omega arith) in omega arith)) in
      let turn : bus.tick * bus_way s k i ≡ bus.tick * max (over_way k i) (cond (s.may_send k) ((s.delay k i + s.delay i k) * shared_tick s i k) 0) = ap (λ n. bus.tick * n) (max_turned (cond (s.may_send k) ((s.delay k i + s.delay i k) * shared_tick s i k) 0) (over_way k i)) in
      omega arith

  lag_is_by : (i k : ℕ) → i < s.count → k < s.count → i ≢ k → s.may_send k ≡ true → bus.tick * s.way k i ≤ (greatest_shift bus + bus.tick * s.delay i k) * shared_tick s i k
  lag_is_by i k ni nk other may =
      let way = way_by_time k i nk ni may in
      let lag = lag_by i k ni nk other may in
      let wide : way_time bus k i * shared_tick s i k ≤ (greatest_shift bus + bus.delay i k) * shared_tick s i k = mul-le-mul_right (shared_tick s i k) lag in
      let back : bus.delay i k * shared_tick s i k ≡ s.delay i k * bus.tick * shared_tick s i k = ap (λ n. n * shared_tick s i k) (of.delays i k ni nk) in
      omega arith

  pub exact_times : TakeNoLonger s (bus_times bus)
  exact_times = record {
    bits = λ i there. quanta_by i (bit_quanta (s.lengths i)) (greatest_bit bus) there (bit_by i there);
    samples = λ i there. quanta_by i (sample_at (s.lengths i)) (greatest_sample bus) there (sample_by i there);
    lags = lag_is_by;
    jumps = λ k there may. quanta_by k (s.lengths k).sjw (greatest_shift bus) there (jump_by k there may);
  }

  -- with room for acknowledgements neither a lag nor a jump is longer than a bit
  pub simple_times : (chase : ℕ → ℕ) → HasRoomForAll s chase → TakeNoLonger s (bit_times bus)
  simple_times chase enough = record {
    bits = λ i there. quanta_by i (bit_quanta (s.lengths i)) (greatest_bit bus) there (bit_by i there);
    samples = λ i there. quanta_by i (sample_at (s.lengths i)) (greatest_sample bus) there (sample_by i there);
    lags = λ i k ni nk other may. (let room = ((enough k nk may).0.room).is_there k i nk ni (λ e. other (sym e)) refl in
        let late : s.way k i ≤ chased_way s k chase k i = omega arith in
        let bit : (s.clocks i).den * (bus.tick * (bit_quanta (s.lengths k) * (s.clocks k).num)) ≤ (s.clocks i).den * (greatest_bit bus * (s.clocks k).den) = mul-le-mul_left (s.clocks i).den (quanta_by k (bit_quanta (s.lengths k)) (greatest_bit bus) nk (bit_by k nk)) in
        let way : bus.tick * s.way k i ≤ bus.tick * (sample_at (s.lengths k) * shared_quantum s k i) = mul-le-mul_left bus.tick (omega arith) in
        omega arith);
    jumps = λ k there may. (let half = (line.book k there).lengths.sjw_half in
        let bit = bit_by k there in
        let less : (s.lengths k).sjw * bus.longest k ≤ bit_quanta (s.lengths k) * bus.longest k = mul-le-mul_right (bus.longest k) (omega arith) in
        quanta_by k (s.lengths k).sjw (greatest_bit bus) there (omega arith));
  }
