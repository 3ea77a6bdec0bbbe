-- From the condition for margins, in units, to the inequalities of stations, in the parts of a tick that two clocks share.
use Rattle.std.proofs.Common.{◌≡◌, ◌≢◌, ◌∙◌, ◌⊎◌, inl, inr, refl, sym, ap, ℕ, ◌+◌, ◌-◌, ◌*◌, ◌<◌, ◌≤◌, max, min, Bool, true, false, cond, not, ◌&&◌, arith}
use Rattle.std.specs.Prelude.{◌==◌, nat_lt}
use Rattle.std.proofs.lemmas.Bool.{cases_eq, cases_lt, cases_Bool, and_from, and_left, and_parts, and_right, eq-eqb, ne_eqb}
use Rattle.std.proofs.Math.Nat.{mul-le-mul_left, mul-le-mul_right, le_of_mul-le-mul_left}
use Rattle.wl_segments.specs.Lengths.{sample_at, bit_quanta}
use Rattle.wl_bound.specs.Families.{Bus}
use Rattle.wl_bound.specs.Terms.{greatest, sends_but, sends_third, ahead, drift, jump, late, look, pull, pulled, strays, there_and_back, trip, way}
use Rattle.wl_bound.specs.Conditions.{IsSound, left_of, right_of}
use Rattle.wl_bound.proofs.Greatest.{bounded, bounds_each}
use Rattle.wl_topology.specs.Driven.{any_below}
use Rattle.wl_buses.specs.OneFrame.Acknowledged.{any_way}
use Rattle.wl_buses.specs.OneFrame.Bounds.{HasStations, following_way, other_sends}
use Rattle.wl_buses.specs.OneFrame.Stations.{Stations, AreOnALine, HaveRoom, HaveWays, IsPair, shared_tick, shared_quantum, bit_drift}
use Rattle.wl_buses.proofs.BothProofs.Small.{none_below, or_not}

-- So many ticks, a time and ten times a difference fit, in other parts: a tick has u units, or m parts.
pub fits : (u m w x y X Y c C g G : ℕ) → 0 < u → u * x ≤ m * X → m * Y ≤ u * y → m * c ≤ u * C → u * g ≤ m * G → w * u + G + 10 * (X - Y) ≤ c → w * m + g + 10 * (x - y) ≤ C
fits u m w x y X Y c C g G some high low room time h =
    let flat : w * u + G ≤ c = omega arith in
    let times : m * (w * u + G) ≤ m * c = mul-le-mul_left m flat in
    let ticks : u * (w * m + g) ≤ u * C = omega arith in
    let one = le_of_mul-le-mul_left ticks some in
    let far : w * u + G + 10 * X ≤ c + 10 * Y = omega arith in
    let more : m * (w * u + G + 10 * X) ≤ m * (c + 10 * Y) = mul-le-mul_left m far in
    let all : u * (w * m + g + 10 * x) ≤ u * (C + 10 * y) = omega arith in
    let two = le_of_mul-le-mul_left all some in
    omega arith

module _ (bus : Bus) (s : Stations) (line : AreOnALine s) (of : HasStations bus s) where
  pub inside : (i : ℕ) → i < s.count → i < bus.nodes
  inside i h = let e = of.nodes in omega arith

  -- so many quanta, in units and in parts
  pub quanta_high : (i k n : ℕ) → i < s.count → bus.tick * (n * shared_quantum s i k) ≤ shared_tick s i k * (n * bus.longest i)
  quanta_high i k n h = let m : n * (s.clocks k).den * (bus.tick * (s.clocks i).num) ≤ n * (s.clocks k).den * (bus.longest i * (s.clocks i).den) = mul-le-mul_left (n * (s.clocks k).den) (of.slowest i h) in omega arith

  pub quanta_low : (i k n : ℕ) → i < s.count → shared_tick s i k * (n * bus.shortest i) ≤ bus.tick * (n * shared_quantum s i k)
  quanta_low i k n h = let m : n * (s.clocks k).den * (bus.shortest i * (s.clocks i).den) ≤ n * (s.clocks k).den * (bus.tick * (s.clocks i).num) = mul-le-mul_left (n * (s.clocks k).den) (of.fastest i h) in omega arith

  pub quanta_back : (i k n : ℕ) → k < s.count → shared_tick s i k * (n * bus.shortest k) ≤ bus.tick * (n * shared_quantum s k i)
  quanta_back i k n h = let low = quanta_low k i n h in omega arith

  pub quanta_there : (i k n : ℕ) → k < s.count → bus.tick * (n * shared_quantum s k i) ≤ shared_tick s i k * (n * bus.longest k)
  quanta_there i k n h = let high = quanta_high k i n h in omega arith

  -- the parts of a way
  pub own_way : (i k : ℕ) → ℕ
  own_way i k = cond (s.may_send k) ((s.delay k i + s.delay i k) * shared_tick s i k) 0

  pub over_way : (i k : ℕ) → ℕ
  over_way i k = greatest s.count (other_sends s k) (following_way s k i)

  pub way_is : (i k : ℕ) → i < s.count → k < s.count → s.way k i ≡ max (own_way i k) (over_way i k)
  unfolding own_way over_way
  way_is i k ni nk = of.ways i k ni nk

  pub own_is : (i k : ℕ) → s.may_send k ≡ true → own_way i k ≡ (s.delay k i + s.delay i k) * shared_tick s i k
  unfolding own_way
  own_is i k may = ap (λ b. cond b ((s.delay k i + s.delay i k) * shared_tick s i k) 0) may

  pub own_none : (i k : ℕ) → s.may_send k ≡ false → own_way i k ≡ 0
  unfolding own_way
  own_none i k may = ap (λ b. cond b ((s.delay k i + s.delay i k) * shared_tick s i k) 0) may

  other_is : (k a : ℕ) → s.may_send a ≡ true → a ≢ k → other_sends s k a ≡ true
  other_is k a may apart = and_from (s.may_send a) (not (a == k)) may (ap not (ne_eqb a k apart))

  other_by : (k a : ℕ) → other_sends s k a ≡ true → (s.may_send a ≡ true) × (a ≢ k)
  other_by k a e =
      let parts = and_parts (s.may_send a) (not (a == k)) e in
      (parts.0, (λ same. (let f : not (a == k) ≡ false = ap not (eq-eqb a k same) in let g = parts.1 in cc)))

  over_each : (i k a : ℕ) → a < s.count → s.may_send a ≡ true → a ≢ k → following_way s k i a ≤ over_way i k
  unfolding over_way
  over_each i k a na may apart = bounds_each s.count (other_sends s k) (following_way s k i) (greatest s.count (other_sends s k) (following_way s k i)) (omega arith) a na (other_is k a may apart)

  pub over_by : (i k most : ℕ) → ((a : ℕ) → a < s.count → s.may_send a ≡ true → a ≢ k → following_way s k i a ≤ most) → over_way i k ≤ most
  unfolding over_way
  over_by i k most h = bounded s.count (other_sends s k) (following_way s k i) most (λ a na e. (let b = other_by k a e in h a na b.0 b.1))

  follows_other : (k i a : ℕ) → a ≢ i → following_way s k i a ≡ (s.delay a i + s.delay i k) * shared_tick s i k + shared_quantum s k i + shared_tick s i k - s.delay a k * shared_tick s i k
  follows_other k i a apart =
      ap (λ b. cond b (shared_quantum s k i + shared_tick s i k) ((s.delay a i + s.delay i k) * shared_tick s i k + shared_quantum s k i + shared_tick s i k - s.delay a k * shared_tick s i k))
      (ne_eqb a i apart)

  follows_own : (k i : ℕ) → following_way s k i i ≡ shared_quantum s k i + shared_tick s i k
  follows_own k i =
      ap (λ b. cond b (shared_quantum s k i + shared_tick s i k) ((s.delay i i + s.delay i k) * shared_tick s i k + shared_quantum s k i + shared_tick s i k - s.delay i k * shared_tick s i k))
      (eq-eqb i i refl)

  over : (i k a : ℕ) → i < s.count → k < s.count → a < s.count → IsPair s i k → a ≢ i → a ≢ k → s.may_send a ≡ true
      → (s.delay a i + s.delay i k) * shared_tick s i k + shared_quantum s k i + shared_tick s i k ≤ s.way k i + s.delay a k * shared_tick s i k
  over i k a ni nk na pair apart other may = (let w = way_is i k ni nk in let h = over_each i k a na may other in let e = follows_other k i a apart in omega arith)

  straight : (i k : ℕ) → i < s.count → k < s.count → IsPair s i k → s.may_send i ≡ true → shared_quantum s k i + shared_tick s i k ≤ s.way k i
  straight i k ni nk pair may = (let w = way_is i k ni nk in let h = over_each i k i ni may pair.0 in let e = follows_own k i in omega arith)

  -- no way is longer than there and back and a look
  pub follows_by : (i k a : ℕ) → i < s.count → k < s.count → a < s.count → following_way s k i a ≤ any_way s k i
  follows_by i k a ni nk na = elim (cases_eq a i) [
    | inl own ↦
        (let e = follows_own k i in
        let f : following_way s k i a ≡ following_way s k i i = ap (following_way s k i) own in
        let detour = line.detours k i k nk ni nk in
        let m : shared_tick s i k * (s.delay k k + s.delay i i) ≤ shared_tick s i k * (s.delay k i + s.delay i k) = mul-le-mul_left (shared_tick s i k) detour in
        omega arith)
    | inr apart ↦
        (let e = follows_other k i a apart in
        let detour = line.detours a k i na nk ni in
        let m : shared_tick s i k * (s.delay a i + s.delay k k) ≤ shared_tick s i k * (s.delay a k + s.delay k i) = mul-le-mul_left (shared_tick s i k) detour in
        omega arith)
  ]

  way_by : (i k : ℕ) → i < s.count → k < s.count → s.may_send k ≡ true → s.way k i ≤ any_way s k i
  way_by i k ni nk may =
      let w = way_is i k ni nk in
      let own = own_is i k may in
      let h = over_by i k (any_way s k i) (λ a na sends apart. follows_by i k a ni nk na) in
      omega arith

  -- if no other one sends, it is there and back
  way_alone : (i k : ℕ) → i < s.count → k < s.count → s.may_send k ≡ true → ((a : ℕ) → a < s.count → s.may_send a ≡ true → a ≡ k) → s.way k i ≡ (s.delay k i + s.delay i k) * shared_tick s i k
  way_alone i k ni nk may none =
      let w = way_is i k ni nk in
      let own = own_is i k may in
      let h = over_by i k 0 (λ a na sends apart. absurd (apart (none a na sends))) in
      omega arith

  -- if two alone send, it is that or a quantum and a tick
  way_of_two : (i k : ℕ) → i < s.count → k < s.count → s.may_send k ≡ true → ((a : ℕ) → a < s.count → s.may_send a ≡ true → (a ≡ i) ⊎ (a ≡ k))
      → s.way k i ≤ (s.delay k i + s.delay i k) * shared_tick s i k + (shared_quantum s k i + shared_tick s i k - (s.delay k i + s.delay i k) * shared_tick s i k)
  way_of_two i k ni nk may two =
      let w = way_is i k ni nk in
      let own = own_is i k may in
      let h = over_by i k (shared_quantum s k i + shared_tick s i k) (λ a na sends apart. (let e = ap (following_way s k i) (other_of (two a na sends) apart) in let f = follows_own k i in omega arith)) in
      omega arith
    where
      other_of : {a : ℕ} → (a ≡ i) ⊎ (a ≡ k) → a ≢ k → a ≡ i
      other_of (inl own) apart = own
      other_of (inr theirs) apart = absurd (apart theirs)

  -- a quantum and a tick beyond some ticks, in units and in parts
  beyond : (i k w W : ℕ) → k < s.count → W ≡ w * bus.tick → bus.tick * (shared_quantum s k i + shared_tick s i k - w * shared_tick s i k) ≤ shared_tick s i k * (bus.longest k + bus.tick - W)
  beyond i k w W nk same = elim (cases_lt (w * shared_tick s i k) (shared_quantum s k i + shared_tick s i k)) [
    | inl more ↦
        (let high = quanta_there i k 1 nk in
        let part : w * shared_tick s i k + (shared_quantum s k i + shared_tick s i k - w * shared_tick s i k) ≡ shared_quantum s k i + shared_tick s i k = omega arith in
        let units : bus.tick * (w * shared_tick s i k + (shared_quantum s k i + shared_tick s i k - w * shared_tick s i k)) ≡ bus.tick * (shared_quantum s k i + shared_tick s i k) = ap (λ n. bus.tick * n) part in
        let loop : shared_tick s i k * W ≡ shared_tick s i k * (w * bus.tick) = ap (λ n. shared_tick s i k * n) same in
        let m : shared_tick s i k * (bus.longest k + bus.tick) ≤ shared_tick s i k * (W + (bus.longest k + bus.tick - W)) = mul-le-mul_left (shared_tick s i k) (omega arith) in
        omega arith)
    | inr none ↦
        (let e : shared_quantum s k i + shared_tick s i k - w * shared_tick s i k ≡ 0 = omega arith in
        let f : bus.tick * (shared_quantum s k i + shared_tick s i k - w * shared_tick s i k) ≡ bus.tick * 0 = ap (λ n. bus.tick * n) e in
        omega arith)
  ]

  pub look_high : (i k : ℕ) → i < s.count → k < s.count
      → bus.tick * (shared_quantum s k i + shared_tick s i k - s.delay k k * shared_tick s i k) ≤ shared_tick s i k * look bus k
  unfolding look
  look_high i k ni nk = beyond i k (s.delay k k) (bus.delay k k) nk (of.delays k k nk nk)

  pub drift_is : (i k : ℕ) → drift bus i k ≡ bit_quanta (s.lengths i) * bus.longest i - bit_quanta (s.lengths k) * bus.shortest k
  unfolding drift
  drift_is i k =
      ap (λ l. bit_quanta l * bus.longest i - bit_quanta (bus.lengths k) * bus.shortest k) (of.lengths i)
      ∙ ap (λ l. bit_quanta (s.lengths i) * bus.longest i - bit_quanta l * bus.shortest k) (of.lengths k)

  pub jump_is : (i : ℕ) → jump bus i ≡ (s.lengths i).sjw * bus.shortest i
  unfolding jump
  jump_is i = ap (λ l. l.sjw * bus.shortest i) (of.lengths i)

  -- a loop, in parts
  pub loop_by : (i : ℕ) → i < s.count → bus.delay i i ≤ sample_at (bus.lengths i) * bus.shortest i → (s.clocks i).den * s.delay i i ≤ sample_at (s.lengths i) * (s.clocks i).num
  loop_by i ni h =
      let d = of.delays i i ni ni in
      let p : sample_at (bus.lengths i) * bus.shortest i ≡ sample_at (s.lengths i) * bus.shortest i = ap (λ l. sample_at l * bus.shortest i) (of.lengths i) in
      let m : (s.clocks i).den * (s.delay i i * bus.tick) ≤ (s.clocks i).den * (sample_at (s.lengths i) * bus.shortest i) = mul-le-mul_left (s.clocks i).den (omega arith) in
      let n : sample_at (s.lengths i) * (bus.shortest i * (s.clocks i).den) ≤ sample_at (s.lengths i) * (bus.tick * (s.clocks i).num) = mul-le-mul_left (sample_at (s.lengths i)) (of.fastest i ni) in
      let all : bus.tick * ((s.clocks i).den * s.delay i i) ≤ bus.tick * (sample_at (s.lengths i) * (s.clocks i).num) = omega arith in
      le_of_mul-le-mul_left all of.some

  pub have_ways : HaveWays s
  have_ways = record {
    there_and_back = λ i k ni nk pair may. (let w = way_is i k ni nk in let e = own_is i k may in omega arith);
    over = over;
    straight = straight;
  }

module _ (bus : Bus) (s : Stations) (line : AreOnALine s) (of : HasStations bus s) (sound : IsSound bus) where
  drifts : (i k : ℕ) → i < s.count → k < s.count → i ≢ k → (bus.listens i && bus.listens k) ≡ false → 10 * drift bus i k ≤ min (jump bus i) (jump bus k)
  unfolding left_of right_of
  drifts i k ni nk apart some =
      let h : 10 * drift bus i k + pulled bus i k ≤ min (jump bus i) (jump bus k) =
      sound.drift_fits_jump i k (inside bus s line of i ni) (inside bus s line of k nk)
      (and_from (not (i == k)) (not (bus.listens i && bus.listens k)) (ap not (ne_eqb i k apart)) (ap not some)) in
      omega arith

  -- with what others pull k forward
  jumped : (i k : ℕ) → i < s.count → k < s.count → i ≢ k → s.may_send k ≡ true → 10 * drift bus i k + pull bus i k ≤ jump bus i
  unfolding left_of right_of pulled
  jumped i k ni nk apart may =
      let h : 10 * drift bus i k + (pull bus i k - (jump bus i - jump bus k)) ≤ min (jump bus i) (jump bus k) =
      sound.drift_fits_jump i k (inside bus s line of i ni) (inside bus s line of k nk)
      (and_from (not (i == k)) (not (bus.listens i && bus.listens k)) (ap not (ne_eqb i k apart)) (ap not (and_right (bus.listens i) (bus.listens k) (of.answers k nk may)))) in
      omega arith

  abbrev alone_by : (i k : ℕ) → Bool → ℕ
  alone_by i k sends = cond sends (bus.longest k + bus.tick - there_and_back bus i k) 0

  pull_is : (i k : ℕ) → bus.sends k ≡ true → any_below bus.nodes (sends_third bus i k) ≡ true → pull bus i k ≡ look bus k
  unfolding pull
  pull_is i k sends some =
      ap (λ b. cond b (cond (any_below bus.nodes (sends_third bus i k)) (look bus k) (alone_by i k (bus.sends i))) 0) sends
      ∙ ap (λ b. cond b (look bus k) (alone_by i k (bus.sends i))) some

  pull_alone : (i k : ℕ) → bus.sends k ≡ true → bus.sends i ≡ true → any_below bus.nodes (sends_third bus i k) ≡ false
      → pull bus i k ≡ bus.longest k + bus.tick - there_and_back bus i k
  unfolding pull
  pull_alone i k sends own none =
      ap (λ b. cond b (cond (any_below bus.nodes (sends_third bus i k)) (look bus k) (alone_by i k (bus.sends i))) 0) sends
      ∙ ap (λ b. cond b (look bus k) (alone_by i k (bus.sends i))) none ∙ ap (alone_by i k) own

  -- whoever sends, it is no less than what a look takes beyond there and back
  pull_most : (i k : ℕ) → i < s.count → k < s.count → s.may_send i ≡ true → s.may_send k ≡ true
      → bus.longest k + bus.tick - (bus.delay k i + bus.delay i k) ≤ pull bus i k
  unfolding look
  pull_most i k ni nk own may = elim (cases_Bool (any_below bus.nodes (sends_third bus i k))) [
    | inl third ↦
        (let e = pull_is i k (of.sends k nk ∙ may) third in
        let detour = line.detours k i k nk ni nk in
        let m : bus.tick * (s.delay k k + s.delay i i) ≤ bus.tick * (s.delay k i + s.delay i k) = mul-le-mul_left bus.tick detour in
        let loop = of.delays k k nk nk in
        let there = of.delays k i nk ni in
        let back = of.delays i k ni nk in
        omega arith)
    | inr none ↦ (let e = pull_alone i k (of.sends k nk ∙ may) (of.sends i ni ∙ own) none in omega arith)
  ]

  -- two stations alone may send: what the look of the one takes beyond there and back is left in a jump of the other
  left_for_two : (i k : ℕ) → i < s.count → k < s.count → i ≢ k → s.may_send i ≡ true → s.may_send k ≡ true
      → ((a : ℕ) → a < s.count → s.may_send a ≡ true → (a ≡ i) ⊎ (a ≡ k))
      → 10 * drift bus i k + (bus.longest k + bus.tick - (bus.delay k i + bus.delay i k)) ≤ jump bus i
  left_for_two i k ni nk apart own may two = (let h = jumped i k ni nk apart may in let p = pull_most i k ni nk own may in omega arith)

module _ (bus : Bus) (s : Stations) (line : AreOnALine s) (of : HasStations bus s) (sound : IsSound bus) where
  -- where a quantum and a tick counts beyond some ticks
  early_look : (i k w W : ℕ) → i < s.count → k < s.count → W ≡ w * bus.tick
      → s.way k i ≤ (s.delay k i + s.delay i k) * shared_tick s i k + (shared_quantum s k i + shared_tick s i k - w * shared_tick s i k)
      → 10 * drift bus i k + (bus.longest k + bus.tick - W) ≤ jump bus i
      → s.way k i + 10 * bit_drift s i k ≤ (s.delay k i + s.delay i k) * shared_tick s i k + (s.lengths i).sjw * shared_quantum s i k
  early_look i k w W ni nk same way h =
      let d = drift_is bus s line of i k in
      let j = jump_is bus s line of i in
      let f =
      fits bus.tick (shared_tick s i k) 0 (bit_quanta (s.lengths i) * shared_quantum s i k) (bit_quanta (s.lengths k) * shared_quantum s k i)
      (bit_quanta (s.lengths i) * bus.longest i) (bit_quanta (s.lengths k) * bus.shortest k) ((s.lengths i).sjw * bus.shortest i) ((s.lengths i).sjw * shared_quantum s i k)
      (shared_quantum s k i + shared_tick s i k - w * shared_tick s i k) (bus.longest k + bus.tick - W)
      of.some (quanta_high bus s line of i k (bit_quanta (s.lengths i)) ni) (quanta_back bus s line of i k (bit_quanta (s.lengths k)) nk) (quanta_low bus s line of i k (s.lengths i).sjw ni)
      (beyond bus s line of i k w W nk same) (omega arith) in
      omega arith

  early_alone : (i k : ℕ) → i < s.count → k < s.count → i ≢ k → s.may_send k ≡ true → ((a : ℕ) → a < s.count → s.may_send a ≡ true → a ≡ k)
      → s.way k i + 10 * bit_drift s i k ≤ (s.delay k i + s.delay i k) * shared_tick s i k + (s.lengths i).sjw * shared_quantum s i k
  early_alone i k ni nk apart may none =
      let h = drifts bus s line of sound i k ni nk apart (and_right (bus.listens i) (bus.listens k) (of.answers k nk may)) in
      let d = drift_is bus s line of i k in
      let j = jump_is bus s line of i in
      let way = way_alone bus s line of i k ni nk may none in
      let f =
      fits bus.tick (shared_tick s i k) 0 (bit_quanta (s.lengths i) * shared_quantum s i k) (bit_quanta (s.lengths k) * shared_quantum s k i)
      (bit_quanta (s.lengths i) * bus.longest i) (bit_quanta (s.lengths k) * bus.shortest k) ((s.lengths i).sjw * bus.shortest i) ((s.lengths i).sjw * shared_quantum s i k) 0 0
      of.some (quanta_high bus s line of i k (bit_quanta (s.lengths i)) ni) (quanta_back bus s line of i k (bit_quanta (s.lengths k)) nk) (quanta_low bus s line of i k (s.lengths i).sjw ni)
      (omega arith) (omega arith) in
      omega arith

  -- one of the senders, if none is a third
  one_of : (i k : ℕ) → any_below bus.nodes (sends_third bus i k) ≡ false → (a : ℕ) → a < s.count → s.may_send a ≡ true → (a ≡ i) ⊎ (a ≡ k)
  one_of i k none a na may = elim (cases_eq a i) [
    | inl own ↦ inl own
    | inr apart ↦ elim (cases_eq a k) [
      | inl theirs ↦ inr theirs
      | inr other ↦
          (let sends : sends_third bus i k a ≡ true =
          and_from (bus.sends a && not (a == i)) (not (a == k)) (and_from (bus.sends a) (not (a == i)) (of.sends a na ∙ may) (ap not (ne_eqb a i apart))) (ap not (ne_eqb a k other)) in
          let not_it = none_below bus.nodes (sends_third bus i k) none a (inside bus s line of a na) in
          cc)
    ]
  ]

  -- with a third one, if these two alone may send, and if k alone may
  early_third : (i k : ℕ) → i < s.count → k < s.count → i ≢ k → s.may_send k ≡ true → any_below bus.nodes (sends_third bus i k) ≡ true
      → s.way k i + 10 * bit_drift s i k ≤ (s.delay k i + s.delay i k) * shared_tick s i k + (s.lengths i).sjw * shared_quantum s i k
  unfolding look
  early_third i k ni nk apart may third =
      let h = jumped bus s line of sound i k ni nk apart may in
      let e = pull_is bus s line of sound i k (of.sends k nk ∙ may) third in
      early_look i k (s.delay k k) (bus.delay k k) ni nk (of.delays k k nk nk) (way_by bus s line of i k ni nk may) (omega arith)

  early_two : (i k : ℕ) → i < s.count → k < s.count → i ≢ k → s.may_send k ≡ true → s.may_send i ≡ true → any_below bus.nodes (sends_third bus i k) ≡ false
      → s.way k i + 10 * bit_drift s i k ≤ (s.delay k i + s.delay i k) * shared_tick s i k + (s.lengths i).sjw * shared_quantum s i k
  early_two i k ni nk apart may own none =
      let one = of.delays k i nk ni in
      let two = of.delays i k ni nk in
      let sum : (s.delay k i + s.delay i k) * bus.tick ≡ s.delay k i * bus.tick + s.delay i k * bus.tick = omega arith in
      early_look i k (s.delay k i + s.delay i k) (bus.delay k i + bus.delay i k) ni nk (omega arith)
      (way_of_two bus s line of i k ni nk may (λ a na sends. one_of i k none a na sends)) (left_for_two bus s line of sound i k ni nk apart own may (λ a na sends. one_of i k none a na sends))

  only_k : (i k : ℕ) → s.may_send i ≡ false → any_below bus.nodes (sends_third bus i k) ≡ false → (a : ℕ) → a < s.count → s.may_send a ≡ true → a ≡ k
  only_k i k listens none a na sends = elim (one_of i k none a na sends) [
    | inl own ↦ (let e = ap s.may_send own in cc)
    | inr theirs ↦ theirs
  ]

  early_fits : (i k : ℕ) → i < s.count → k < s.count → i ≢ k → s.may_send k ≡ true
      → s.way k i + 10 * bit_drift s i k ≤ (s.delay k i + s.delay i k) * shared_tick s i k + (s.lengths i).sjw * shared_quantum s i k
  early_fits i k ni nk apart may = elim (cases_Bool (any_below bus.nodes (sends_third bus i k))) [
    | inl third ↦ early_third i k ni nk apart may third
    | inr none ↦ elim (cases_Bool (s.may_send i)) [
      | inl own ↦ early_two i k ni nk apart may own none
      | inr listens ↦ early_alone i k ni nk apart may (λ a na sends. only_k i k listens none a na sends)
    ]
  ]

  late_fits : (i k : ℕ) → i < s.count → k < s.count → i ≢ k → s.may_send k ≡ true → 10 * bit_drift s k i ≤ (s.lengths i).sjw * shared_quantum s i k
  late_fits i k ni nk apart may =
      let h = drifts bus s line of sound k i nk ni (λ e. apart (sym e)) (and_left (bus.listens k) (bus.listens i) (of.answers k nk may)) in
      let d = drift_is bus s line of k i in
      let j = jump_is bus s line of i in
      let f =
      fits bus.tick (shared_tick s i k) 0 (bit_quanta (s.lengths k) * shared_quantum s k i) (bit_quanta (s.lengths i) * shared_quantum s i k)
      (bit_quanta (s.lengths k) * bus.longest k) (bit_quanta (s.lengths i) * bus.shortest i) ((s.lengths i).sjw * bus.shortest i) ((s.lengths i).sjw * shared_quantum s i k) 0 0
      of.some (quanta_there bus s line of i k (bit_quanta (s.lengths k)) nk) (quanta_low bus s line of i k (bit_quanta (s.lengths i)) ni) (quanta_low bus s line of i k (s.lengths i).sjw ni)
      (omega arith) (omega arith) in
      omega arith

  not_early : (i k : ℕ) → i < s.count → k < s.count → i ≢ k → s.may_send k ≡ true
      → s.way k i + 10 * bit_drift s i k + shared_tick s i k ≤ (s.delay k i + s.delay i k) * shared_tick s i k + (s.lengths i).ps2 * shared_quantum s i k
  unfolding left_of right_of
  not_early i k ni nk apart may =
      let h = sound.no_bit_too_early i k (inside bus s line of i ni) (inside bus s line of k nk) (and_from (not (i == k)) (not (bus.listens k)) (ap not (ne_eqb i k apart)) (ap not (of.answers k nk may))) in
      let d = drift_is bus s line of i k in
      let p : (bus.lengths i).ps2 * bus.shortest i ≡ (s.lengths i).ps2 * bus.shortest i = ap (λ l. l.ps2 * bus.shortest i) (of.lengths i) in
      let way = way_by bus s line of i k ni nk may in
      let f =
      fits bus.tick (shared_tick s i k) 1 (bit_quanta (s.lengths i) * shared_quantum s i k) (bit_quanta (s.lengths k) * shared_quantum s k i)
      (bit_quanta (s.lengths i) * bus.longest i) (bit_quanta (s.lengths k) * bus.shortest k) ((s.lengths i).ps2 * bus.shortest i) ((s.lengths i).ps2 * shared_quantum s i k)
      (shared_quantum s k i + shared_tick s i k - s.delay k k * shared_tick s i k) (look bus k)
      of.some (quanta_high bus s line of i k (bit_quanta (s.lengths i)) ni) (quanta_back bus s line of i k (bit_quanta (s.lengths k)) nk) (quanta_low bus s line of i k (s.lengths i).ps2 ni)
      (look_high bus s line of i k ni nk) (omega arith) in
      omega arith

  trip_own : (i k : ℕ) → bus.delay i k + bus.delay k i ≤ trip bus i k i
  unfolding trip
  trip_own i k =
      let e : trip bus i k i ≡ bus.delay i k + bus.delay k i + cond (nat_lt 2 bus.nodes) (look bus i) 0 =
      ap (λ c. cond c (bus.delay i k + bus.delay k i + cond (nat_lt 2 bus.nodes) (look bus i) 0) (bus.delay i k + bus.delay k i + bus.longest i + bus.tick - bus.delay i i)) (eq-eqb i i refl) in
      omega arith

  trip_other : (i k a : ℕ) → a ≢ i → trip bus i k a ≡ bus.delay a k + bus.delay k i + bus.longest i + bus.tick - bus.delay a i
  unfolding trip
  trip_other i k a apart =
      ap (λ c. cond c (bus.delay i k + bus.delay k i + cond (nat_lt 2 bus.nodes) (look bus i) 0) (bus.delay a k + bus.delay k i + bus.longest i + bus.tick - bus.delay a i)) (ne_eqb a i apart)

  way_there : (i k a : ℕ) → a < s.count → s.may_send a ≡ true → a ≢ k → trip bus i k a ≤ late bus i k
  unfolding late way
  way_there i k a na may apart =
      let sends : sends_but bus k a ≡ true = and_from (bus.sends a) (not (a == k)) (of.sends a na ∙ may) (ap not (ne_eqb a k apart)) in
      let h = bounds_each bus.nodes (sends_but bus k) (trip bus i k) (greatest bus.nodes (sends_but bus k) (trip bus i k)) (omega arith) a (inside bus s line of a na) sends in
      omega arith

  strays_there : (i k : ℕ) → i < s.count → i ≢ k → drift bus k i ≤ strays bus k
  unfolding strays
  strays_there i k ni apart =
      bounds_each bus.nodes (λ w. not (w == k)) (λ w. drift bus k w) (greatest bus.nodes (λ w. not (w == k)) (λ w. drift bus k w)) (omega arith) i (inside bus s line of i ni) (ap not (ne_eqb i k apart))

  -- what is late by the trip over a sender fits
  late_there : (i k : ℕ) → i < s.count → k < s.count → i ≢ k → s.may_send k ≡ true → late bus i k + 11 * strays bus k ≤ sample_at (s.lengths i) * bus.shortest i
  unfolding left_of right_of
  late_there i k ni nk apart may =
      let h : cond (i == k) (bus.delay i i + bus.turns i) (late bus i k + 11 * strays bus k + ahead bus k) ≤ sample_at (bus.lengths i) * bus.shortest i =
      sound.bit_is_there_at_sample i k (inside bus s line of i ni) (inside bus s line of k nk) (or_not (i == k) (bus.listens k) (of.answers k nk may)) in
      let e = ap (λ c. cond c (bus.delay i i + bus.turns i) (late bus i k + 11 * strays bus k + ahead bus k)) (ne_eqb i k apart) in
      let p : sample_at (bus.lengths i) * bus.shortest i ≡ sample_at (s.lengths i) * bus.shortest i = ap (λ l. sample_at l * bus.shortest i) (of.lengths i) in
      omega arith

  there_sender : (i k : ℕ) → i < s.count → k < s.count → i ≢ k → s.may_send k ≡ true → s.may_send i ≡ true
      → own_way bus s line of k i + 10 * bit_drift s k i ≤ sample_at (s.lengths i) * shared_quantum s i k
  there_sender i k ni nk apart may own =
      let h = late_there i k ni nk apart may in
      let x = trip_own i k in
      let w = way_there i k i ni own apart in
      let y = strays_there i k ni apart in
      let d = drift_is bus s line of k i in
      let one = of.delays i k ni nk in
      let two = of.delays k i nk ni in
      let sum : (s.delay i k + s.delay k i) * bus.tick ≡ s.delay i k * bus.tick + s.delay k i * bus.tick = omega arith in
      let way = own_is bus s line of k i own in
      let f =
      fits bus.tick (shared_tick s i k) (s.delay i k + s.delay k i) (bit_quanta (s.lengths k) * shared_quantum s k i) (bit_quanta (s.lengths i) * shared_quantum s i k)
      (bit_quanta (s.lengths k) * bus.longest k) (bit_quanta (s.lengths i) * bus.shortest i) (sample_at (s.lengths i) * bus.shortest i) (sample_at (s.lengths i) * shared_quantum s i k) 0 0
      of.some (quanta_there bus s line of i k (bit_quanta (s.lengths k)) nk) (quanta_low bus s line of i k (bit_quanta (s.lengths i)) ni) (quanta_low bus s line of i k (sample_at (s.lengths i)) ni)
      (omega arith) (omega arith) in
      omega arith

  -- over one sender, at a station that only receives
  there_over : (i k a : ℕ) → i < s.count → k < s.count → a < s.count → i ≢ k → s.may_send k ≡ true → s.may_send a ≡ true → a ≢ i → a ≢ k
      → following_way s i k a + 10 * bit_drift s k i ≤ sample_at (s.lengths i) * shared_quantum s i k
  there_over i k a ni nk na apart may sender own other =
      let h = late_there i k ni nk apart may in
      let x = trip_other i k a own in
      let w = way_there i k a na sender other in
      let y = strays_there i k ni apart in
      let d = drift_is bus s line of k i in
      let one = of.delays a k na nk in
      let two = of.delays k i nk ni in
      let three = of.delays a i na ni in
      let e = follows_other bus s line of i k a other in
      let detour = line.detours a k i na nk ni in
      let loop = line.later k k nk nk in
      let rest : s.delay a i + (s.delay a k + s.delay k i + 1 - s.delay a i) ≡ s.delay a k + s.delay k i + 1 = omega arith in
      let units : (s.delay a i + (s.delay a k + s.delay k i + 1 - s.delay a i)) * bus.tick ≡ (s.delay a k + s.delay k i + 1) * bus.tick = ap (λ n. n * bus.tick) rest in
      let parts : (s.delay a i + (s.delay a k + s.delay k i + 1 - s.delay a i)) * shared_tick s i k ≡ (s.delay a k + s.delay k i + 1) * shared_tick s i k = ap (λ n. n * shared_tick s i k) rest in
      let f =
      fits bus.tick (shared_tick s i k) (s.delay a k + s.delay k i + 1 - s.delay a i) (bit_quanta (s.lengths k) * shared_quantum s k i) (bit_quanta (s.lengths i) * shared_quantum s i k)
      (bit_quanta (s.lengths k) * bus.longest k) (bit_quanta (s.lengths i) * bus.shortest i) (sample_at (s.lengths i) * bus.shortest i) (sample_at (s.lengths i) * shared_quantum s i k)
      (shared_quantum s i k) (bus.longest i)
      of.some (quanta_there bus s line of i k (bit_quanta (s.lengths k)) nk) (quanta_low bus s line of i k (bit_quanta (s.lengths i)) ni) (quanta_low bus s line of i k (sample_at (s.lengths i)) ni)
      (let g = quanta_high bus s line of i k 1 ni in omega arith) (omega arith) in
      omega arith

  -- a bit that it follows is there at its sample
  there_own : (i k : ℕ) → i < s.count → k < s.count → i ≢ k → s.may_send k ≡ true → following_way s i k k + 10 * bit_drift s k i ≤ sample_at (s.lengths i) * shared_quantum s i k
  there_own i k ni nk apart may =
      let h = late_fits i k ni nk apart may in
      let e = follows_own bus s line of i k in
      let l = (line.book i ni).lengths in
      let a = l.prop_low in
      let b = l.sjw_ps1 in
      let c : (s.clocks k).den * (s.clocks i).den ≤ (s.clocks k).den * (s.clocks i).num = mul-le-mul_left (s.clocks k).den (line.steady i ni).not_fast in
      let far : ((s.lengths i).sjw + 2) * shared_quantum s i k ≤ sample_at (s.lengths i) * shared_quantum s i k = mul-le-mul_right (shared_quantum s i k) (omega arith) in
      omega arith

  there_each : (i k a : ℕ) → i < s.count → k < s.count → a < s.count → i ≢ k → s.may_send k ≡ true → s.may_send a ≡ true → a ≢ i
      → following_way s i k a ≤ sample_at (s.lengths i) * shared_quantum s i k - 10 * bit_drift s k i
  there_each i k a ni nk na apart may sender other = elim (cases_eq a k) [
    | inl own ↦ (let h = there_own i k ni nk apart may in let e : following_way s i k a ≡ following_way s i k k = ap (following_way s i k) own in omega arith)
    | inr third ↦ (let h = there_over i k a ni nk na apart may sender other third in omega arith)
  ]

  there_back : (i k : ℕ) → i < s.count → k < s.count → i ≢ k → s.may_send k ≡ true → own_way bus s line of k i + 10 * bit_drift s k i ≤ sample_at (s.lengths i) * shared_quantum s i k
  there_back i k ni nk apart may = elim (cases_Bool (s.may_send i)) [
    | inl own ↦ there_sender i k ni nk apart may own
    | inr none ↦ (let e = own_none bus s line of k i none in let small = there_own i k ni nk apart may in omega arith)
  ]

  there : (i k : ℕ) → i < s.count → k < s.count → i ≢ k → s.may_send k ≡ true → s.way i k + 10 * bit_drift s k i ≤ sample_at (s.lengths i) * shared_quantum s i k
  there i k ni nk apart may =
      let w = way_is bus s line of k i nk ni in
      let back = there_back i k ni nk apart may in
      let small = there_own i k ni nk apart may in
      let h = over_by bus s line of k i (sample_at (s.lengths i) * shared_quantum s i k - 10 * bit_drift s k i) (λ a na sender other. there_each i k a ni nk na apart may sender other) in
      omega arith

  loop : (i : ℕ) → i < s.count → s.may_send i ≡ true → (s.clocks i).den * s.delay i i ≤ sample_at (s.lengths i) * (s.clocks i).num
  unfolding left_of right_of
  loop i ni may =
      let h : cond (i == i) (bus.delay i i + bus.turns i) (late bus i i + 11 * strays bus i + ahead bus i) ≤ sample_at (bus.lengths i) * bus.shortest i =
      sound.bit_is_there_at_sample i i (inside bus s line of i ni) (inside bus s line of i ni) (or_not (i == i) (bus.listens i) (of.answers i ni may)) in
      let e = ap (λ c. cond c (bus.delay i i + bus.turns i) (late bus i i + 11 * strays bus i + ahead bus i)) (eq-eqb i i refl) in
      loop_by bus s line of i ni (omega arith)

  pub has_room : HaveRoom s
  has_room = record { early_fits = early_fits; samples = record { late_fits = late_fits; is_there = there; loops = loop; not_early = not_early } }
