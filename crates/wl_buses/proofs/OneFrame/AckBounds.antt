-- From what a bus has for acknowledgements, in units, to the inequalities of stations, in the parts of a tick that two clocks share.
use Rattle.std.proofs.Common.{◌≡◌, ◌≢◌, ◌∙◌, inl, inr, refl, sym, ap, subst, ℕ, zero, suc, ◌+◌, ◌-◌, ◌*◌, ◌<◌, ◌≤◌, max, Bool, true, false, cond, not, ◌&&◌, ◌||◌, arith}
use Rattle.std.specs.Prelude.{◌==◌}
use Rattle.std.proofs.lemmas.Bool.{and_from, cases_eq, cases_lt, cases_Bool, eq-eqb, ne_eqb, or_left, or_right}
use Rattle.std.specs.Int.{div_ceil}
use Rattle.std.proofs.lemmas.Grind.{div_ceil_times}
use Rattle.std.proofs.Math.Nat.{mul-le-mul_left, le_of_mul-le-mul_left, lt_of_mul-lt-mul_left, lt_of_mul-lt-mul_right}
use Rattle.wl_buses.proofs.BothProofs.Small.{distinct, greatest_each}
use Rattle.wl_segments.specs.Lengths.{sample_at, bit_quanta}
use Rattle.wl_topology.specs.Driven.{any_below}
use Rattle.wl_topology.proofs.Callers.{any_from}
use Rattle.wl_bound.specs.Families.{Bus}
use Rattle.wl_bound.specs.Rooms.{beyond_jump, left_over}
use Rattle.wl_bound.specs.Terms.{drift, greatest, jump, look, sends_third}
use Rattle.wl_buses.specs.OneFrame.Acknowledged.{CatchUp, answering, any_way, chased_way, gathered_way, gathers, jump_gap, most_overrun, overrun}
use Rattle.wl_buses.proofs.OneFrame.AckWays.{gathered_stations, gathers_is}
use Rattle.wl_buses.proofs.OneFrame.Measures.{some_tick}
use Rattle.wl_buses.specs.OneFrame.Answers.{HasRoomToAnswer, gathered}
use Rattle.wl_buses.specs.OneFrame.Bounds.{HasStations}
use Rattle.wl_buses.specs.OneFrame.Stations.{AreOnALine, HaveRoomToSample, Stations, bit_drift, shared_quantum, shared_tick}
use Rattle.wl_buses.proofs.OneFrame.Bounded.{drift_is, fits, follows_by, inside, jump_is, look_high, loop_by, over_by, own_is, own_none, quanta_back, quanta_high, quanta_low, quanta_there, way_is}

-- a difference, in other parts
pub less : (u m X Y XX YY : ℕ) → (u * X ≤ m * XX) × (m * YY ≤ u * Y) → u * (X - Y) ≤ m * (XX - YY)
less u m X Y XX YY h = elim (cases_lt Y X) [
  | inl more ↦
      (let high = h.0 in
      let low = h.1 in
      let part : Y + (X - Y) ≡ X = omega arith in
      let all : u * (Y + (X - Y)) ≡ u * X = ap (λ n. u * n) part in
      let n : m * XX ≤ m * (YY + (XX - YY)) = mul-le-mul_left m (omega arith) in
      omega arith)
  | inr none ↦ (let e : X - Y ≡ 0 = omega arith in let f : u * (X - Y) ≡ u * 0 = ap (λ n. u * n) e in omega arith)
]

add : (u m a b c d : ℕ) → u * a ≤ m * c → u * b ≤ m * d → u * (a + b) ≤ m * (c + d)
add u m a b c d h k = omega arith

-- a greatest number, times another
bounded_times : (n : ℕ) (test : ℕ → Bool) (f : ℕ → ℕ) (u m : ℕ) → ((k : ℕ) → k < n → test k ≡ true → u * f k ≤ m) → u * greatest n test f ≤ m
bounded_times zero test f u m h = omega arith
bounded_times (suc n) test f u m h = both (test n) (greatest n test f) (f n) (bounded_times n test f u m (λ k below e. h k (omega arith) e)) (λ e. h n (omega arith) e)
  where
    both : (b : Bool) (x y : ℕ) → u * x ≤ m → (b ≡ true → u * y ≤ m) → u * max x (cond b y 0) ≤ m
    both false x y one two = (let e : max x 0 ≡ x = omega arith in subst (λ n. u * n ≤ m) (sym e) one)
    both true x y one two = elim (cases_lt x y) [
      | inl below ↦ (let e : max x y ≡ y = omega arith in subst (λ n. u * n ≤ m) (sym e) (two refl))
      | inr above ↦ (let e : max x y ≡ x = omega arith in subst (λ n. u * n ≤ m) (sym e) one)
    ]

-- a quotient, rounded up
scaled : (u m c parts units most : ℕ) → 0 < u → c * m < parts + m → u * parts ≤ m * units → units ≤ most → m * (u * c) < m * (most + u)
scaled u m c parts units most some upper high each =
    let wide : u * suc (c * m) ≤ u * (parts + m) = mul-le-mul_left u upper in
    let longer : m * units ≤ m * most = mul-le-mul_left m each in
    omega arith

-- What lacks is none, or so many whole ticks at most as the most that lacks in units, and a tick more. u units and m parts are as long.
rounds_up : (u m parts units most : ℕ) → 0 < u → 0 < m → u * parts ≤ m * units → units ≤ most → u * div_ceil parts m ≤ cond (most == 0) 0 (most + u)
rounds_up u m parts units zero some there high each =
    let none : units ≡ 0 = omega arith in
    let e : m * units ≡ m * 0 = ap (λ n. m * n) none in
    let nothing : u * parts ≤ u * 0 = omega arith in
    let empty = le_of_mul-le-mul_left nothing some in
    let upper = (div_ceil_times parts m there).1 in
    let all : div_ceil parts m * m < 1 * m = omega arith in
    let few = lt_of_mul-lt-mul_right m all in
    let f : div_ceil parts m ≡ 0 = omega arith in
    let g : u * div_ceil parts m ≡ u * 0 = ap (λ n. u * n) f in
    omega arith
rounds_up u m parts units (suc most) some there high each =
    rw (ne_eqb (suc most) 0 (λ e. cc))
    (let few : u * div_ceil parts m < suc most + u = lt_of_mul-lt-mul_left m (scaled u m (div_ceil parts m) parts units (suc most) some (div_ceil_times parts m there).1 high each) in
    omega arith)

module _ (bus : Bus) (s : Stations) (line : AreOnALine s) (of : HasStations bus s) (winner : ℕ) (wins : winner < s.count) (may_win : s.may_send winner ≡ true)
    (chase : ℕ → ℕ) (has : HasRoomToAnswer bus chase) where
  abbrev late : ℕ → ℕ → ℕ
  late = chased_way s winner chase

  pub drift_high : (i k : ℕ) → i < s.count → k < s.count → bus.tick * bit_drift s i k ≤ shared_tick s i k * drift bus i k
  drift_high i k ni nk =
      let d = drift_is bus s line of i k in
      let h =
      less bus.tick (shared_tick s i k) (bit_quanta (s.lengths i) * shared_quantum s i k) (bit_quanta (s.lengths k) * shared_quantum s k i)
      (bit_quanta (s.lengths i) * bus.longest i) (bit_quanta (s.lengths k) * bus.shortest k) (quanta_high bus s line of i k (bit_quanta (s.lengths i)) ni, quanta_back bus s line of i k (bit_quanta (s.lengths k)) nk) in
      let e : shared_tick s i k * drift bus i k ≡ shared_tick s i k * (bit_quanta (s.lengths i) * bus.longest i - bit_quanta (s.lengths k) * bus.shortest k) = ap (λ n. shared_tick s i k * n) d in
      omega arith

  gap_high : (i k : ℕ) → i < s.count → k < s.count → bus.tick * jump_gap s i k ≤ shared_tick s i k * ((bus.lengths i).sjw * bus.longest i - jump bus k)
  gap_high i k ni nk =
      let h =
      less bus.tick (shared_tick s i k) ((s.lengths i).sjw * shared_quantum s i k) ((s.lengths k).sjw * shared_quantum s k i)
      ((s.lengths i).sjw * bus.longest i) ((s.lengths k).sjw * bus.shortest k) (quanta_high bus s line of i k (s.lengths i).sjw ni, quanta_back bus s line of i k (s.lengths k).sjw nk) in
      let l : (bus.lengths i).sjw * bus.longest i ≡ (s.lengths i).sjw * bus.longest i = ap (λ l. l.sjw * bus.longest i) (of.lengths i) in
      let e : shared_tick s i k * ((bus.lengths i).sjw * bus.longest i - jump bus k) ≡ shared_tick s i k * ((s.lengths i).sjw * bus.longest i - (s.lengths k).sjw * bus.shortest k) =
      ap (λ n. shared_tick s i k * (n - jump bus k)) l ∙ ap (λ n. shared_tick s i k * ((s.lengths i).sjw * bus.longest i - n)) (jump_is bus s line of k) in
      omega arith

  shared_some : (i k : ℕ) → i < s.count → k < s.count → 0 < shared_tick s i k
  shared_some i k ni nk = some_tick (answering s (gathered_way s winner chase)) (gathered_stations s line winner chase) i k ni nk

  third_wins : (i k : ℕ) → i ≢ winner → k ≢ winner → any_below bus.nodes (sends_third bus i k) ≡ true
  third_wins i k apart other =
      any_from bus.nodes winner (sends_third bus i k) (inside bus s line of winner wins)
      (and_from (bus.sends winner && not (winner == i)) (not (winner == k)) (and_from (bus.sends winner) (not (winner == i)) (of.sends winner wins ∙ may_win) (ap not (ne_eqb winner i (λ e. apart (sym e))))) (ap not (ne_eqb winner k (λ e. other (sym e)))))

  gathered_third : (i k : ℕ) → i < s.count → k < s.count → i ≢ winner → k ≢ winner → bus.tick * gathers s winner chase k i ≤ shared_tick s i k * gathered bus chase i k
  gathered_third i k ni nk apart other =
      let d = drift_high i k ni nk in
      let g = gap_high i k ni nk in
      let m : chase k * (bus.tick * (10 * bit_drift s i k + jump_gap s i k)) ≤ chase k * (shared_tick s i k * (10 * drift bus i k + ((bus.lengths i).sjw * bus.longest i - jump bus k))) =
      mul-le-mul_left (chase k) (omega arith) in
      let e : bus.tick * gathers s winner chase k i ≡ bus.tick * (chase k * (10 * bit_drift s i k + jump_gap s i k)) = ap (λ n. bus.tick * n) (gathers_is s winner chase k i apart other) in
      let f : shared_tick s i k * gathered bus chase i k ≡ shared_tick s i k * (chase k * (10 * drift bus i k + ((bus.lengths i).sjw * bus.longest i - jump bus k))) =
      ap (λ b. shared_tick s i k * cond b (chase k * (10 * drift bus i k + ((bus.lengths i).sjw * bus.longest i - jump bus k))) 0) (third_wins i k apart other) in
      let x : bus.tick * (chase k * (10 * bit_drift s i k + jump_gap s i k)) ≤ shared_tick s i k * (chase k * (10 * drift bus i k + ((bus.lengths i).sjw * bus.longest i - jump bus k))) = omega arith in
      omega arith

  none_gathers : (i k : ℕ) → (i == winner || k == winner) ≡ true → bus.tick * gathers s winner chase k i ≤ shared_tick s i k * gathered bus chase i k
  none_gathers i k e =
      let f : bus.tick * gathers s winner chase k i ≡ bus.tick * 0 = ap (λ b. bus.tick * cond b 0 (chase k * (10 * bit_drift s i k + jump_gap s i k))) e in
      omega arith

  gathered_high : (i k : ℕ) → i < s.count → k < s.count → bus.tick * gathers s winner chase k i ≤ shared_tick s i k * gathered bus chase i k
  gathered_high i k ni nk = elim (cases_eq i winner) [
    | inl own ↦ none_gathers i k (or_left (i == winner) (k == winner) (eq-eqb i winner own))
    | inr apart ↦ elim (cases_eq k winner) [
      | inl theirs ↦ none_gathers i k (or_right (i == winner) (k == winner) (eq-eqb k winner theirs))
      | inr other ↦ gathered_third i k ni nk apart other
    ]
  ]

  -- a look and what gathers, in parts
  near : (i k : ℕ) → ℕ
  near i k = shared_quantum s k i + shared_tick s i k - s.delay k k * shared_tick s i k + gathers s winner chase k i

  near_high : (i k : ℕ) → i < s.count → k < s.count → bus.tick * near i k ≤ shared_tick s i k * (look bus k + gathered bus chase i k)
  unfolding near
  near_high i k ni nk =
      add bus.tick (shared_tick s i k) (shared_quantum s k i + shared_tick s i k - s.delay k k * shared_tick s i k) (gathers s winner chase k i) (look bus k) (gathered bus chase i k)
      (look_high bus s line of i k ni nk) (gathered_high i k ni nk)

  way_any : (i k : ℕ) → i < s.count → k < s.count → s.way k i ≤ any_way s k i
  way_any i k ni nk =
      let w = way_is bus s line of i k ni nk in
      let h = over_by bus s line of i k (any_way s k i) (λ a na sends apart. follows_by bus s line of i k a ni nk na) in
      elim (cases_Bool (s.may_send k)) [
        | inl may ↦ (let own = own_is bus s line of i k may in omega arith)
        | inr none ↦ (let own = own_none bus s line of i k none in omega arith)
      ]

  gathered_is_high : (i k : ℕ) → i < s.count → k < s.count → gathered_way s winner chase k i ≤ (s.delay k i + s.delay i k) * shared_tick s i k + near i k
  unfolding near
  gathered_is_high i k ni nk =
      sums (s.way k i) ((s.delay k i + s.delay i k) * shared_tick s i k) (shared_quantum s k i + shared_tick s i k - s.delay k k * shared_tick s i k) (gathers s winner chase k i) (way_any i k ni nk)
    where
      sums : (way a b c : ℕ) → way ≤ a + b → max (a + b) way + c ≤ a + (b + c)
      sums way a b c h = omega arith

  -- what a jump doesn't put right, of a pair of stations
  lack : (i k : ℕ) → ℕ
  lack i k = gathered_way s winner chase k i + 10 * bit_drift s i k - ((s.delay k i + s.delay i k) * shared_tick s i k + (s.lengths i).sjw * shared_quantum s i k)

  lack_high : (i k : ℕ) → i < s.count → k < s.count → bus.tick * lack i k ≤ shared_tick s i k * (10 * drift bus i k + look bus k + gathered bus chase i k - jump bus i)
  unfolding lack
  lack_high i k ni nk =
      let high = near_high i k ni nk in
      let d = drift_high i k ni nk in
      let low = quanta_low bus s line of i k (s.lengths i).sjw ni in
      let j : shared_tick s i k * jump bus i ≡ shared_tick s i k * ((s.lengths i).sjw * bus.shortest i) = ap (λ n. shared_tick s i k * n) (jump_is bus s line of i) in
      let way = gathered_is_high i k ni nk in
      let h =
      less bus.tick (shared_tick s i k) (near i k + 10 * bit_drift s i k) ((s.lengths i).sjw * shared_quantum s i k) (10 * drift bus i k + look bus k + gathered bus chase i k) (jump bus i)
      (omega arith, omega arith) in
      let smaller : lack i k ≤ near i k + 10 * bit_drift s i k - (s.lengths i).sjw * shared_quantum s i k = omega arith in
      let m : bus.tick * lack i k ≤ bus.tick * (near i k + 10 * bit_drift s i k - (s.lengths i).sjw * shared_quantum s i k) = mul-le-mul_left bus.tick smaller in
      omega arith

  over_each : (i k : ℕ) → i < s.count → k < s.count → i ≢ k → bus.tick * overrun s winner chase i k ≤ left_over bus (gathered bus chase) i
  unfolding left_over beyond_jump lack
  over_each i k ni nk apart =
      rounds_up bus.tick (shared_tick s i k) (lack i k) (10 * drift bus i k + look bus k + gathered bus chase i k - jump bus i)
      (greatest bus.nodes (λ a. not (a == i)) (λ a. 10 * drift bus i a + look bus a + gathered bus chase i a - jump bus i))
      of.some (shared_some i k ni nk) (lack_high i k ni nk)
      (greatest_each bus.nodes (λ a. not (a == i)) (λ a. 10 * drift bus i a + look bus a + gathered bus chase i a - jump bus i) k (inside bus s line of k nk) (ap not (ne_eqb k i (λ e. apart (sym e)))))

  over_high : (i : ℕ) → i < s.count → bus.tick * most_overrun s winner chase i ≤ left_over bus (gathered bus chase) i
  unfolding most_overrun
  over_high i ni = bounded_times s.count (λ k. not (k == i)) (overrun s winner chase i) bus.tick (left_over bus (gathered bus chase) i) (λ k nk other. over_each i k ni nk (λ e. distinct k i other (sym e)))

  -- all that, with what an edge leaves
  pub extra : (i k : ℕ) → ℕ
  extra i k = near i k + most_overrun s winner chase i * shared_tick s i k

  pub extra_high : (i k : ℕ) → i < s.count → k < s.count → bus.tick * extra i k ≤ shared_tick s i k * (look bus k + gathered bus chase i k + left_over bus (gathered bus chase) i)
  unfolding extra
  extra_high i k ni nk =
      let over : shared_tick s i k * (bus.tick * most_overrun s winner chase i) ≤ shared_tick s i k * left_over bus (gathered bus chase) i = mul-le-mul_left (shared_tick s i k) (over_high i ni) in
      add bus.tick (shared_tick s i k) (near i k) (most_overrun s winner chase i * shared_tick s i k) (look bus k + gathered bus chase i k) (left_over bus (gathered bus chase) i)
      (near_high i k ni nk) (omega arith)

  pub late_is : (i k : ℕ) → i < s.count → k < s.count → late k i ≤ (s.delay k i + s.delay i k) * shared_tick s i k + extra i k
  unfolding extra
  late_is i k ni nk = let h = gathered_is_high i k ni nk in omega arith

  late_fits : (i k : ℕ) → i < s.count → k < s.count → i ≢ k → 10 * bit_drift s k i ≤ (s.lengths i).sjw * shared_quantum s i k
  late_fits i k ni nk apart =
      let h = has.drift_fits_both i k (inside bus s line of i ni) (inside bus s line of k nk) apart in
      let d = drift_is bus s line of k i in
      let j = jump_is bus s line of i in
      let f =
      fits bus.tick (shared_tick s i k) 0 (bit_quanta (s.lengths k) * shared_quantum s k i) (bit_quanta (s.lengths i) * shared_quantum s i k)
      (bit_quanta (s.lengths k) * bus.longest k) (bit_quanta (s.lengths i) * bus.shortest i) ((s.lengths i).sjw * bus.shortest i) ((s.lengths i).sjw * shared_quantum s i k) 0 0
      of.some (quanta_there bus s line of i k (bit_quanta (s.lengths k)) nk) (quanta_low bus s line of i k (bit_quanta (s.lengths i)) ni) (quanta_low bus s line of i k (s.lengths i).sjw ni)
      (omega arith) (omega arith) in
      omega arith

  not_early : (i k : ℕ) → i < s.count → k < s.count → i ≢ k
      → late k i + 10 * bit_drift s i k + shared_tick s i k ≤ (s.delay k i + s.delay i k) * shared_tick s i k + (s.lengths i).ps2 * shared_quantum s i k
  not_early i k ni nk apart =
      let h = has.no_bit_too_early i k (inside bus s line of i ni) (inside bus s line of k nk) apart in
      let d = drift_is bus s line of i k in
      let p : (bus.lengths i).ps2 * bus.shortest i ≡ (s.lengths i).ps2 * bus.shortest i = ap (λ l. l.ps2 * bus.shortest i) (of.lengths i) in
      let way = late_is i k ni nk in
      let f =
      fits bus.tick (shared_tick s i k) 1 (bit_quanta (s.lengths i) * shared_quantum s i k) (bit_quanta (s.lengths k) * shared_quantum s k i)
      (bit_quanta (s.lengths i) * bus.longest i) (bit_quanta (s.lengths k) * bus.shortest k) ((s.lengths i).ps2 * bus.shortest i) ((s.lengths i).ps2 * shared_quantum s i k)
      (extra i k) (look bus k + gathered bus chase i k + left_over bus (gathered bus chase) i)
      of.some (quanta_high bus s line of i k (bit_quanta (s.lengths i)) ni) (quanta_back bus s line of i k (bit_quanta (s.lengths k)) nk) (quanta_low bus s line of i k (s.lengths i).ps2 ni)
      (extra_high i k ni nk) (omega arith) in
      omega arith

  is_there : (i k : ℕ) → i < s.count → k < s.count → i ≢ k → late i k + 10 * bit_drift s k i ≤ sample_at (s.lengths i) * shared_quantum s i k
  is_there i k ni nk apart =
      let h = has.bit_is_there_at_sample i k (inside bus s line of i ni) (inside bus s line of k nk) apart in
      let d = drift_is bus s line of k i in
      let p : sample_at (bus.lengths i) * bus.shortest i ≡ sample_at (s.lengths i) * bus.shortest i = ap (λ l. sample_at l * bus.shortest i) (of.lengths i) in
      let one = of.delays i k ni nk in
      let two = of.delays k i nk ni in
      let sum : (s.delay i k + s.delay k i) * bus.tick ≡ s.delay i k * bus.tick + s.delay k i * bus.tick = omega arith in
      let way = late_is k i nk ni in
      let f =
      fits bus.tick (shared_tick s k i) (s.delay i k + s.delay k i) (bit_quanta (s.lengths k) * shared_quantum s k i) (bit_quanta (s.lengths i) * shared_quantum s i k)
      (bit_quanta (s.lengths k) * bus.longest k) (bit_quanta (s.lengths i) * bus.shortest i) (sample_at (s.lengths i) * bus.shortest i) (sample_at (s.lengths i) * shared_quantum s i k)
      (extra k i) (look bus i + gathered bus chase k i + left_over bus (gathered bus chase) k)
      of.some (quanta_high bus s line of k i (bit_quanta (s.lengths k)) nk) (quanta_back bus s line of k i (bit_quanta (s.lengths i)) ni) (quanta_back bus s line of k i (sample_at (s.lengths i)) ni)
      (extra_high k i nk ni) (omega arith) in
      omega arith

  pub answers_room : HaveRoomToSample (answering s (chased_way s winner chase))
  answers_room = record {
    late_fits = λ i k ni nk apart may. late_fits i k ni nk apart;
    is_there = λ i k ni nk apart may. is_there i k ni nk apart;
    loops = λ i ni may. loop_by bus s line of i ni (has.loop_is_there i (inside bus s line of i ni));
    not_early = λ i k ni nk apart may. not_early i k ni nk apart;
  }

  -- each catches up with whoever wins
  gains : (w k : ℕ) → w < s.count → k < s.count → shared_tick s w k * (jump bus k - 10 * drift bus w k) ≤ bus.tick * ((s.lengths k).sjw * shared_quantum s k w - 10 * bit_drift s w k)
  gains w k nw nk =
      let j : shared_tick s w k * jump bus k ≡ shared_tick s w k * ((s.lengths k).sjw * bus.shortest k) = ap (λ n. shared_tick s w k * n) (jump_is bus s line of k) in
      let low = quanta_back bus s line of w k (s.lengths k).sjw nk in
      let d = drift_high w k nw nk in
      less (shared_tick s w k) bus.tick (jump bus k) (10 * drift bus w k) ((s.lengths k).sjw * shared_quantum s k w) (10 * bit_drift s w k) (omega arith, omega arith)

  short_high : (w k : ℕ) → w < s.count → bus.tick * (shared_quantum s w k - s.delay w w * shared_tick s w k) ≤ shared_tick s w k * (bus.longest w - bus.delay w w)
  short_high w k nw =
      let high = quanta_high bus s line of w k 1 nw in
      let loop : shared_tick s w k * bus.delay w w ≡ shared_tick s w k * (s.delay w w * bus.tick) = ap (λ n. shared_tick s w k * n) (of.delays w w nw nw) in
      less bus.tick (shared_tick s w k) (shared_quantum s w k) (s.delay w w * shared_tick s w k) (bus.longest w) (bus.delay w w) (omega arith, omega arith)

  pub catches_up : CatchUp s winner chase
  catches_up k nk apart =
      let w = winner in
      let nw = wins in
      let h = has.catches k w (inside bus s line of k nk) (inside bus s line of w nw) apart (of.sends w nw ∙ may_win) in
      let way = way_any w k nw nk in
      let seen = look_high bus s line of w k nw nk in
      let short = short_high w k nw in
      let gain = gains w k nw nk in
      let one = of.delays k w nk nw in
      let two = of.delays w k nw nk in
      let there : shared_tick s w k * (bus.delay k w + bus.delay w k) ≡ shared_tick s w k * (s.delay k w * bus.tick + s.delay w k * bus.tick) = ap (λ n. shared_tick s w k * (n + bus.delay w k)) one ∙ ap (λ n. shared_tick s w k * (s.delay k w * bus.tick + n)) two in
      let q = quanta_back bus s line of w k 1 nk in
      let units : shared_tick s w k * (bus.delay k w + bus.delay w k + look bus k + (bus.longest w - bus.delay w w)) ≤ shared_tick s w k * (suc (chase k) * (jump bus k - 10 * drift bus w k) + bus.shortest k) =
      mul-le-mul_left (shared_tick s w k) h in
      let times : suc (chase k) * (shared_tick s w k * (jump bus k - 10 * drift bus w k)) ≤ suc (chase k) * (bus.tick * ((s.lengths k).sjw * shared_quantum s k w - 10 * bit_drift s w k)) =
      mul-le-mul_left (suc (chase k)) gain in
      let all : bus.tick * (any_way s k w + (shared_quantum s w k - s.delay w w * shared_tick s w k))
      ≤ bus.tick * (suc (chase k) * ((s.lengths k).sjw * shared_quantum s k w - 10 * bit_drift s w k) + shared_quantum s k w) = omega arith in
      let enough = le_of_mul-le-mul_left all of.some in
      omega arith
