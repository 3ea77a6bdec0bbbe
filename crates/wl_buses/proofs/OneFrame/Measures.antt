-- Ticks and instants of two stations in the parts of a tick that their clocks share.
use Rattle.std.proofs.Common.{◌≡◌, ap, ℕ, suc, ◌+◌, ◌*◌, ◌<◌, ◌≤◌, inl, inr, arith}
use Rattle.std.proofs.lemmas.Bool.{cases_lt}
use Rattle.std.proofs.Math.Nat.{mul-le-mul_left, lt_of_mul-lt-mul_left}
use Rattle.wl_phase.specs.Clocks.{steady_tick, instant}
use Rattle.wl_phase.proofs.Callers.{floor_low, floor_high, tick_up}
use Rattle.wl_segments.specs.Lengths.{bit_quanta}
use Rattle.wl_buses.specs.OneFrame.Stations.{Stations, AreStations, ReachesBy, bit_drift, shared_tick, shared_quantum, shared_instant}

module _ (s : Stations) (are : AreStations s) (i k : ℕ) (inside : i < s.count) (there : k < s.count) where
  abbrev T : ℕ
  T = shared_tick s i k

  pub same_tick : shared_tick s k i ≡ shared_tick s i k
  same_tick = omega arith

  pub some_tick : 0 < T
  some_tick =
      let a = (are.line.steady i inside).divides in
      let b = (are.line.steady k there).divides in
      let m : (s.clocks i).den * 1 ≤ (s.clocks i).den * (s.clocks k).den = mul-le-mul_left (s.clocks i).den (let h : 1 ≤ (s.clocks k).den = omega arith in h) in
      omega arith

  pub instant_low : (n : ℕ) → T * steady_tick (s.clocks i) n ≤ shared_instant s i k n
  instant_low n =
      let low = floor_low (s.clocks i) n in
      let m : (s.clocks k).den * ((s.clocks i).den * steady_tick (s.clocks i) n) ≤ (s.clocks k).den * instant (s.clocks i) n = mul-le-mul_left (s.clocks k).den low in
      omega arith

  pub instant_high : (n : ℕ) → shared_instant s i k n < T * steady_tick (s.clocks i) n + T
  instant_high n =
      let high = floor_high (s.clocks i) n (are.line.steady i inside).divides in
      let m : (s.clocks k).den * suc (instant (s.clocks i) n) ≤ (s.clocks k).den * ((s.clocks i).den * steady_tick (s.clocks i) n + (s.clocks i).den) = mul-le-mul_left (s.clocks k).den high in
      let d = (are.line.steady k there).divides in
      omega arith

  pub instant_more : (n m : ℕ) → shared_instant s i k (n + m) ≡ shared_instant s i k n + m * shared_quantum s i k
  instant_more n m = omega arith

  -- a quantum that begins before a tick, and one that begins at it or later
  pub before_tick : (n t : ℕ) → steady_tick (s.clocks i) n < t → shared_instant s i k n < T * t
  before_tick n t h =
      let high = instant_high n in
      let m : T * suc (steady_tick (s.clocks i) n) ≤ T * t = mul-le-mul_left T h in
      omega arith

  pub from_tick : (n t : ℕ) → t ≤ steady_tick (s.clocks i) n → T * t ≤ shared_instant s i k n
  from_tick n t h =
      let low = instant_low n in
      let m : T * t ≤ T * steady_tick (s.clocks i) n = mul-le-mul_left T h in
      omega arith

-- of two stations, in ticks, with so many ticks between them
module _ (s : Stations) (are : AreStations s) (i k : ℕ) (inside : i < s.count) (there : k < s.count) where
  -- in whole ticks from exact instants
  pub ticks_before : (n p d : ℕ) → shared_instant s i k n + shared_tick s i k ≤ shared_instant s k i p + d * shared_tick s i k
      → steady_tick (s.clocks i) n < steady_tick (s.clocks k) p + d
  ticks_before n p d h =
      let low = instant_low s are i k inside there n in
      let high = instant_high s are k i there inside p in
      let same = same_tick s are i k inside there in
      let e : shared_tick s k i * steady_tick (s.clocks k) p ≡ shared_tick s i k * steady_tick (s.clocks k) p = ap (λ t. t * steady_tick (s.clocks k) p) same in
      let m : shared_tick s i k * suc (steady_tick (s.clocks i) n) < shared_tick s i k * suc (steady_tick (s.clocks k) p + d) = omega arith in
      let less = lt_of_mul-lt-mul_left (shared_tick s i k) m in
      omega arith

  pub ticks_by : (n p d : ℕ) → shared_instant s i k n < shared_instant s k i p + d * shared_tick s i k
      → steady_tick (s.clocks i) n ≤ steady_tick (s.clocks k) p + d
  ticks_by n p d h =
      let low = instant_low s are i k inside there n in
      let high = instant_high s are k i there inside p in
      let same = same_tick s are i k inside there in
      let e : shared_tick s k i * steady_tick (s.clocks k) p ≡ shared_tick s i k * steady_tick (s.clocks k) p = ap (λ t. t * steady_tick (s.clocks k) p) same in
      let m : shared_tick s i k * steady_tick (s.clocks i) n < shared_tick s i k * suc (steady_tick (s.clocks k) p + d) = omega arith in
      let less = lt_of_mul-lt-mul_left (shared_tick s i k) m in
      omega arith

  -- the other way round
  pub reaches_by : (p n d : ℕ) → shared_instant s k i p + d * shared_tick s i k ≤ shared_instant s i k n
      → steady_tick (s.clocks k) p + d ≤ steady_tick (s.clocks i) n
  reaches_by p n d h = elim (cases_lt (steady_tick (s.clocks i) n) (steady_tick (s.clocks k) p + d)) [
    | inl less ↦
        (let before = before_tick s are i k inside there n (steady_tick (s.clocks k) p + d) less in
        let low = instant_low s are k i there inside p in
        let same = same_tick s are i k inside there in
        let e : shared_tick s k i * steady_tick (s.clocks k) p ≡ shared_tick s i k * steady_tick (s.clocks k) p = ap (λ t. t * steady_tick (s.clocks k) p) same in
        let f : shared_tick s i k * (steady_tick (s.clocks k) p + d) ≡ shared_tick s i k * steady_tick (s.clocks k) p + d * shared_tick s i k = omega arith in
        absurd (omega arith))
    | inr more ↦ more
  ]

  pub exact_before : (n p d : ℕ) → steady_tick (s.clocks i) n < steady_tick (s.clocks k) p + d
      → shared_instant s i k n < shared_instant s k i p + d * shared_tick s i k
  exact_before n p d h =
      let before = before_tick s are i k inside there n (steady_tick (s.clocks k) p + d) h in
      let low = instant_low s are k i there inside p in
      let same = same_tick s are i k inside there in
      let e : shared_tick s k i * steady_tick (s.clocks k) p ≡ shared_tick s i k * steady_tick (s.clocks k) p = ap (λ t. t * steady_tick (s.clocks k) p) same in
      let f : shared_tick s i k * (steady_tick (s.clocks k) p + d) ≡ shared_tick s i k * steady_tick (s.clocks k) p + d * shared_tick s i k = omega arith in
      omega arith

-- later quanta begin no earlier
pub tick_next : (s : Stations) (are : AreStations s) (i : ℕ) → i < s.count → (n m : ℕ) → n ≤ m → steady_tick (s.clocks i) n ≤ steady_tick (s.clocks i) m
tick_next s are i inside n m h = tick_up (s.clocks i) (are.line.steady i inside).divides n m h

-- a bit later
pub drifted : (s : Stations) (since i k n p : ℕ) → ReachesBy s since i k n p
    → ReachesBy s (suc since) i k (n + bit_quanta (s.lengths i)) (p + bit_quanta (s.lengths k))
drifted s since i k n p h =
    let own : shared_instant s i k (n + bit_quanta (s.lengths i)) ≡ shared_instant s i k n + bit_quanta (s.lengths i) * shared_quantum s i k = omega arith in
    let other : shared_instant s k i (p + bit_quanta (s.lengths k)) ≡ shared_instant s k i p + bit_quanta (s.lengths k) * shared_quantum s k i = omega arith in
    let one : suc since * bit_drift s i k ≡ since * bit_drift s i k + bit_drift s i k = omega arith in
    omega arith
