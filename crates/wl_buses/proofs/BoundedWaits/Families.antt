-- Delays of a bus are those of its stations, and waits in units are waits in quanta.
use Rattle.std.proofs.Common.{◌≡◌, ◌∙◌, sym, ap, subst, inl, inr, ℕ, suc, ◌+◌, ◌-◌, ◌*◌, ◌<◌, ◌≤◌, arith}
use Rattle.std.proofs.lemmas.Bool.{cases_lt}
use Rattle.std.proofs.Math.Nat.{le_of_mul-le-mul_left, lt_of_mul-lt-mul_right, mul-le-mul_left, mul-le-mul_right}
use Rattle.wl_segments.specs.Lengths.{bit_quanta}
use Rattle.wl_bound.specs.Families.{Bus}
use Rattle.wl_plan.specs.declared.plan.Plan.{Plan}
use Rattle.wl_buses.specs.OneFrame.Bounds.{HasStations}
use Rattle.wl_buses.proofs.OneFrame.Bounded.{inside}
use Rattle.wl_buses.specs.OneFrame.Stations.{AreOnALine, Stations}
use Rattle.wl_buses.specs.CleanPlans.Clean.{AllGetThrough}
use Rattle.wl_buses.specs.CleanPlans.PlanFrames.{FramesOfPlan}
use Rattle.wl_buses.specs.FrameTimes.Times.{Times}
use Rattle.wl_buses.specs.BoundedWaits.Bounds.{PassInTime, WaitInQuanta, WaitNoLonger, ready_quantum, sent_quantum}
use Rattle.wl_buses.specs.BoundedWaits.Messages.{BusDelaysNoLonger, DelayNoLonger, Delays, Messages}

-- a number of quanta, by the slowest clock
slow : (u num den long many : ℕ) → u * num ≤ long * den → u * (many * num) ≤ many * long * den
slow u num den long many h = (let m : many * (u * num) ≤ many * (long * den) = mul-le-mul_left many h in omega arith)

strict : (u a b x den : ℕ) → 0 < den → u ≤ a * den → a + b < x → u + b * den < x * den
strict u a b x den some h less =
    let m : suc (a + b) * den ≤ x * den = mul-le-mul_right den less in
    omega arith

module _ (bus : Bus) (s : Stations) (t : Times) (line : AreOnALine s) (of : HasStations bus s) (unit : t.unit ≡ bus.tick) (ms : Messages) (d : Delays) (less : BusDelaysNoLonger bus ms d) where
  slowest : (i : ℕ) → i < s.count → t.unit * (s.clocks i).num ≤ bus.longest i * (s.clocks i).den
  slowest i h = subst (λ u. u * (s.clocks i).num ≤ bus.longest i * (s.clocks i).den) (sym unit) (of.slowest i h)

  quanta : (i many : ℕ) → i < s.count → t.unit * (many * (s.clocks i).num) ≤ many * bus.longest i * (s.clocks i).den
  quanta i many h = slow t.unit (s.clocks i).num (s.clocks i).den (bus.longest i) many (slowest i h)

  bits : (i : ℕ) → bit_quanta (bus.lengths i) ≡ bit_quanta (s.lengths i)
  bits i = ap bit_quanta (of.lengths i)

  bits_less : (i : ℕ) → i < s.count → t.unit * ((bit_quanta (s.lengths i) - 1) * (s.clocks i).num) ≤ (bit_quanta (bus.lengths i) - 1) * bus.longest i * (s.clocks i).den
  bits_less i h = subst (λ b. t.unit * ((b - 1) * (s.clocks i).num) ≤ (bit_quanta (bus.lengths i) - 1) * bus.longest i * (s.clocks i).den) (bits i) (quanta i (bit_quanta (bus.lengths i) - 1) h)

  pub delays_of : DelayNoLonger s t ms d
  delays_of = record {
    own = λ i h.
        (let m = strict (t.unit * ((bit_quanta (s.lengths i) - 1) * (s.clocks i).num)) ((bit_quanta (bus.lengths i) - 1) * bus.longest i) 0 d.lead (s.clocks i).den (line.steady i h).divides (bits_less i h)
        (let l = less.own i (inside bus s line of i h) in omega arith) in
        omega arith);
    others = λ i k h there apart.
        (let m = strict (t.unit * ((bit_quanta (s.lengths i) - 1) * (s.clocks i).num)) ((bit_quanta (bus.lengths i) - 1) * bus.longest i) (bus.delay i k) d.lead (s.clocks i).den (line.steady i h).divides
        (bits_less i h) (less.others i k (inside bus s line of i h) (inside bus s line of k there) apart) in
        let e : t.unit * s.delay i k ≡ bus.delay i k = ap (λ u. u * s.delay i k) unit ∙ (let f : bus.tick * s.delay i k ≡ s.delay i k * bus.tick = omega arith in f) ∙ sym (of.delays i k h there) in
        let g : t.unit * s.delay i k * (s.clocks i).den ≡ bus.delay i k * (s.clocks i).den = ap (λ y. y * (s.clocks i).den) e in
        omega arith);
    wakes = λ i h.
        (let q = quanta i (s.lengths i).ps2 h in
        let p : (bus.lengths i).ps2 * bus.longest i ≡ (s.lengths i).ps2 * bus.longest i = ap (λ l. l.ps2 * bus.longest i) (of.lengths i) in
        let w = less.wakes i (inside bus s line of i h) in
        let m : (s.lengths i).ps2 * bus.longest i * (s.clocks i).den ≤ d.wake * (s.clocks i).den = mul-le-mul_right (s.clocks i).den (omega arith) in
        omega arith);
    positive = less.positive;
    periods = λ i e h node.
        (let p = less.periods i e (inside bus s line of i h) node in
        let fast = of.fastest i h in
        let m : d.period e * (s.clocks i).den ≤ (ms.every e * bus.shortest i) * (s.clocks i).den = mul-le-mul_right (s.clocks i).den p in
        let n : ms.every e * (bus.shortest i * (s.clocks i).den) ≤ ms.every e * (bus.tick * (s.clocks i).num) = mul-le-mul_left (ms.every e) fast in
        let f : bus.tick * (ms.every e * (s.clocks i).num) ≡ t.unit * (ms.every e * (s.clocks i).num) = ap (λ u. u * (ms.every e * (s.clocks i).num)) (sym unit) in
        omega arith);
  }

-- from units to quanta of the fastest clock
in_quanta : (u num den fast q p r : ℕ) → 0 < den → fast * den ≤ u * num → u * (q * num) ≤ u * (p * num) + r * den → q * fast ≤ p * fast + r
in_quanta u num den fast q p r some quick h = elim (cases_lt p q) [
  | inr none ↦ (let m : q * fast ≤ p * fast = mul-le-mul_right fast none in omega arith)
  | inl more ↦
      (let part : p + (q - p) ≡ q = omega arith in
      let sum : u * ((p + (q - p)) * num) ≡ u * (q * num) = ap (λ n. u * (n * num)) part in
      let rest : (q - p) * (u * num) ≤ r * den = omega arith in
      let up : (q - p) * (fast * den) ≤ (q - p) * (u * num) = mul-le-mul_left (q - p) quick in
      let all : den * ((q - p) * fast) ≤ den * r = omega arith in
      let less = le_of_mul-le-mul_left all some in
      let whole : (p + (q - p)) * fast ≡ q * fast = ap (λ n. n * fast) part in
      omega arith)
]

module _ (bus_of : Bus) (plan : Plan) (s : Stations) (bus : FramesOfPlan plan s) (t : Times) (line : AreOnALine s) (of : HasStations bus_of s) (unit : t.unit ≡ bus_of.tick) (ms : Messages) (r : ℕ → ℕ)
    (wins : (n : ℕ) → n < bus.count → bus.by.winner n < s.count) (waits : WaitNoLonger plan s bus t ms r) where
  pub wait_in_quanta : WaitInQuanta plan s bus ms bus_of.shortest r
  wait_in_quanta n less =
      let i = bus.by.winner n in
      let inside = wins n less in
      in_quanta t.unit (s.clocks (bus.by.winner n)).num (s.clocks (bus.by.winner n)).den (bus_of.shortest (bus.by.winner n)) (sent_quantum plan s bus n) (ready_quantum plan s bus n)
      (r (ms.of (bus.by.winner n) (bus.by.content n))) (line.steady (bus.by.winner n) inside).divides
      (subst (λ u. bus_of.shortest (bus.by.winner n) * (s.clocks (bus.by.winner n)).den ≤ u * (s.clocks (bus.by.winner n)).num) (sym unit) (of.fastest (bus.by.winner n) inside)) (waits n less)

pub pass_in_time : (plan : Plan) (s : Stations) (all : AllGetThrough plan s) (ms : Messages) (shortest r : ℕ → ℕ) → ((n : ℕ) → n < all.bus.count → all.bus.by.winner n < s.count)
    → WaitInQuanta plan s all.bus ms shortest r → PassInTime plan s all ms shortest r
pass_in_time plan s all ms shortest r wins waits n k less inside late =
    let h = waits n less in
    let m : sent_quantum plan s all.bus n * shortest (all.bus.by.winner n) < k * shortest (all.bus.by.winner n) = omega arith in
    all.in_time (all.bus.by.winner n) k n (wins n less) inside less (lt_of_mul-lt-mul_right (shortest (all.bus.by.winner n)) m)
