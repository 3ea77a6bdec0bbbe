-- The times of a bus, wherever within its tolerance each clock lies. This project's.
use Rattle.std.specs.Prelude.{ℕ, suc, ◌+◌, ◌-◌, ◌*◌, ◌==◌, not, max, true, if◌then◌else◌}
use Rattle.wl_segments.specs.Lengths.{bit_quanta, sample_at}
use Rattle.wl_bound.specs.declared.times.BusTimes.{BusTimes}
use Rattle.wl_bound.specs.Families.{Bus}
use Rattle.wl_bound.specs.Terms.{greatest, sends_but}

-- the longest bit of any node, and the longest time from place 0 to the sample
abbrev pub greatest_bit : Bus → ℕ
greatest_bit bus = greatest bus.nodes (λ i. true) (λ i. bit_quanta (bus.lengths i) * bus.longest i)

abbrev pub greatest_sample : Bus → ℕ
greatest_sample bus = greatest bus.nodes (λ i. true) (λ i. sample_at (bus.lengths i) * bus.longest i)

-- How long after its own the bit of node i may reach node k: there and back, or over the edge of node a that k follows (as `bus_way`, in units).
abbrev pub following_time : Bus → (k i a : ℕ) → ℕ
following_time bus k i a = if a == i then bus.longest k + bus.tick else bus.delay a i + bus.delay i k + bus.longest k + bus.tick - bus.delay a k

abbrev pub way_time : Bus → (k i : ℕ) → ℕ
way_time bus k i = max (if bus.sends k then bus.delay k i + bus.delay i k else 0) (greatest bus.nodes (sends_but bus k) (following_time bus k i))

-- so much later than the bit of node k that of node i may begin
abbrev pub lag_time : Bus → (k i : ℕ) → ℕ
lag_time bus k i = way_time bus k i - bus.delay i k

abbrev pub greatest_lag : Bus → (k : ℕ) → ℕ
greatest_lag bus k = greatest bus.nodes (λ i. not (i == k)) (lag_time bus k)

-- what a frame takes beyond its bits: a lag to another node, or a jump of its sender by the acknowledgement (Bosch CAN 2.0 part B, section 10)
abbrev pub greatest_shift : Bus → ℕ
greatest_shift bus = greatest bus.nodes bus.sends (λ k. max (greatest_lag bus k) ((bus.lengths k).sjw * bus.longest k))

-- the longest way of a level from node i to another one
abbrev pub greatest_delay : Bus → (i : ℕ) → ℕ
greatest_delay bus i = greatest bus.nodes (λ k. not (k == i)) (bus.delay i)

-- A node samples once a bit: longer before a start of frame reaches it than this it hasn't sampled last, a quantum less than a bit and the way.
abbrev pub greatest_lead : Bus → ℕ
greatest_lead bus = suc (greatest bus.nodes (λ i. true) (λ i. (bit_quanta (bus.lengths i) - 1) * bus.longest i + greatest_delay bus i))

-- the longest PHASE_SEG2
abbrev pub greatest_wake : Bus → ℕ
greatest_wake bus = greatest bus.nodes (λ i. true) (λ i. (bus.lengths i).ps2 * bus.longest i)

-- all of them
abbrev pub times_of : Bus → BusTimes
times_of bus = record {
  bit = greatest_bit bus;
  sample = greatest_sample bus;
  shift = greatest_shift bus;
  lead = greatest_lead bus;
  wake = greatest_wake bus;
}
