-- What a bus has to have for acknowledgements, wherever within its tolerance each clock lies. This project's.
use Rattle.std.specs.Prelude.{◌≡◌, ◌≢◌, ℕ, suc, ◌+◌, ◌-◌, ◌*◌, ◌<◌, ◌≤◌, true, if◌then◌else◌}
use Rattle.wl_segments.specs.Lengths.{sample_at}
use Rattle.wl_topology.specs.Driven.{any_below}
use Rattle.wl_bound.specs.Families.{Bus}
use Rattle.wl_bound.specs.Rooms.{left_over}
use Rattle.wl_bound.specs.Terms.{drift, jump, look, sends_third}

-- how much later a bit of node i gets for node k while k catches up with the winner, which is a third node, in so many edges
abbrev pub gathered : Bus → (chase : ℕ → ℕ) → (i k : ℕ) → ℕ
gathered bus chase i k = if any_below bus.nodes (sends_third bus i k) then chase k * (10 * drift bus i k + ((bus.lengths i).sjw * bus.longest i - jump bus k)) else 0

-- The inequalities of the condition for margins, of any two nodes, as if each of them sent: there and back, a look, what gathers, and what one edge doesn't put right.
pub record HasRoomToAnswer (bus : Bus) (chase : ℕ → ℕ) : Type 0 where
  pub catches : (k w : ℕ) → k < bus.nodes → w < bus.nodes → k ≢ w → bus.sends w ≡ true
      → bus.delay k w + bus.delay w k + look bus k + (bus.longest w - bus.delay w w) ≤ suc (chase k) * (jump bus k - 10 * drift bus w k) + bus.shortest k
  pub drift_fits_both : (i k : ℕ) → i < bus.nodes → k < bus.nodes → i ≢ k → 10 * drift bus k i ≤ jump bus i
  pub bit_is_there_at_sample : (i k : ℕ) → i < bus.nodes → k < bus.nodes → i ≢ k
      → bus.delay i k + bus.delay k i + look bus i + gathered bus chase k i + left_over bus (gathered bus chase) k + 10 * drift bus k i ≤ sample_at (bus.lengths i) * bus.shortest i
  pub loop_is_there : (i : ℕ) → i < bus.nodes → bus.delay i i ≤ sample_at (bus.lengths i) * bus.shortest i
  pub no_bit_too_early : (i k : ℕ) → i < bus.nodes → k < bus.nodes → i ≢ k
      → look bus k + gathered bus chase i k + left_over bus (gathered bus chase) i + 10 * drift bus i k + bus.tick ≤ (bus.lengths i).ps2 * bus.shortest i
