-- A bus with one sender as one of those of the condition for margins.
use Rattle.std.specs.Prelude.{◌≡◌, ℕ, ◌+◌, ◌*◌, ◌<◌, ◌≤◌, ◌==◌, false}
use Rattle.wl_bound.specs.Families.{Bus}
use Rattle.wl_buses.specs.OneSender.OneSender.{SenderBus, lengths_of}
use Rattle.wl_buses.specs.OneSender.Tolerances.{Tolerance}

-- Its nodes, tolerances and delays are these, in the same units. This node alone sends, and none only listens.
pub record IsBoundOf (bus : Bus) (t : Tolerance) (b : SenderBus) : Type 0 where
  pub nodes : bus.nodes ≡ b.line.nodes
  pub tick : bus.tick ≡ t.units
  pub shortest : (i : ℕ) → bus.shortest i ≡ t.shortest i
  pub longest : (i : ℕ) → bus.longest i ≡ t.longest i
  pub order : (i : ℕ) → i < b.line.nodes → t.shortest i ≤ t.longest i
  pub lengths : (i : ℕ) → bus.lengths i ≡ lengths_of b i
  pub delays : (i j : ℕ) → i < b.line.nodes → j < b.line.nodes → bus.delay i j ≡ b.line.delay i j * t.units
  pub alone : (i : ℕ) → bus.sends i ≡ (i == b.sender)
  pub answers : (i : ℕ) → i < b.line.nodes → bus.listens i ≡ false
  -- a way over a third node is longer by that one's own loop at least
  pub loops : (i j k : ℕ) → i < b.line.nodes → j < b.line.nodes → k < b.line.nodes → b.line.delay i k + b.line.delay j j ≤ b.line.delay i j + b.line.delay j k
