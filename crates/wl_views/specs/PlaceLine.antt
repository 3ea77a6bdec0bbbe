-- The line at a node's place, from one tick up to another: what stays needn't be asked for at the ticks in between (this project's profile).
use Rattle.std.specs.Prelude.{◌≡◌, ℕ, ◌<◌, ◌≤◌, min, Bool, false, List, length, slice_index_or}
use Rattle.wl_plan.specs.declared.plan.Plan.{Plan}
use Rattle.wl_plan.specs.PlanLine.{disturbed}
use Rattle.wl_serial.specs.LineAt.{comes}
use Rattle.wl_pulse.specs.declared.pulse.Pulse.{Pulse}
use Rattle.wl_views.specs.declared.place_line.PlaceLine.{PlaceLine}
use Rattle.wl_views.specs.Signals.{driven_at}

-- from tick t up to another one a value is this one
pub record Lasts (f : ℕ → Bool) (t : ℕ) (held : Pulse) : Type 0 where
  pub later : t < held.until
  pub same : (u : ℕ) → t ≤ u → u < held.until → f u ≡ held.dominant

-- up to when cable and disturbances stay
abbrev pub heard_until : PlaceLine → ℕ
heard_until l = min l.cable.until l.disturbance.until

abbrev pub not_held : Pulse
not_held = record { from = 0; until = 0; dominant = false }

-- of each node what is known of that, where it hasn't run out at tick t
abbrev pub Comes : Plan → ℕ → ℕ → List Pulse → Type 0
Comes plan j t all = (i : ℕ) → i < length plan.nodes → t < (slice_index_or all i not_held).until → Lasts (comes plan i j) t (slice_index_or all i not_held)

-- from tick t on cable and disturbances are these
pub record Hears (plan : Plan) (i t : ℕ) (l : PlaceLine) : Type 0 where
  pub cable : Lasts (driven_at plan i) t l.cable
  pub disturbance : Lasts (disturbed plan i) t l.disturbance
  pub sources : Comes plan i t l.sources

-- and so is that of them which hasn't run out at tick t
pub record Remembers (plan : Plan) (i t : ℕ) (l : PlaceLine) : Type 0 where
  pub cable : t < l.cable.until → Lasts (driven_at plan i) t l.cable
  pub disturbance : t < l.disturbance.until → Lasts (disturbed plan i) t l.disturbance
  pub sources : Comes plan i t l.sources
