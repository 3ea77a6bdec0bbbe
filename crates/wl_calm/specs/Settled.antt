-- When a run has settled, as it is kept (this project's profile).
use Rattle.std.specs.Prelude.{◌≡◌, ℕ, ◌<◌, length, Option, Some, None}
use Rattle.std.specs.Option.{IsSome}
use Rattle.wl_plan.specs.declared.plan.Plan.{Plan}
use Rattle.wl_calm.specs.declared.settled.Settled.{Settled}
use Rattle.wl_calm.specs.declared.settled.Settled.TheVariants.{At, Unfit}
use Rattle.wl_onward.specs.Fits.{fit_since}
use Rattle.wl_onward.specs.Silences.{AreFit, settled_at, settled_for}

abbrev pub IsSettledNode : Plan → ℕ → Option ℕ → Type 0
IsSettledNode plan i None = fit_since plan i ≡ None
IsSettledNode plan i (Some at) = IsSome (fit_since plan i) × (at ≡ settled_for plan i)

abbrev pub IsSettled : Plan → Settled → Type 0
IsSettled plan (At settled) = AreFit plan (length plan.nodes) × (settled ≡ settled_at plan)
IsSettled plan (Unfit i) = (i < length plan.nodes) × (fit_since plan i ≡ None) × AreFit plan i
