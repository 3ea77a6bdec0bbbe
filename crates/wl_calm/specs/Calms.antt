-- Whether a run has a silence (this project's profile).
use Rattle.std.specs.Prelude.{◌≡◌, ℕ, ◌<◌, ◌≤◌, length, None}
use Rattle.wl_plan.specs.declared.plan.Plan.{Plan}
use Rattle.wl_calm.specs.declared.calm.Calm.{Calm}
use Rattle.wl_calm.specs.declared.calm.Calm.TheVariants.{Busy, Silent, Unfit}
use Rattle.wl_onward.specs.Fits.{fit_since}
use Rattle.wl_onward.specs.Silences.{AreFit, ShowsSilence}

-- The first silence of a run; the first node that isn't on the bus and error active at the end; or all are, and there is no silence.
abbrev pub IsCalm : Plan → Calm → Type 0
IsCalm plan (Silent from) = AreFit plan (length plan.nodes) × ShowsSilence plan from × ((t : ℕ) → ShowsSilence plan t → from ≤ t)
IsCalm plan (Unfit i) = (i < length plan.nodes) × (fit_since plan i ≡ None) × AreFit plan i
IsCalm plan Busy = AreFit plan (length plan.nodes) × ((t : ℕ) → ShowsSilence plan t → ⊥)
