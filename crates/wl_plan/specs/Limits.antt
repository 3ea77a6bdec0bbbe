-- The wide limits of a plan (this project's profile), each that of the constant of its name.
use Rattle.std.specs.Prelude.{◌≡◌, ℕ, refl}
use Rattle.wl_plan.specs.declared.limits.TheConstants.{LATEST_END, MOST_QUANTA, MOST_SHORT_QUANTA, MOST_QUEUED, FEW_QUEUED, MOST_DISTURBANCES}
-- the most quanta for which a node is said to keep its drive
pub use Rattle.wl_node.specs.Limits.{most_quiet-is}
unfoldable pub use Rattle.wl_node.specs.Limits.{most_quiet}

-- the latest tick at which a plan or a disturbance may end
abbrev pub latest_end : ℕ
latest_end = LATEST_END

-- the most quanta of a node before the end of a plan
unfoldable pub most_quanta : ℕ
most_quanta = MOST_QUANTA

-- the most quanta of a node that may sample every third quantum
unfoldable pub most_short_quanta : ℕ
most_short_quanta = MOST_SHORT_QUANTA

-- the most frames that wait at a node
abbrev pub most_queued : ℕ
most_queued = MOST_QUEUED

-- the most frames that wait at a node of a plan that is checked without limits
abbrev pub few_queued : ℕ
few_queued = FEW_QUEUED

-- the most disturbances of a plan
abbrev pub most_disturbances : ℕ
most_disturbances = MOST_DISTURBANCES

-- what the names that don't unfold stand for, for proofs
pub most_quanta-is : most_quanta ≡ MOST_QUANTA
unfolding most_quanta
most_quanta-is = refl

pub most_short_quanta-is : most_short_quanta ≡ MOST_SHORT_QUANTA
unfolding most_short_quanta
most_short_quanta-is = refl
