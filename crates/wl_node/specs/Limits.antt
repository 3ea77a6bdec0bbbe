-- The limits of a node (this project's profile), each that of the constant of its name.
use Rattle.std.specs.Prelude.{◌≡◌, ℕ, refl}
use Rattle.wl_node.specs.declared.limits.TheConstants.{MOST_QUIET}
-- the most quanta that a node runs
pub use Rattle.wl_limits.specs.Limits.{most_run_quanta}

-- the most quanta for which a node is said to keep its drive
unfoldable pub most_quiet : ℕ
most_quiet = MOST_QUIET

-- what the name that doesn't unfold stands for, for proofs
pub most_quiet-is : most_quiet ≡ MOST_QUIET
unfolding most_quiet
most_quiet-is = refl
