-- What is kept of a node that runs again, sample by sample (this project's profile).
use Rattle.std.specs.Prelude.{◌≡◌, ℕ, List}
use Rattle.wl_level.specs.declared.Level.{Level}
use Rattle.wl_confine.specs.Counts.{counts_of, mode_of}
use Rattle.wl_node.specs.declared.setup.NodeSetup.{NodeSetup}
use Rattle.wl_trace.specs.Replay.{IsWatchedNode}
use Rattle.wl_calm.specs.declared.fit.Fit.{Fit}
use Rattle.wl_onward.specs.Fits.{fit_by, is_active}

-- that is kept of a node of this setup after these samples
pub record IsFit (setup : NodeSetup) (samples : List (ℕ × Level)) (kept : Fit) : Type 0 where
  pub node : IsWatchedNode setup kept.node (fit_by setup samples).0
  pub active : kept.active ≡ is_active (mode_of (counts_of (fit_by setup samples).0.happened))
  pub since : kept.since ≡ (fit_by setup samples).1
