-- What goes by the version of a plan's text (this project's profile).
use Rattle.std.specs.Prelude.{ℕ, ◌==◌, ◌||◌, Bool, if◌then◌else◌}
use Rattle.wl_limits.specs.declared.Limits.{Limits}
use Rattle.wl_limits.specs.declared.Limits.TheVariants.{Narrow, Wide}
use Rattle.wl_limits.specs.Limits.{queue_limit}
use Rattle.wl_plan.specs.Limits.{few_queued}
use Rattle.wl_setup.specs.Limits.{first_version, version_of_rates, version_of_traffic, version_of_controllers}

-- nodes may have the segments of controllers
abbrev pub has_controllers : ℕ → Bool
has_controllers version = version == version_of_controllers

-- frames come again, nodes only listen and disturbances are at one node
abbrev pub has_traffic : ℕ → Bool
has_traffic version = (version == version_of_traffic) || has_controllers version

-- whether a version is known
abbrev pub is_known_version : ℕ → Bool
is_known_version version = (version == first_version) || ((version == version_of_rates) || has_traffic version)

-- the limits of a plan
abbrev pub limits_in : ℕ → Limits
limits_in version = if has_controllers version then Wide else Narrow

-- how many frames may wait at a node
abbrev pub queued_in : ℕ → ℕ
queued_in version = if has_traffic version then queue_limit (limits_in version) else few_queued
