-- What a search by halving asks of a bus that grew. This project's.
use Rattle.std.specs.Prelude.{ℕ, Bool}
use Rattle.wl_bound.specs.declared.search.Growth.{Growth}
use Rattle.wl_bound.specs.declared.search.Test.{Test}
use Rattle.wl_bound.specs.declared.search.Test.TheVariants.{Condition, Room}
use Rattle.wl_bound.specs.Families.{Buses}
use Rattle.wl_bound.specs.Rooms.{is_roomy_grown}
use Rattle.wl_bound.specs.Searches.{holds_grown}

-- whether the bus passes that grew by a number
abbrev pub passes_grown : Buses → Test → Growth → ℕ → Bool
passes_grown f (Condition senders) growth = holds_grown f senders growth
passes_grown f Room growth = is_roomy_grown f growth
