-- Records that are within fit a replica of all nodes that texts name.
use Rattle.std.proofs.Common.{◌<◌, List, [], ◌∷◌, All}
use Rattle.std.specs.List.{AllByRecursion}
use Rattle.std.proofs.lemmas.List.Elements.{All-from_recursion}
use Rattle.wl_limits.specs.declared.Limits.{Limits}
use Rattle.wl_record_core.specs.declared.record.Record.{Record}
use Rattle.wl_record_core.specs.declared.record.Record.TheVariants.{Edge, Clash, Silence}
use Rattle.wl_record_core.specs.Limits.{record_nodes}
use Rattle.wl_record_core.specs.Slots.{node_of}
use Rattle.wl_record_core.specs.Within.{IsWide, IsWithinBy}
use Rattle.wl_replica.specs.State.{Fits}

pub node_within : (limits : Limits) (r : Record) → IsWithinBy limits r → node_of r < record_nodes limits
node_within limits (Edge node seq tick) h = h.0
node_within limits (Clash node seq) h = h.0
node_within limits (Silence node count until) h = h.0

module _ (limits : Limits) (wide : (r : Record) → IsWithinBy limits r → IsWide r) where
  fits_each : (rs : List Record) → AllByRecursion (IsWithinBy limits) rs → AllByRecursion (Fits (record_nodes limits)) rs
  fits_each [] h = tt
  fits_each (r ∷ rs) h = ((node_within limits r h.0, wide r h.0), fits_each rs h.1)

  pub fits_all : (rs : List Record) → AllByRecursion (IsWithinBy limits) rs → All (Fits (record_nodes limits)) rs
  fits_all rs h = All-from_recursion (Fits (record_nodes limits)) rs (fits_each rs h)
