-- The limits of the numbers in a record (this project's profile).
use Rattle.std.specs.Prelude.{◌<◌, ◌≤◌}
use Rattle.wl_limits.specs.declared.Limits.{Limits}
use Rattle.wl_limits.specs.declared.Limits.TheVariants.{Narrow, Wide}
use Rattle.wl_record_core.specs.declared.record.Record.{Record}
use Rattle.wl_record_core.specs.declared.record.Record.TheVariants.{Edge, Clash, Silence}
use Rattle.wl_record_core.specs.Limits.{record_nodes, record_edges, tick_end}

-- the numbers of the record are within these limits
abbrev pub IsWithinBy : Limits → Record → Type 0
IsWithinBy limits (Edge node seq tick) = (node < record_nodes limits) × (seq < record_edges limits) × (tick < tick_end)
IsWithinBy limits (Clash node seq) = (node < record_nodes limits) × (seq < record_edges limits)
IsWithinBy limits (Silence node count until) = (node < record_nodes limits) × (count ≤ record_edges limits) × (until < tick_end)

-- within those of record texts
abbrev pub IsWithin : Record → Type 0
IsWithin r = IsWithinBy Narrow r

-- within the wide ones, as each true record
abbrev pub IsWide : Record → Type 0
IsWide r = IsWithinBy Wide r
