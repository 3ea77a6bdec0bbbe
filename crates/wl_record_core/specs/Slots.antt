-- The nodes and the slots of a replica that records speak of (this project's profile).
use Rattle.std.specs.Prelude.{ℕ}
use Rattle.wl_record_core.specs.declared.record.Record.{Record}
use Rattle.wl_record_core.specs.declared.record.Record.TheVariants.{Edge, Clash, Silence}
use Rattle.wl_record_core.specs.declared.record.Slot.{Slot}
use Rattle.wl_record_core.specs.declared.record.Slot.TheVariants.{EdgeAt, SilenceAt}

-- the node that a record speaks of
abbrev pub node_of : Record → ℕ
node_of (Edge node seq tick) = node
node_of (Clash node seq) = node
node_of (Silence node count until) = node

-- the slot that a record speaks of
abbrev pub slot_of : Record → Slot
slot_of (Edge node seq tick) = EdgeAt node seq
slot_of (Clash node seq) = EdgeAt node seq
slot_of (Silence node count until) = SilenceAt node count
