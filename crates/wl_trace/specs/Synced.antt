-- The synchronisations of a node, as events: what each of its edges did (Bosch CAN 2.0 part B, section 10).
use Rattle.std.specs.Prelude.{List, [], ◌∷◌, ◌++◌, length, fold, Option, None, Some, option_map}
use Rattle.wl_level.specs.declared.Level.{Level}
use Rattle.wl_sync.specs.declared.Sync.{Sync}
use Rattle.wl_sync.specs.declared.Sync.TheVariants.{Hard, Error}
use Rattle.wl_sync.specs.Bits.{sync_of}
use Rattle.wl_node.specs.declared.setup.NodeSetup.{NodeSetup}
use Rattle.wl_node.specs.History.{History, no_history, history_after, seen_next, levels_there}
use Rattle.wl_trace.specs.declared.event.NodeEvent.{NodeEvent}
use Rattle.wl_trace.specs.declared.event.NodeEvent.TheVariants as events
use Rattle.wl_trace.specs.declared.event.Noted.{Noted}
use Rattle.wl_trace.specs.Events.{noted}

abbrev pub sync_event : Sync → NodeEvent
sync_event Hard = events.HardSynchronised
sync_event (Error error) = events.Resynchronised error

-- how the next quantum synchronises the node, if it does
abbrev pub sync_next : NodeSetup → History → Level → Option Noted
sync_next setup h level =
    option_map (λ sync. noted (length h.seen) (length h.samples) (sync_event sync)) (sync_of setup.segments h.seen (seen_next h level))

-- one event more, if there is one
abbrev pub with_next : List Noted → Option Noted → List Noted
with_next before None = before
with_next before (Some next) = before ++ next ∷ []

-- a history with its synchronisations, one quantum later
abbrev pub synced_after : NodeSetup → History × List Noted → Level → History × List Noted
synced_after setup (h, before) level = (history_after setup h level, with_next before (sync_next setup h level))

-- the synchronisations of a node that never leaves and saw these levels, the oldest first
unfoldable pub staying_syncs : NodeSetup → List Level → List Noted
staying_syncs setup levels = (fold (synced_after setup) (no_history, []) levels).1

-- the synchronisations of a node that saw these levels, which may leave the bus: it looks no more after it has
abbrev pub syncs_of : NodeSetup → List Level → List Noted
syncs_of setup levels = staying_syncs setup (levels_there setup.until levels)
