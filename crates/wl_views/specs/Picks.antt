-- Which events of a trace are shown (this project's profile).
use Rattle.std.specs.Prelude.{ℕ, Bool, true, false, ◌==◌, ◌&&◌, List, Option, Some, None}
use Rattle.std.specs.List.{filter, flat_map}
use Rattle.wl_level.specs.ByTick.{by_tick}
use Rattle.wl_plan.specs.declared.plan.Plan.{Plan}
use Rattle.wl_trace.specs.declared.event.NodeEvent.{NodeEvent}
use Rattle.wl_trace.specs.declared.event.NodeEvent.TheVariants as events
use Rattle.wl_trace.specs.declared.event.Noted.{Noted}
use Rattle.wl_views.specs.declared.pick.EventKind.{EventKind}
use Rattle.wl_views.specs.declared.pick.EventKind.TheVariants as kinds
use Rattle.wl_views.specs.declared.pick.Pick.{Pick}
use Rattle.wl_views.specs.TraceText.{all_told, trace_line}
use Rattle.wl_views.specs.Windows.{is_within}

-- an event is of a kind
abbrev pub is_event_of : EventKind → NodeEvent → Bool
is_event_of kinds.Lost (events.ArbitrationLost place) = true
is_event_of kinds.Error (events.Error kind sends stuff place) = true
is_event_of kinds.Flag (events.Flag form) = true
is_event_of kinds.Frame (events.Sent frame) = true
is_event_of kinds.Frame (events.Received frame) = true
is_event_of kinds.Mode (events.ModeChanged counts) = true
is_event_of kinds.Sync events.HardSynchronised = true
is_event_of kinds.Sync (events.Resynchronised error) = true
is_event_of kinds.Logged (events.Error kind sends stuff place) = true
is_event_of kinds.Logged (events.Sent frame) = true
is_event_of kinds.Logged (events.ModeChanged counts) = true
is_event_of kind event = false

-- of the kind that is asked for, if one is
abbrev pub is_asked_kind : Option EventKind → NodeEvent → Bool
is_asked_kind None event = true
is_asked_kind (Some kind) event = is_event_of kind event

-- a synchronisation may be of the kind that is asked for
abbrev pub asks_for_syncs : Option EventKind → Bool
asks_for_syncs None = true
asks_for_syncs (Some kinds.Sync) = true
asks_for_syncs (Some kind) = false

-- of the node that is asked for, if one is
abbrev pub is_asked_node : Option ℕ → ℕ → Bool
is_asked_node None i = true
is_asked_node (Some node) i = node == i

-- an event of node i at tick t is shown
abbrev pub is_picked : Pick → ℕ × (ℕ × Noted) → Bool
is_picked pick (t, (i, n)) = is_within pick.window t && (is_asked_node pick.node i && is_asked_kind pick.only n.event)

-- all errors
abbrev pub all_errors : Pick
all_errors = record { window = record { from = 0; to = None }; node = None; only = Some kinds.Error }

-- a line for each event that is shown, tick by tick up to the end; those of one tick node by node
abbrev pub trace_text : Pick → Plan → List (List ℕ) → List ℕ
trace_text pick plan names = flat_map (trace_line names) (filter (is_picked pick) (by_tick plan.end (all_told plan)))
