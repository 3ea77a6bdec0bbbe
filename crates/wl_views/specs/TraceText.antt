-- The trace of a simulation: a line for each event of each node, in the order of their ticks (this project's profile).
use Rattle.std.specs.Prelude.{ℕ, Bool, true, false, List, [], ◌∷◌, ◌++◌, map, length, codes, Option, Some, None, if◌then◌else◌}
use Rattle.std.specs.List.{flat_map, range_with_len}
use Rattle.std.specs.Fmt.{decimal, signed_decimal}
use Rattle.wl_clock.specs.Timing.{Timing, tick_of}
use Rattle.wl_confine.specs.declared.ErrorKind.{ErrorKind}
use Rattle.wl_confine.specs.declared.ErrorKind.TheVariants.{Bit, Stuff, Form, Crc, Ack}
use Rattle.wl_confine.specs.Counts.{mode_of}
use Rattle.wl_plan.specs.declared.plan.Plan.{Plan}
use Rattle.wl_plan.specs.PlanLine.{setup_at, line_of}
use Rattle.wl_plan.specs.Simulation.{history}
use Rattle.wl_report.specs.Lines.{mode_word}
use Rattle.wl_report.specs.Report.{content_text}
use Rattle.wl_setup.specs.Names.{name_of}
use Rattle.wl_trace.specs.declared.event.NodeEvent.{NodeEvent}
use Rattle.wl_trace.specs.declared.event.NodeEvent.TheVariants as events
use Rattle.wl_trace.specs.declared.event.FlagForm.{FlagForm}
use Rattle.wl_trace.specs.declared.event.FlagForm.TheVariants.{Active, Passive, Overload}
use Rattle.wl_frame.specs.declared.field.FrameField.{FrameField}
use Rattle.wl_frame.specs.declared.field.FrameField.TheVariants as fields
use Rattle.wl_trace.specs.declared.event.Noted.{Noted}
use Rattle.wl_frame.specs.declared.field.FramePlace.{FramePlace}
use Rattle.wl_trace.specs.Events.{events_of}
use Rattle.wl_trace.specs.Synced.{syncs_of}
use Rattle.wl_level.specs.ByTick.{by_tick}

abbrev pub field_word : FrameField → List ℕ
field_word fields.StartOfFrame = codes "sof"
field_word fields.Identifier = codes "id"
field_word fields.SubstituteRemoteRequest = codes "srr"
field_word fields.IdentifierExtension = codes "ide"
field_word fields.ExtendedIdentifier = codes "ext_id"
field_word fields.RemoteRequest = codes "rtr"
field_word fields.Reserved1 = codes "r1"
field_word fields.Reserved0 = codes "r0"
field_word fields.DataLengthCode = codes "dlc"
field_word fields.Data = codes "data"
field_word fields.CrcSequence = codes "crc"
field_word fields.CrcDelimiter = codes "crc_delimiter"
field_word fields.AckSlot = codes "ack_slot"
field_word fields.AckDelimiter = codes "ack_delimiter"
field_word fields.EndOfFrame = codes "eof"
field_word fields.FlagDelimiter = codes "delimiter"

abbrev pub error_kind_word : ErrorKind → List ℕ
error_kind_word Bit = codes "bit"
error_kind_word Stuff = codes "stuff"
error_kind_word Form = codes "form"
error_kind_word Crc = codes "crc"
error_kind_word Ack = codes "ack"

abbrev pub flag_word : FlagForm → List ℕ
flag_word Active = codes "active"
flag_word Passive = codes "passive"
flag_word Overload = codes "overload"

-- a field, and which of its bits
abbrev pub place_text : FramePlace → List ℕ
place_text place = field_word place.field ++ codes " " ++ decimal place.bit

-- what happened
abbrev pub event_text : NodeEvent → List ℕ
event_text (events.ArbitrationLost place) = codes "lost in " ++ place_text place
event_text (events.Error kind sends stuff place) =
    codes "error " ++ error_kind_word kind ++ (if sends then codes " tx" else codes " rx") ++ (if stuff then codes " after " else codes " in ") ++ place_text place
event_text (events.Flag form) = codes "flag " ++ flag_word form
event_text (events.Sent frame) = codes "sent " ++ content_text frame
event_text (events.Received frame) = codes "received " ++ content_text frame
event_text (events.ModeChanged counts) =
    codes "mode " ++ mode_word (mode_of counts) ++ codes " tec " ++ decimal counts.tec ++ codes " rec " ++ decimal counts.rec
event_text events.HardSynchronised = codes "sync hard"
event_text (events.Resynchronised error) = codes "sync " ++ signed_decimal error

-- a tick and a node's number
abbrev pub line_start : ℕ → ℕ → List ℕ
line_start t i = decimal t ++ codes " " ++ decimal i ++ codes " "

-- a quantum and a bit
abbrev pub sample_words : ℕ → ℕ → List ℕ
sample_words quantum bit = codes " q " ++ decimal quantum ++ codes " b " ++ decimal bit ++ codes " "

-- tick, node and name, quantum, bit, and what happened
abbrev pub trace_line : List (List ℕ) → ℕ × (ℕ × Noted) → List ℕ
trace_line names (t, (i, n)) = line_start t i ++ name_of names i ++ sample_words n.quantum n.bit ++ event_text n.event ++ codes "\n"

-- events of node i, each with the tick at which its quantum begins
abbrev pub told_by : Timing → ℕ → List Noted → List (ℕ × (ℕ × Noted))
told_by clock i events = map (λ n. (tick_of clock n.quantum, (i, n))) events

-- those of node i in the simulation: how it was synchronised, and what its samples did
abbrev pub syncs_at_end : Plan → ℕ → List Noted
syncs_at_end plan i = syncs_of (setup_at plan i) ((history (line_of plan) plan.end).seen i)

abbrev pub events_at_end : Plan → ℕ → List Noted
events_at_end plan i = events_of (setup_at plan i) ((history (line_of plan) plan.end).seen i)

abbrev pub told_at_end : Plan → ℕ → List (ℕ × (ℕ × Noted))
told_at_end plan i = told_by (setup_at plan i).clock i (syncs_at_end plan i) ++ told_by (setup_at plan i).clock i (events_at_end plan i)

-- those of all nodes, node by node
abbrev pub all_told : Plan → List (ℕ × (ℕ × Noted))
all_told plan = flat_map (told_at_end plan) (range_with_len 0 (length plan.nodes))

abbrev pub is_error : NodeEvent → Bool
is_error (events.ArbitrationLost place) = false
is_error (events.Error kind sends stuff place) = true
is_error (events.Flag form) = false
is_error (events.Sent frame) = false
is_error (events.Received frame) = false
is_error (events.ModeChanged counts) = false
is_error events.HardSynchronised = false
is_error (events.Resynchronised error) = false

-- the line of the first error of some events, if there is one
abbrev pub first_error_in : List (List ℕ) → List (ℕ × (ℕ × Noted)) → List ℕ
first_error_in names [] = []
first_error_in names (told ∷ later) = if is_error told.1.1.event then trace_line names told else first_error_in names later

-- that of the trace
abbrev pub first_error_text : Plan → List (List ℕ) → List ℕ
first_error_text plan names = first_error_in names (by_tick plan.end (all_told plan))

-- the tick of the first error of some events, if there is one
abbrev pub first_error_at : List (ℕ × (ℕ × Noted)) → Option ℕ
first_error_at [] = None
first_error_at (told ∷ later) = if is_error told.1.1.event then Some told.0 else first_error_at later

-- that of the trace
abbrev pub first_error_tick : Plan → Option ℕ
first_error_tick plan = first_error_at (by_tick plan.end (all_told plan))
