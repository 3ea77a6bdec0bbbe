-- The events of a node: what its samples did, as a function of its setup and of the levels that it saw. Synchronisations aren't told.
use Rattle.std.specs.Prelude.{ℕ, Bool, true, false, List, [], ◌∷◌, ◌++◌, map, length, fold, Option, Some, None, if◌then◌else◌}
use Rattle.wl_level.specs.declared.Level.{Level}
use Rattle.wl_sync.specs.declared.Beat.{Beat}
use Rattle.wl_sync.specs.declared.Beat.TheVariants as beats
use Rattle.wl_sync.specs.Bits.{beat_of}
use Rattle.wl_confine.specs.declared.ErrorKind.{ErrorKind}
use Rattle.wl_confine.specs.declared.ErrorKind.TheVariants.{Stuff, Ack}
use Rattle.wl_confine.specs.declared.Mode.{Mode}
use Rattle.wl_confine.specs.declared.Mode.TheVariants as modes
use Rattle.wl_confine.specs.declared.Happened.{Happened}
use Rattle.wl_confine.specs.declared.Happened.TheVariants as happens
use Rattle.wl_confine.specs.Counts.{Counts, counts_of, counts_after, mode_of}
use Rattle.wl_machine.specs.declared.state.Role.{Role}
use Rattle.wl_machine.specs.declared.state.Role.TheVariants.{Tx, Rx}
use Rattle.wl_machine.specs.Stretch.{Flag, Sort, Stretch, Ended, Judgement}
use Rattle.wl_machine.specs.Stretch.Flag.{ActiveFlag, OverloadFlag, PassiveFlag}
use Rattle.wl_machine.specs.Stretch.Sort.{Framing, Flagging}
use Rattle.wl_machine.specs.Stretch.Ended.{NoFrame, Sent, Received}
use Rattle.wl_machine.specs.Frames.{stuffed_end}
use Rattle.wl_machine.specs.Judged.{judged, stretch_of, role_of}
use Rattle.wl_machine.specs.Roles.{loses}
use Rattle.wl_node.specs.declared.setup.NodeSetup.{NodeSetup}
use Rattle.wl_node.specs.History.{History, no_history, history_after, sampled_next, seen_next, levels_there}
use Rattle.wl_trace.specs.declared.event.NodeEvent.{NodeEvent}
use Rattle.wl_trace.specs.declared.event.NodeEvent.TheVariants as events
use Rattle.wl_trace.specs.declared.event.FlagForm.{FlagForm}
use Rattle.wl_trace.specs.declared.event.FlagForm.TheVariants as forms
use Rattle.wl_trace.specs.declared.event.Noted.{Noted}
use Rattle.wl_trace.specs.Places.{next_place, is_at_stuff}

abbrev pub is_transmitter : Role → Bool
is_transmitter Tx = true
is_transmitter Rx = false

-- a transmitter loses the arbitration with this sample (Bosch CAN 2.0 part B, sections 2 and 3.2.1)
abbrev pub lost_events : Stretch → Level → List NodeEvent
lost_events s level = if is_transmitter (role_of s) then (if loses s level then events.ArbitrationLost (next_place s) ∷ [] else []) else []

-- An error that leaves the counter of a transmitter alone: of a stuff bit in the arbitration, or, after all that is stuffed, a missing
-- acknowledgement (section 8, rule 3, exceptions 1 and 2).
abbrev pub free_kind_by_end : Option ℕ → ErrorKind
free_kind_by_end None = Stuff
free_kind_by_end (Some end) = Ack

abbrev pub free_kind_by : Sort → List Level → ErrorKind
free_kind_by (Framing head) own = free_kind_by_end (stuffed_end own)
free_kind_by sort own = Stuff

abbrev pub free_kind : Stretch → ErrorKind
free_kind s = free_kind_by s.sort s.own

abbrev pub error_event : Stretch → (sends : Bool) → ErrorKind → NodeEvent
error_event s sends kind = events.Error kind sends (is_at_stuff s) (next_place s)

-- the error that a sample found, if it found one (section 7.1)
abbrev pub error_events : Stretch → Happened → List NodeEvent
error_events s (happens.RxError kind) = error_event s false kind ∷ []
error_events s (happens.TxError kind) = error_event s true kind ∷ []
error_events s happens.TxFree = error_event s true (free_kind s) ∷ []
error_events s happened = []

abbrev pub form_of : Flag → FlagForm
form_of ActiveFlag = forms.Active
form_of OverloadFlag = forms.Overload
form_of (PassiveFlag unacknowledged) = forms.Passive

abbrev pub flag_in : Sort → List NodeEvent
flag_in (Flagging flag role) = events.Flag (form_of flag) ∷ []
flag_in sort = []

-- the flag that a sample begins, but for a node that is bus off after it (sections 3.2.3 and 3.2.4)
abbrev pub flag_events : Mode → Option Stretch → List NodeEvent
flag_events modes.Off next = []
flag_events mode None = []
flag_events mode (Some next) = flag_in next.sort

-- the frame that a sample completes (section 5)
abbrev pub frame_events : Ended → List NodeEvent
frame_events NoFrame = []
frame_events (Sent frame) = events.Sent frame ∷ []
frame_events (Received frame) = events.Received frame ∷ []

abbrev pub is_same_mode : Mode → Mode → Bool
is_same_mode modes.Active modes.Active = true
is_same_mode modes.Passive modes.Passive = true
is_same_mode modes.Off modes.Off = true
is_same_mode old new = false

-- the counters, where they give another mode than before (section 8, rules 9 to 12)
abbrev pub mode_events : Counts → Counts → List NodeEvent
mode_events old new = if is_same_mode (mode_of old) (mode_of new) then [] else events.ModeChanged new ∷ []

-- what a sample does, by the stretch that it comes in, the counters before it and the judgement
abbrev pub judged_events : Stretch → Level → Counts → Judgement → List NodeEvent
judged_events s level counts j =
    lost_events s level ++ error_events s j.happened ++ flag_events (mode_of (counts_after counts j.happened)) j.next
    ++ frame_events j.ended ++ mode_events counts (counts_after counts j.happened)

abbrev pub noted : ℕ → ℕ → NodeEvent → Noted
noted quantum bit event = record { quantum = quantum; bit = bit; event = event }

-- what the next quantum does, if it is a sample of this level
abbrev pub sample_events : NodeSetup → History → Level → List Noted
sample_events setup h level =
    map (noted (length h.seen) (length h.samples))
    (judged_events (stretch_of h.inputs) level (counts_of h.happened) (judged (stretch_of h.inputs) (sampled_next setup h level)))

-- only samples do something
abbrev pub beat_events : NodeSetup → History → Level → Beat → List Noted
beat_events setup h level beats.Plain = []
beat_events setup h level beats.Start = []
beat_events setup h level (beats.Sample _) = sample_events setup h level

-- what the next quantum does, at which the node sees this level
abbrev pub events_at : NodeSetup → History → Level → List Noted
events_at setup h level = beat_events setup h level (beat_of setup.segments h.seen (seen_next h level))

-- a history with its events, one quantum later
abbrev pub traced_after : NodeSetup → History × List Noted → Level → History × List Noted
traced_after setup (h, before) level = (history_after setup h level, before ++ events_at setup h level)

-- the events of a node that never leaves and saw these levels, the oldest first
unfoldable pub staying_events : NodeSetup → List Level → List Noted
staying_events setup levels = (fold (traced_after setup) (no_history, []) levels).1

-- the events of a node that saw these levels, which may leave the bus: nothing happens after it has
abbrev pub events_of : NodeSetup → List Level → List Noted
events_of setup levels = staying_events setup (levels_there setup.until levels)
