-- What the events of a node say of its report, for every list of levels.
use Rattle.std.specs.Prelude.{◌≡◌, ◌<◌, ℕ, ℤ, true, false, Bool, List, [], ◌∷◌, length, count_by}
use Rattle.std.specs.List.{All, flat_map}
use Rattle.wl_level.specs.declared.Level.{Level}
use Rattle.wl_node.specs.declared.setup.NodeSetup.{NodeSetup}
use Rattle.wl_node.specs.declared.setup.Passed.{Passed}
use Rattle.wl_node.specs.History.{history_of, error_count, hards_of, phases_of}
use Rattle.wl_trace.specs.declared.event.NodeEvent.{NodeEvent}
use Rattle.wl_trace.specs.declared.event.NodeEvent.TheVariants as events
use Rattle.wl_trace.specs.declared.event.Noted.{Noted}
use Rattle.wl_trace.specs.Events.{events_of}
use Rattle.wl_trace.specs.Synced.{syncs_of}

abbrev pub is_error_event : NodeEvent → Bool
is_error_event (events.Error kind sends stuff place) = true
is_error_event event = false

-- an error was noted
abbrev pub tells_error : Noted → Bool
tells_error n = is_error_event n.event

abbrev pub passed_by : ℕ → NodeEvent → List Passed
passed_by quantum (events.Sent frame) = record { sent = true; quantum = quantum; frame = frame } ∷ []
passed_by quantum (events.Received frame) = record { sent = false; quantum = quantum; frame = frame } ∷ []
passed_by quantum event = []

-- the frame that was noted, as a report has it
abbrev pub told_frames : Noted → List Passed
told_frames n = passed_by n.quantum n.event

abbrev pub is_hard_event : NodeEvent → Bool
is_hard_event events.HardSynchronised = true
is_hard_event event = false

-- a hard synchronisation was noted
abbrev pub tells_hard : Noted → Bool
tells_hard n = is_hard_event n.event

abbrev pub phase_by : ℕ → NodeEvent → List (ℕ × ℤ)
phase_by quantum (events.Resynchronised error) = (quantum, error) ∷ []
phase_by quantum event = []

-- the phase error that was noted, as a report has it
abbrev pub told_phases : Noted → List (ℕ × ℤ)
told_phases n = phase_by n.quantum n.event

pub record TraceLaws : Type 0 where
  -- as many errors as the report counts
  pub errors : (setup : NodeSetup) (levels : List Level) → count_by tells_error (events_of setup levels) ≡ error_count (history_of setup levels)
  -- the frames of the report, in its order
  pub frames : (setup : NodeSetup) (levels : List Level) → flat_map told_frames (events_of setup levels) ≡ (history_of setup levels).frames
  -- as many hard synchronisations as the report counts
  pub hards : (setup : NodeSetup) (levels : List Level) → count_by tells_hard (syncs_of setup levels) ≡ hards_of (history_of setup levels)
  -- the phase errors of the report, in their order
  pub phases : (setup : NodeSetup) (levels : List Level) → flat_map told_phases (syncs_of setup levels) ≡ phases_of (history_of setup levels)
  -- each at a quantum that was seen
  pub sync_quanta : (setup : NodeSetup) (levels : List Level) → All (λ n. n.quantum < length levels) (syncs_of setup levels)
  pub quanta : (setup : NodeSetup) (levels : List Level) → All (λ n. n.quantum < length levels) (events_of setup levels)
