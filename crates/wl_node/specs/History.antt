-- A node as a function of its setup and of all levels that it has seen, one for each quantum, the oldest first.
use Rattle.std.specs.Prelude.{ℕ, ◌-◌, min, nat_le, nat_lt, ℤ, Bool, true, false, List, [], ◌∷◌, ◌++◌, length, take, drop, map, count_by, fold, Option, Some, None}
use Rattle.std.specs.List.{flat_map}
use Rattle.wl_level.specs.declared.Level.{Level}
use Rattle.wl_level.specs.declared.Level.TheVariants.{Dominant, Recessive}
use Rattle.wl_level.specs.Levels.{is_dominant}
use Rattle.wl_segments.specs.declared.SyncRules.{SyncRules}
use Rattle.wl_segments.specs.declared.SyncRules.TheVariants.{After, Book}
use Rattle.wl_sync.specs.declared.Sync.{Sync}
use Rattle.wl_sync.specs.declared.Sync.TheVariants.{Hard, Error}
use Rattle.wl_sync.specs.declared.Beat.{Beat}
use Rattle.wl_sync.specs.declared.Beat.TheVariants as beats
use Rattle.wl_sync.specs.declared.Seen.{Seen}
use Rattle.wl_sync.specs.Bits.{beat_of, sync_of}
use Rattle.wl_confine.specs.declared.Mode.{Mode}
use Rattle.wl_confine.specs.declared.Mode.TheVariants.{Active, Passive, Off}
use Rattle.wl_confine.specs.declared.Happened.{Happened}
use Rattle.wl_confine.specs.Counts.{Counts, counts_of, mode_of, is_error}
use Rattle.wl_frame.specs.Grammar.{Content}
use Rattle.wl_machine.specs.Stretch.{Sort, Sampled, Input, Ended, Judgement}
use Rattle.wl_machine.specs.Stretch.Sort.{Integration}
use Rattle.wl_machine.specs.Stretch.Input.{Sample, SwitchedOff}
use Rattle.wl_machine.specs.Stretch.Ended.{NoFrame, Sent, Received}
use Rattle.wl_machine.specs.Judged.{awaits_start, judged, stretch_of, drive_of, is_idle_sort}
use Rattle.wl_node.specs.declared.setup.Queued.{Queued}
use Rattle.wl_node.specs.declared.setup.Passed.{Passed}
use Rattle.wl_node.specs.declared.setup.NodeSetup.{NodeSetup}
pub use Rattle.wl_node.specs.Queues.{is_sent, ready_head}
use Rattle.wl_node.specs.Queues.{unsent_by, head_by}

-- What a node saw and did: what its bit clock saw at each quantum, what its machine was given and what happened at each
-- sample, its samples, the frames that passed and the synchronisations with their quanta, and the level that it drives.
pub record History : Type 0 where
  pub seen : List Seen
  pub inputs : List Input
  pub happened : List Happened
  pub samples : List (ℕ × Level)
  pub frames : List Passed
  pub syncs : List (ℕ × Sync)
  pub drive : Level

-- before quantum 0: a node that hasn't begun drives recessive (this project's profile)
abbrev pub no_history : History
no_history = record { seen = []; inputs = []; happened = []; samples = []; frames = []; syncs = []; drive = Recessive }

-- The frames of the queue that were not sent yet, by the order of the queue: a frame that lost the arbitration or failed stays (Bosch CAN 2.0 part B, sections 2 and 5)
abbrev pub unsent_of : NodeSetup → History → List Queued
unsent_of setup h = unsent_by setup.order setup.queue h.frames

-- the head of the queue at the next quantum: of the frames that wait then, the one that the order of the queue puts first
abbrev pub head_at_next : NodeSetup → History → Option Content
head_at_next setup h = head_by setup.order (unsent_of setup h) (length h.seen)

-- The head that is handed to the machine with a sample of this level. A dominant one begins a frame of the node's own by the book alone, where it is the third bit of
-- an intermission (Bosch CAN 2.0 part B, section 3.2.5; that no head is handed with it else, is this project's profile).
abbrev pub handed : Level → SyncRules → Option Content → Option Content
handed Recessive rules head = head
handed Dominant Book head = head
handed Dominant After head = None

-- what is kept of a frame that a sample completed
abbrev pub passed_frames : ℕ → Ended → List Passed
passed_frames quantum NoFrame = []
passed_frames quantum (Sent frame) = record { sent = true; quantum = quantum; frame = frame } ∷ []
passed_frames quantum (Received frame) = record { sent = false; quantum = quantum; frame = frame } ∷ []

-- where the mode becomes bus off, the machine goes off the bus at once (Bosch CAN 2.0 part B, section 8, rule 10)
abbrev pub switched_off : Mode → Mode → List Input
switched_off Active Off = SwitchedOff ∷ []
switched_off Passive Off = SwitchedOff ∷ []
switched_off old new = []

-- the node integrates: it takes no part in the traffic until it has sampled eleven recessive bits in a row (ISO 11898-1, bus integration)
abbrev pub is_integration : Sort → Bool
is_integration Integration = true
is_integration sort = false

-- what the bit clock sees at the next quantum
abbrev pub seen_next : History → Level → Seen
seen_next h level = record {
  level = level;
  idle = is_idle_sort (stretch_of h.inputs).sort;
  awaits = awaits_start (stretch_of h.inputs);
  integrates = is_integration (stretch_of h.inputs).sort;
  driving = is_dominant h.drive;
}

-- what the machine is given, where the next quantum is a sample
abbrev pub sampled_next : NodeSetup → History → Level → Sampled
sampled_next setup h level = record {
  level = level;
  head = handed level setup.segments.sync (head_at_next setup h);
  mode = mode_of (counts_of h.happened);
}

-- the history after a sample that the machine judged so
abbrev pub history_after_judgement : History → Sampled → Judgement → History
history_after_judgement h x judgement =
    record {
      seen = h.seen;
      inputs = (h.inputs ++ Sample x ∷ []) ++ switched_off x.mode (mode_of (counts_of (h.happened ++ judgement.happened ∷ [])));
      happened = h.happened ++ judgement.happened ∷ [];
      samples = h.samples ++ (length h.seen, x.level) ∷ [];
      frames = h.frames ++ passed_frames (length h.seen) judgement.ended;
      syncs = h.syncs;
      drive = h.drive;
    }

-- a sample goes to the machine and then to the counters
abbrev pub history_after_sample : NodeSetup → History → Level → History
history_after_sample setup h level = let x : Sampled = sampled_next setup h level in history_after_judgement h x (judged (stretch_of h.inputs) x)

-- what a quantum does by its beat: where a bit starts, the node drives what the machine wants since its last sample
abbrev pub by_beat : NodeSetup → History → Level → Beat → History
by_beat setup h level beats.Plain = h
by_beat setup h level beats.Start = record h { drive = drive_of (stretch_of h.inputs) }
by_beat setup h level (beats.Sample _) = history_after_sample setup h level

abbrev pub syncs_at : ℕ → Option Sync → List (ℕ × Sync)
syncs_at quantum None = []
syncs_at quantum (Some sync) = (quantum, sync) ∷ []

-- the history one quantum later, at which the node sees this level
abbrev pub history_after : NodeSetup → History → Level → History
history_after setup h level =
    let x : Seen = seen_next h level in
    let next : History = by_beat setup h level (beat_of setup.segments h.seen x) in
    record next { seen = h.seen ++ x ∷ []; syncs = h.syncs ++ syncs_at (length h.seen) (sync_of setup.segments h.seen x) }

-- a node that never leaves the bus, after the levels that it saw at its quanta
unfoldable pub staying_history : NodeSetup → List Level → History
staying_history setup levels = fold (history_after setup) no_history levels

-- What a node that has left the bus sees: it drives recessive and looks no more. Nothing comes of these levels but that quanta pass (this project's profile).
abbrev pub left_history : History → List Level → History
left_history h [] = h
left_history h (level ∷ levels) = record h { seen = h.seen ++ map (seen_next (record h { drive = Recessive })) (level ∷ levels); drive = Recessive }

-- the levels that a node sees before it leaves the bus, at this quantum or never, and those of the quanta after that
abbrev pub levels_there : Option ℕ → List Level → List Level
levels_there None levels = levels
levels_there (Some n) levels = take n levels

abbrev pub levels_away : Option ℕ → List Level → List Level
levels_away None levels = []
levels_away (Some n) levels = drop n levels

-- a quantum is one at which it isn't there any more
abbrev pub is_after : Option ℕ → ℕ → Bool
is_after None quantum = false
is_after (Some n) quantum = nat_le n quantum

-- how many of so many quanta, from this one on, come before it leaves
abbrev pub quanta_before : Option ℕ → ℕ → ℕ → ℕ
quanta_before None quantum most = most
quanta_before (Some n) quantum most = min most (n - quantum)

-- it has left: a quantum has come at which it wasn't there any more
abbrev pub has_left : Option ℕ → List Level → Bool
has_left None levels = false
has_left (Some n) levels = nat_lt n (length levels)

-- a node that leaves the bus then: it is where the levels before it put it, and stays there (this project's profile)
abbrev pub history_until : Option ℕ → NodeSetup → List Level → History
history_until until setup levels = left_history (staying_history setup (levels_there until levels)) (levels_away until levels)

-- a node after the levels that it saw at its quanta
unfoldable pub history_of : NodeSetup → List Level → History
history_of setup levels = history_until setup.until setup levels

-- the error counters
abbrev pub counters_of : History → Counts
counters_of h = counts_of h.happened

-- the resynchronising edges: quantum and phase error, in quanta, error 0 too
abbrev pub phase_of : ℕ × Sync → List (ℕ × ℤ)
phase_of (quantum, Hard) = []
phase_of (quantum, Error e) = (quantum, e) ∷ []

abbrev pub phases_of : History → List (ℕ × ℤ)
phases_of h = flat_map phase_of h.syncs

abbrev pub is_hard : ℕ × Sync → Bool
is_hard (quantum, Hard) = true
is_hard (quantum, Error e) = false

-- the number of hard synchronisations
abbrev pub hards_of : History → ℕ
hards_of h = count_by is_hard h.syncs

-- the number of errors, those that leave the counters alone too
abbrev pub error_count : History → ℕ
error_count h = count_by is_error h.happened

-- the number of frames that were not sent yet
abbrev pub unsent_count : NodeSetup → History → ℕ
unsent_count setup h = length (unsent_of setup h)
