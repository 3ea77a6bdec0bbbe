-- For how many quanta more the drive of a node is sure to stay, whatever it sees. A drive changes only where a bit starts, to what the machine wants
-- since the last sample, and a sample comes the least way after that at the earliest (Bosch CAN 2.0 part B, section 10; that a node tells it is the lookahead of
-- Chandy and Misra 1979).
use Rattle.std.specs.Prelude.{ℕ, zero, suc, ◌+◌, ◌-◌, ◌*◌, nat_lt, not, min, max, Bool, true, false, List, [], ◌∷◌, length, take, Option, Some, None, if◌then◌else◌}
use Rattle.wl_level.specs.declared.Level.{Level}
use Rattle.wl_level.specs.declared.Level.TheVariants.{Dominant, Recessive}
use Rattle.wl_level.specs.Levels.{same}
use Rattle.wl_level.specs.Places.{count_places}
use Rattle.wl_segments.specs.Lengths.{least_way}
use Rattle.wl_sync.specs.SampleLaws.{quanta_to_sample}
use Rattle.wl_machine.specs.Judged.{stretch_of, drive_of}
use Rattle.wl_machine.specs.Silence.{silence_of}
use Rattle.wl_node.specs.declared.setup.Queued.{Queued}
use Rattle.wl_node.specs.declared.setup.NodeSetup.{NodeSetup}
use Rattle.wl_node.specs.History.{History, staying_history, history_of, has_left, unsent_of}
use Rattle.wl_node.specs.Limits.{most_quiet}

-- the level that the machine wants since the last sample, which the next bit's start puts on the line
abbrev pub pending_of : History → Level
pending_of h = drive_of (stretch_of h.inputs)

-- The least promise, from the way to the sample, whether the node drives what its machine wants, and the least way from a start to a sample: up to the next sample. Between a
-- start and its sample that is the way to it. From the sample on, and before quantum 0, the next start may change the drive at once, unless the machine wants
-- it as it is; the sample of the bit that starts then comes a whole way later.
abbrev pub floor_by : Option ℕ → Bool → ℕ → ℕ
floor_by (Some n) settled place = n
floor_by None true place = suc place
floor_by None false place = 0

abbrev pub floor_at : NodeSetup → History → ℕ
floor_at setup h = floor_by (quanta_to_sample setup.segments h.seen) (same h.drive (pending_of h)) (least_way setup.segments)

-- And by so many samples more as the machine is silent for, where the node drives what it wants: from one sample to the next there are the start of a bit and
-- a whole way at least.
abbrev pub floor_and_silence : ℕ → ℕ → ℕ → ℕ
floor_and_silence zero silence place = 0
floor_and_silence (suc n) silence place = suc n + silence * suc place

-- a frame of the queue was not sent yet: else the machine is handed none any more
abbrev pub is_waiting : NodeSetup → History → Bool
is_waiting setup h = nat_lt 0 (length (unsent_of setup h))

-- what the drive rests on where the machine may be handed a head, and as long as it is handed none
abbrev pub promise_by : Bool → NodeSetup → History → ℕ
promise_by heads setup h = floor_and_silence (floor_at setup h) (silence_of heads (stretch_of h.inputs)) (least_way setup.segments)

-- the quanta before the one at which the first frame of a queue is ready
abbrev pub until_ready : List Queued → ℕ → ℕ
until_ready [] quantum = 0
until_ready (q ∷ qs) quantum = q.ready - quantum

-- before that the machine is handed none
abbrev pub promise_at : NodeSetup → History → ℕ
promise_at setup h = max (promise_by (is_waiting setup h) setup h) (min (until_ready (unsent_of setup h) (length h.seen)) (promise_by false setup h))

-- what a node promises
abbrev pub quiet_at : NodeSetup → History → ℕ
quiet_at setup h = min (promise_at setup h) most_quiet

-- The same of a node that leaves the bus so many quanta later: a dominant drive ends then, and a recessive one stays.
abbrev pub quiet_up_to : ℕ → Level → ℕ → ℕ
quiet_up_to left Dominant quiet = min left quiet
quiet_up_to left Recessive quiet = quiet

-- by the quantum at which it leaves, if there is one
abbrev pub quiet_before : Option ℕ → NodeSetup → List Level → ℕ
quiet_before None setup levels = quiet_at setup (staying_history setup levels)
quiet_before (Some n) setup levels = quiet_up_to (n - length levels) (staying_history setup levels).drive (quiet_at setup (staying_history setup levels))

-- a node that has left drives recessive for ever
abbrev pub quiet_until : Option ℕ → NodeSetup → List Level → ℕ
quiet_until until setup levels = if has_left until levels then most_quiet else quiet_before until setup levels

-- for how many quanta more a node that has seen these levels is sure to keep its drive
unfoldable pub quiet_of : NodeSetup → List Level → ℕ
quiet_of setup levels = quiet_until setup.until setup levels

-- the drive that the first k levels leave
abbrev pub drive_at : NodeSetup → List Level → ℕ → Level
drive_at setup levels k = (history_of setup (take k levels)).drive

-- how many of the quanta at which a node saw these levels changed its drive
abbrev pub changes_of : NodeSetup → List Level → ℕ
changes_of setup levels = count_places (λ k. not (same (drive_at setup levels k) (drive_at setup levels (suc k)))) (length levels)
