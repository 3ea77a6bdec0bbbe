-- Plans whose queues have the frames of a table of messages.
use Rattle.std.specs.Prelude.{◌≡◌, ℕ, ◌+◌, ◌*◌, ◌==◌, ◌&&◌, ◌<◌, ◌≤◌, nat_le, Bool, true, false, List, [], ◌∷◌, length, Option, None, Some, slice_index_or, ⊤, if◌then◌else◌}
use Rattle.wl_level.specs.declared.Level.{Level}
use Rattle.wl_level.specs.Places.{first_place}
use Rattle.wl_segments.specs.Lengths.{bit_quanta, sample_at}
use Rattle.wl_frame.specs.Grammar.{Content, bits_of}
use Rattle.wl_frame.specs.Stuffing.{Stuffs}
use Rattle.wl_node.specs.declared.setup.Queued.{Queued}
use Rattle.wl_plan.specs.declared.plan.Plan.{Plan}
use Rattle.wl_plan.specs.PlanLine.{setup_at}
use Rattle.wl_bound.specs.Fields.{field_of}
use Rattle.wl_respond.specs.declared.message.MessageWait.{MessageWait}
use Rattle.wl_respond.specs.Tests.{message_at}

abbrev pub no_entry : Queued
no_entry = record { frame = record { extended = false; id = 0; remote = false; dlc = 0; bytes = [] }; ready = 0 }

abbrev pub entry_at : List Queued → ℕ → Queued
entry_at queue n = slice_index_or queue n no_entry

-- message e is that of node i with this field; and the first such
abbrev pub is_message : List MessageWait → (i field e : ℕ) → Bool
is_message messages i field e = ((message_at messages e).node == i) && ((message_at messages e).field == field)

abbrev pub message_of : List MessageWait → ℕ → Content → Option ℕ
message_of messages i frame = first_place (is_message messages i (field_of frame)) (length messages)

-- a frame has so many bits up to the end of its CRC sequence at most, stuff bits among them
abbrev pub IsWithinBits : Content → ℕ → Type 0
IsWithinBits frame most = (y : List Level) → Stuffs y (bits_of frame) → length y ≤ most

-- an entry is a frame of a message of its node
pub record HasMessage (messages : List MessageWait) (i : ℕ) (entry : Queued) : Type 0 where
  pub message : ℕ
  pub is : message_of messages i entry.frame ≡ Some message
  pub bits : IsWithinBits entry.frame (message_at messages message).bits

-- Two entries of one message are its period apart.
abbrev pub ArePeriodApart : List MessageWait → ℕ → Queued → Queued → Type 0
ArePeriodApart messages i first later = (e : ℕ) → message_of messages i first.frame ≡ Some e → field_of first.frame ≡ field_of later.frame
    → first.ready + (message_at messages e).every ≤ later.ready

-- A queue of node i has frames of these messages, in the order in which they become ready, none before a quantum. Two of one message are its period apart.
pub record HasMessages (messages : List MessageWait) (i from : ℕ) (queue : List Queued) : Type 0 where
  pub known : (n : ℕ) → n < length queue → HasMessage messages i (entry_at queue n)
  pub late : (n : ℕ) → n < length queue → from ≤ (entry_at queue n).ready
  pub ordered : (m n : ℕ) → m < n → n < length queue → (entry_at queue m).ready ≤ (entry_at queue n).ready
  pub apart : (m n : ℕ) → m < n → n < length queue → ArePeriodApart messages i (entry_at queue m) (entry_at queue n)

-- the quantum of a node's eleventh sample (ISO 11898-1, bus integration)
abbrev pub eleventh_sample : Plan → ℕ → ℕ
eleventh_sample plan i = 10 * bit_quanta (setup_at plan i).segments + sample_at (setup_at plan i).segments

-- The same, entry by entry: the next one is ready no sooner, and the next one of its message a period later.
abbrev pub starts_after : ℕ → List Queued → Bool
starts_after ready [] = true
starts_after ready (next ∷ later) = nat_le ready next.ready

abbrev pub comes_from : (field earliest : ℕ) → List Queued → Bool
comes_from field earliest [] = true
comes_from field earliest (next ∷ later) = if field_of next.frame == field then nat_le earliest next.ready else comes_from field earliest later

abbrev pub spaced_by : List MessageWait → Queued → List Queued → Option ℕ → Bool
spaced_by messages entry later None = false
spaced_by messages entry later (Some e) = comes_from (field_of entry.frame) (entry.ready + (message_at messages e).every) later

abbrev pub is_spaced : List MessageWait → ℕ → Queued → List Queued → Bool
is_spaced messages i entry later = spaced_by messages entry later (message_of messages i entry.frame)

-- an entry, before those that follow
pub record GoesBefore (messages : List MessageWait) (i from : ℕ) (entry : Queued) (later : List Queued) : Type 0 where
  pub late : from ≤ entry.ready
  pub known : HasMessage messages i entry
  pub order : starts_after entry.ready later ≡ true
  pub spaced : is_spaced messages i entry later ≡ true

abbrev pub GoInOrder : List MessageWait → (i from : ℕ) → List Queued → Type 0
GoInOrder messages i from [] = ⊤
GoInOrder messages i from (entry ∷ later) = GoesBefore messages i from entry later × GoInOrder messages i from later

-- So it is at each node of a plan, and no frame is ready before its node's eleventh sample.
abbrev pub KeepsTable : Plan → List MessageWait → Type 0
KeepsTable plan messages = (i : ℕ) → i < length plan.nodes → HasMessages messages i (eleventh_sample plan i) (setup_at plan i).queue
