-- Frames that wait, by the order of the queue: by computation.
use Rattle.std.proofs.Common.{◌≡◌, ℕ, Bool, List, [], ◌∷◌, true, false, refl, Some}
use Rattle.wl_frame.specs.Grammar.{Content}
use Rattle.wl_frame.specs.Same.{same_content}
use Rattle.wl_node.specs.declared.setup.QueueOrder.TheVariants.{Fifo, Priority}
use Rattle.wl_node.specs.declared.setup.Queued.{Queued}
use Rattle.wl_node.specs.declared.setup.Passed.{Passed}
use Rattle.wl_node.specs.Queues.{field_number, head_by, unsent_by}

abbrev frame : ℕ → List ℕ → Content
frame id bytes = record { extended = false; id = id; remote = false; dlc = 1; bytes = bytes }

abbrev waits : Content → ℕ → Queued
waits c ready = record { frame = c; ready = ready }

abbrev sent : Content → Passed
sent c = record { sent = true; quantum = 900; frame = c }

abbrev received : Content → Passed
received c = record { sent = false; quantum = 900; frame = c }

abbrev low : Content
low = frame 500 (1 ∷ [])

abbrev high : Content
high = frame 100 (2 ∷ [])

abbrev same_field : Content
same_field = frame 500 (3 ∷ [])

-- 500 waits from quantum 0 on, 100 from 200 on, and a second 500 of other bytes from 300 on
abbrev queue : List Queued
queue = waits low 0 ∷ waits high 200 ∷ waits same_field 300 ∷ waits low 400 ∷ []

-- before 200 the first one is the head, and from then on the one with the lesser identifier, as after a lost arbitration
alone : head_by Priority queue 199 ≡ Some low
alone = refl

overtaken : head_by Priority queue 200 ≡ Some high
overtaken = refl

first_in : head_by Fifo queue 200 ≡ Some low
first_in = refl

-- after it was sent the first of the frames with the same field is next
after_high : head_by Priority (unsent_by Priority queue (sent high ∷ [])) 500 ≡ Some low
unfolding same_content
after_high = refl

-- a frame that was received leaves nothing
received_stays : unsent_by Priority queue (received high ∷ []) ≡ queue
received_stays = refl

-- of two instances the first one leaves
first_instance : unsent_by Priority queue (sent low ∷ []) ≡ waits high 200 ∷ waits same_field 300 ∷ waits low 400 ∷ []
unfolding same_content
first_instance = refl

-- the order of the arbitration: base before extended of the same 11 bits, data before remote
abbrev extended_frame : ℕ → Bool → Content
extended_frame id remote = record { extended = true; id = id; remote = remote; dlc = 0; bytes = [] }

base_data : field_number (record { extended = false; id = 2; remote = false; dlc = 0; bytes = [] }) ≡ 4194304
base_data = refl

base_remote : field_number (record { extended = false; id = 2; remote = true; dlc = 0; bytes = [] }) ≡ 5242880
base_remote = refl

extended_data : field_number (extended_frame 524289 false) ≡ 5767170
extended_data = refl

extended_remote : field_number (extended_frame 524289 true) ≡ 5767171
extended_remote = refl
