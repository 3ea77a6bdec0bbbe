-- The frames of one message among those that a node sent or received. A message is all frames of one format, identifier and kind, data or remote
-- (Bosch CAN 2.0 part B, section 3.2: what the arbitration compares).
use Rattle.std.specs.Prelude.{ℕ, ◌==◌, ◌&&◌, Bool, true, false, not, List, [], map, take, slice_index_or}
use Rattle.std.specs.Bool.{beq}
use Rattle.std.specs.List.{filter, list_any}
use Rattle.wl_clock.specs.Timing.{Timing, tick_of}
use Rattle.wl_frame.specs.Grammar.{Content}
use Rattle.wl_node.specs.declared.setup.Passed.{Passed}

abbrev pub same_message : Content → Content → Bool
same_message a b = a.id == b.id && beq a.extended b.extended && beq a.remote b.remote

-- it is of the message of this frame, and was sent, or received
abbrev pub is_of_message : (sent : Bool) → Content → Passed → Bool
is_of_message sent c p = same_message c p.frame && beq p.sent sent

-- the ticks at which a node with this clock has sent, or received, its frames
abbrev pub message_ticks : Timing → (sent : Bool) → Content → List Passed → List ℕ
message_ticks clock sent c frames = map (λ p. tick_of clock p.quantum) (filter (is_of_message sent c) frames)

-- where there is no frame
abbrev pub no_passed : Passed
no_passed = record { sent = false; quantum = 0; frame = record { extended = false; id = 0; remote = false; dlc = 0; bytes = [] } }

abbrev pub frame_passed : List Passed → ℕ → Passed
frame_passed frames k = slice_index_or frames k no_passed

-- frame k was sent, and none of its message before it
abbrev pub is_first_sent : List Passed → ℕ → Bool
is_first_sent frames k =
    (frame_passed frames k).sent && not (list_any (is_of_message true (frame_passed frames k).frame) (take k frames))
