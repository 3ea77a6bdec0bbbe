-- The messages with sent frames that some node misses, or has taken twice (this project's profile).
use Rattle.std.specs.Prelude.{ℕ, ◌==◌, ◌&&◌, ◌++◌, Bool, true, false, not, List, [], ◌∷◌, codes, length, Option, Some, None, if◌then◌else◌}
use Rattle.std.specs.Fmt.{decimal}
use Rattle.std.specs.List.{flat_map, list_any, range_with_len}
use Rattle.wl_delivery.specs.declared.delivery.Delivery.{Delivery}
use Rattle.wl_delivery.specs.Deliveries.{delivery_of, presence_of}
use Rattle.wl_delivery.specs.Messages.{is_first_sent, is_of_message, message_ticks, frame_passed}
use Rattle.wl_frame.specs.Grammar.{Content}
use Rattle.wl_margin.specs.Pieces.{joined}
use Rattle.wl_report.specs.Lines.{hexadecimal}
use Rattle.wl_report.specs.Report.{id_digits}
use Rattle.wl_setup.specs.Names.{name_of}
use Rattle.wl_traffic.specs.declared.queues.NodeQueue.{NodeQueue}
use Rattle.wl_traffic.specs.declared.unequal.Unequal.{Unequal}

-- it is another node, and has sent frames of the message
abbrev pub sends_too : (node : ℕ) → Content → NodeQueue → Bool
sends_too node c q = not (q.node == node) && list_any (is_of_message true c) q.frames

-- what is said of a sender's message and another node, if that node misses frames or has taken some twice
abbrev pub unequal_by : (sender : ℕ) → Content → (sent node : ℕ) → Delivery → Option Unequal
unequal_by sender c sent node d =
    if d.missed == 0 && d.twice == 0 then None
    else Some (record { sender = sender; frame = c; sent = sent; node = node; missed = d.missed; twice = d.twice })

-- A sender's message was sent at these ticks; of the sender itself nothing is said.
abbrev pub unequal_at : (sender : NodeQueue) → Content → (sent : List ℕ) → NodeQueue → Option Unequal
unequal_at s c sent q =
    if q.node == s.node then None
    else unequal_by s.node c (length sent) q.node (delivery_of (presence_of q.clock q.joined q.last) sent (message_ticks q.clock false c q.frames))

abbrev pub said_of : Option Unequal → List Unequal
said_of None = []
said_of (Some u) = u ∷ []

-- the nodes that miss frames of a sender's message, or have taken some twice
abbrev pub unequal_in : List NodeQueue → (sender : NodeQueue) → Content → List Unequal
unequal_in queues s c = flat_map (λ q. said_of (unequal_at s c (message_ticks s.clock true c s.frames) q)) queues

-- Those of the message of frame k of a sender, if that is the first sent one. If another node has sent frames of the message, too, nobody knows whose frame a
-- node has taken, and nothing is said.
abbrev pub unequal_message : List NodeQueue → (sender : NodeQueue) → ℕ → List Unequal
unequal_message queues s k =
    if is_first_sent s.frames k && not (list_any (sends_too s.node (frame_passed s.frames k).frame) queues)
    then unequal_in queues s (frame_passed s.frames k).frame else []

abbrev pub unequal_of_node : List NodeQueue → (sender : NodeQueue) → List Unequal
unequal_of_node queues s = flat_map (unequal_message queues s) (range_with_len 0 (length s.frames))

-- of all senders
abbrev pub unequal_deliveries : List NodeQueue → List Unequal
unequal_deliveries queues = flat_map (unequal_of_node queues) queues

abbrev pub is_missing : Unequal → Bool
is_missing u = not (u.missed == 0)

abbrev pub is_twice_taken : Unequal → Bool
is_twice_taken u = not (u.twice == 0)

-- which node misses how many of the frames that were sent, or has taken them twice
abbrev pub unequal_words : List (List ℕ) → (word : List ℕ) → (count : ℕ) → Unequal → List ℕ
unequal_words names word count u =
    joined (word ∷ codes " " ∷ name_of names u.node ∷ codes " " ∷ decimal count ∷ codes " of " ∷ decimal u.sent ∷ codes " frames of " ∷ [])

abbrev pub message_end_words : List (List ℕ) → Unequal → List ℕ
message_end_words names u = joined (name_of names u.sender ∷ codes " " ∷ hexadecimal (id_digits u.frame.extended) u.frame.id ∷ codes "\n" ∷ [])

-- that, if it is some
abbrev pub count_line : List (List ℕ) → (word : List ℕ) → (count : ℕ) → Unequal → List ℕ
count_line names word count u = if count == 0 then [] else unequal_words names word count u ++ message_end_words names u

abbrev pub unequal_line : List (List ℕ) → Unequal → List ℕ
unequal_line names u = count_line names (codes "missed") u.missed u ++ count_line names (codes "twice") u.twice u

abbrev pub unequal_lines : List (List ℕ) → List Unequal → List ℕ
unequal_lines names all = flat_map (unequal_line names) all
