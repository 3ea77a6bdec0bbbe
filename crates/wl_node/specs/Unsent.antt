-- The frames of a queue that were not sent yet, as they are kept, and the place of the one that goes next among them. This project's profile.
use Rattle.std.specs.Prelude.{◌≡◌, ℕ, suc, nat_le, Bool, false, List, [], ◌∷◌, length, drop, count_by, slice_get, Option, None, Some, if◌then◌else◌}
use Rattle.wl_frame.specs.Grammar.{Content}
use Rattle.wl_frame.specs.Same.{same_content}
use Rattle.wl_node.specs.declared.setup.QueueOrder.{QueueOrder}
use Rattle.wl_node.specs.declared.setup.QueueOrder.TheVariants.{Fifo, Priority}
use Rattle.wl_node.specs.declared.setup.Queued.{Queued}
use Rattle.wl_node.specs.declared.setup.Passed.{Passed}
use Rattle.wl_node.specs.declared.setup.NodeSetup.{NodeSetup}
use Rattle.wl_node.specs.declared.unsent.Unsent.{Unsent}
use Rattle.wl_node.specs.Queues.{is_sent, first_frame, head_by, least_frame, unsent_by}

-- the frames in the order in which they are kept: the queue itself, or the line, in which those that were sent come first
abbrev pub line_by : QueueOrder → List Queued → List Queued → List Queued
line_by Fifo queue line = queue
line_by Priority queue line = line

-- those that are left
abbrev pub left_in : NodeSetup → Unsent → List Queued
left_in setup kept = drop kept.sent (line_by setup.order setup.queue kept.line.items)

-- after these frames have passed
pub record IsUnsent (setup : NodeSetup) (kept : Unsent) (passed : List Passed) : Type 0 where
  pub left : left_in setup kept ≡ unsent_by setup.order setup.queue passed
  pub sent : setup.order ≡ Fifo → kept.sent ≡ count_by is_sent passed
  pub long : setup.order ≡ Priority → length kept.line.items ≡ length setup.queue

-- the place of the first frame that carries this
abbrev pub next_place : Option ℕ → Option ℕ
next_place None = None
next_place (Some place) = Some (suc place)

abbrev pub place_of : Content → List Queued → Option ℕ
place_of frame [] = None
place_of frame (q ∷ qs) = if same_content q.frame frame then Some 0 else next_place (place_of frame qs)

-- At this place is the frame that goes: the first one, or the first that carries this.
abbrev pub IsChosen : QueueOrder → List Queued → Content → ℕ → Type 0
IsChosen Fifo unsent frame place = (first_frame unsent ≡ Some frame) × (place ≡ 0)
IsChosen Priority unsent frame place = place_of frame unsent ≡ Some place

-- the first frame is ready, so that there is a head
abbrev pub is_first_ready : List Queued → ℕ → Bool
is_first_ready [] quantum = false
is_first_ready (q ∷ qs) quantum = nat_le q.ready quantum

-- at this place is the head
pub record IsHeadAt (order : QueueOrder) (unsent : List Queued) (quantum place : ℕ) : Type 0 where
  pub entry : Queued
  pub there : slice_get unsent place ≡ Some entry
  pub head : head_by order unsent quantum ≡ Some entry.frame
  pub chosen : IsChosen order unsent entry.frame place

-- at this place is the frame with the least field, the first of equal ones
pub record IsLeastAt (waiting : List Queued) (place : ℕ) : Type 0 where
  pub entry : Queued
  pub there : slice_get waiting place ≡ Some entry
  pub least : least_frame waiting ≡ Some entry.frame
  pub first : place_of entry.frame waiting ≡ Some place
