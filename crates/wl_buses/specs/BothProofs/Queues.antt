-- The frames of a queue, and when the first of them is ready and decided to be sent.
use Rattle.std.specs.Prelude.{◌≡◌, ◌++◌, IsPermutation, ℕ, suc, ◌+◌, ◌-◌, ◌*◌, max, List, [], ◌∷◌, length, drop, map, Option, Some, None, if◌then◌else◌}
use Rattle.std.specs.Int.{div_ceil}
use Rattle.wl_segments.specs.Lengths.{Lengths, sample_at, bit_quanta}
use Rattle.wl_frame.specs.Grammar.{Content}
use Rattle.wl_frame.specs.Same.{same_content}
use Rattle.wl_node.specs.declared.setup.NodeSetup.{NodeSetup}
use Rattle.wl_node.specs.declared.setup.Passed.{Passed}
use Rattle.wl_node.specs.declared.setup.Queued.{Queued}
use Rattle.wl_node.specs.declared.setup.QueueOrder.TheVariants.{Fifo}
use Rattle.wl_node.specs.Queues.{head_by, unsent_by}

abbrev pub queued_contents : List Queued → List Content
queued_contents = map (λ q. q.frame)

-- the quantum from which on the first of some frames is ready, and the n-th of a queue
abbrev pub first_ready : List Queued → ℕ
first_ready [] = 0
first_ready (q ∷ more) = q.ready

abbrev pub ready_at : List Queued → ℕ → ℕ
ready_at queue n = first_ready (drop n queue)

-- The bit, counted from the power-up of a node, at whose sample it decides to send a frame that is ready from a quantum on: the eleventh, or the first one by
-- whose sample the frame is ready.
abbrev pub decides_at : Lengths → (ready : ℕ) → ℕ
decides_at l ready = max 10 (div_ceil (ready - sample_at l) (bit_quanta l))

-- of the frames of its queue that it hasn't sent, the one that a node is handed at a quantum
abbrev pub head_at : NodeSetup → (unsent : List Queued) → ℕ → Option Content
head_at setup unsent quantum = head_by setup.order unsent quantum

-- the quantum from which on it is handed one: frames come to a controller in the order of its queue
abbrev pub wakes_at : NodeSetup → (unsent : List Queued) → ℕ
wakes_at setup unsent = first_ready unsent

-- The queue is first in, first out.
abbrev pub IsFifo : NodeSetup → Type 0
IsFifo setup = setup.order ≡ Fifo

-- the frames of its queue that it hasn't sent, after these have passed it
abbrev pub unsent_after : NodeSetup → List Passed → List Queued
unsent_after setup passed = unsent_by setup.order setup.queue passed

-- the first place of a frame in a list; if there is no frame, or the list hasn't got it, a number that is no place
abbrev pub place_among : Option Content → List Content → ℕ
place_among None frames = length frames
place_among (Some frame) [] = 0
place_among (Some frame) (first ∷ more) = if same_content frame first then 0 else suc (place_among (Some frame) more)

-- the quantum by which a node decides after its power-up, and the frame on which it decides
abbrev pub first_decision : NodeSetup → ℕ
first_decision setup = decides_at setup.segments (wakes_at setup setup.queue) * bit_quanta setup.segments + sample_at setup.segments

abbrev pub first_head : NodeSetup → Option Content
first_head setup = head_at setup setup.queue (first_decision setup)

-- Frames that a node has sent, and those that its queue still has: they are those of the queue, each once. If the queue is first in, first out, they are so in its order.
pub record ComeFrom (setup : NodeSetup) (sent left : List Content) : Type 0 where
  pub once : IsPermutation (queued_contents setup.queue) (sent ++ left)
  pub order : IsFifo setup → sent ++ left ≡ queued_contents setup.queue
