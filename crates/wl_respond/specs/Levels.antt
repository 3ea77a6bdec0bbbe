-- The level of a message, by the order of its node's queue: the greatest field that may go before it.
use Rattle.std.specs.Prelude.{ℕ, ◌==◌, not, Bool, List, length}
use Rattle.wl_topology.specs.Driven.{any_below}
use Rattle.wl_node.specs.declared.setup.QueueOrder.{QueueOrder}
use Rattle.wl_node.specs.declared.setup.QueueOrder.TheVariants.{Fifo, Priority}
use Rattle.wl_plan.specs.declared.plan.Plan.{Plan}
use Rattle.wl_plan.specs.PlanLine.{setup_at}
use Rattle.wl_bound.specs.Terms.{greatest}
use Rattle.wl_respond.specs.declared.message.MessageWait.{MessageWait}
use Rattle.wl_respond.specs.Tests.{message_at}

-- the greatest field of the messages of node i
abbrev pub top_of : List MessageWait → ℕ → ℕ
top_of messages i = greatest (length messages) (λ e. (message_at messages e).node == i) (λ e. (message_at messages e).field)

-- In a queue that is first in, first out, each message may be in front of another one. By priority a message waits for no lesser one of its own node (Bosch CAN 2.0 part B, section 3.1, arbitration).
abbrev pub level_by : QueueOrder → (top field : ℕ) → ℕ
level_by Fifo top field = top
level_by Priority top field = field

abbrev pub level_in : Plan → List MessageWait → MessageWait → ℕ
level_in plan messages x = level_by (setup_at plan x.node).order (top_of messages x.node) x.field

abbrev pub level_for : Plan → List MessageWait → ℕ → ℕ
level_for plan messages e = level_in plan messages (message_at messages e)

-- each message has that level
abbrev pub lacks_level : Plan → List MessageWait → ℕ → Bool
lacks_level plan messages e = not ((message_at messages e).level == level_for plan messages e)

abbrev pub has_levels : Plan → List MessageWait → Bool
has_levels plan messages = not (any_below (length messages) (lacks_level plan messages))
