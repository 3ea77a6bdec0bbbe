-- Worked values of the levels of messages and of what waits before a window, by computation.
use Rattle.std.proofs.Common.{◌≡◌, ℕ, refl}
use Rattle.wl_node.specs.declared.setup.QueueOrder.TheVariants.{Fifo, Priority}
use Rattle.wl_respond.specs.Inequalities.{head_start, window_share}
use Rattle.wl_respond.specs.Levels.{level_by}
use Rattle.wl_respond.specs.Rows.{MessageTerms}

-- a message of field 4, whose node has one of field 9 too
in_queue : level_by Fifo 9 4 ≡ 9
in_queue = refl

in_mailbox : level_by Priority 9 4 ≡ 4
in_mailbox = refl

-- In a window of a message of level 6 it has its wait as jitter if it is first in, first out. By priority it has none. So two of its frames are counted, or one.
abbrev message : (field level : ℕ) → MessageTerms
message field level = record { node = 0; field = field; level = level; cost = 10; tail = 9; period = 100; window = 90; wait = 60; first = 0 }

waits_behind : head_start 3 (message 6 6) (message 4 9) ≡ 63
waits_behind = refl

goes_first : head_start 3 (message 6 6) (message 4 4) ≡ 3
goes_first = refl

two_frames : window_share 3 90 (message 6 6) (message 4 9) ≡ 20
two_frames = refl

one_frame : window_share 3 90 (message 6 6) (message 4 4) ≡ 10
one_frame = refl

-- the lesser message of the same node isn't in that window
none_beyond : window_share 3 90 (message 6 6) (message 9 9) ≡ 0
none_beyond = refl
