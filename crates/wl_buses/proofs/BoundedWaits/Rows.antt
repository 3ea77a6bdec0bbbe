-- Worked values of the definitions on waits.
use Rattle.std.proofs.Common.{◌≡◌, ℕ, ◌+◌, ◌&&◌, not, true, false, List, [], ◌∷◌, refl}
use Rattle.std.specs.Prelude.{◌==◌}
use Rattle.wl_counts.specs.Counts.{one_if}
use Rattle.wl_counts.specs.Waits.{share}
use Rattle.wl_frame.specs.Grammar.{Content}
use Rattle.wl_frame.specs.Same.{same_content}
use Rattle.wl_node.specs.declared.setup.Queued.{Queued}
use Rattle.wl_buses.specs.FrameTimes.Times.{Times, frame_time, tail_time}
use Rattle.wl_buses.specs.BoundedWaits.Leaving.{entry_ready}
use Rattle.wl_buses.specs.BoundedWaits.Messages.{Delays, Messages, terms_of}
use Rattle.wl_buses.specs.BoundedWaits.QueuedFrames.{early_by, table_by}
use Rattle.wl_buses.proofs.BoundedWaits.Parts.{product_below, product_but}

-- 2 * 3 * 4, and without 3
all_parts : product_below (λ k. k + 2) 3 ≡ 24
all_parts = refl

but_one : product_but (λ k. k + 2) 1 3 ≡ 8
but_one = refl

-- Node 0 has messages 0 and 2, and node 1 has message 1. Message 2 is beyond the level of message 1, so node 0 mixes it.
abbrev ms : Messages
ms = record {
  count = 3;
  of = λ i c. c.id;
  node = λ e. one_if (e == 1);
  bits = λ e. 100;
  every = λ e. 900;
  joins = λ m e. not ((m == 1) && (e == 2));
  mixed = λ m i. (m == 1) && (i == 0);
}

abbrev times : Times
times = record { unit = 1; bit = 10; sample = 7; shift = 4 }

abbrev delays : Delays
delays = record { lead = 12; wake = 3; period = λ e. 9000 }

-- 113 bits and the shift; 109, the sample and the shift
one_frame : frame_time times 100 ≡ 1134
one_frame = refl

one_tail : tail_time times 100 ≡ 1101
one_tail = refl

-- only the node that mixes has its bound as jitter
early_mixed : early_by (terms_of times ms delays) (λ e. 500) 1 0 ≡ 512
early_mixed = refl

early_own : early_by (terms_of times ms delays) (λ e. 500) 1 1 ≡ 12
early_own = refl

early_within : early_by (terms_of times ms delays) (λ e. 500) 0 2 ≡ 12
early_within = refl

-- In a window of 8600 with a jitter of 500 two frames of message 0 may be, one of message 1, and none of message 2.
share_mixed : share (table_by (terms_of times ms delays) (λ m. 1134) (λ e. 500)) 1 8600 0 ≡ 2
share_mixed = refl

share_own : share (table_by (terms_of times ms delays) (λ m. 1134) (λ e. 500)) 1 8600 1 ≡ 1
share_own = refl

share_beyond : share (table_by (terms_of times ms delays) (λ m. 1134) (λ e. 500)) 1 8600 2 ≡ 0
share_beyond = refl

-- of a queue with three entries, of which two have one content: the first of these leaves
abbrev frame : ℕ → Content
frame id = record { extended = false; id = id; remote = true; dlc = 0; bytes = [] }

abbrev queue : List Queued
queue = record { frame = frame 5; ready = 20 } ∷ record { frame = frame 9; ready = 30 } ∷ record { frame = frame 9; ready = 40 } ∷ []

first_ready_one : entry_ready (frame 5) queue ≡ 20
unfolding same_content
first_ready_one = refl

first_of_two : entry_ready (frame 9) queue ≡ 30
unfolding same_content
first_of_two = refl
