-- Worked rows, by hand from the rules that the definitions name.
use Rattle.std.proofs.Common.{◌≡◌, ◌+◌, refl, ℕ, List, [], ◌∷◌, ◌++◌, Some, None, true, false}
use Rattle.wl_level.specs.declared.Level.{Level}
use Rattle.wl_level.specs.declared.Level.TheVariants.{Dominant, Recessive}
use Rattle.wl_clock.specs.Timing.{Timing, tick_of}
use Rattle.wl_frame.specs.Grammar.{Content}
use Rattle.wl_node.specs.declared.setup.Passed.{Passed}
use Rattle.wl_delivery.specs.Deliveries.{delivery_of, presence_of}
use Rattle.wl_delivery.specs.Instances.{taken_instances}
use Rattle.wl_delivery.specs.Joining.{joined_quantum}
use Rattle.wl_delivery.specs.Messages.{is_first_sent, message_ticks}

-- ten recessive samples, at the quanta from n on
abbrev ten : ℕ → List (ℕ × Level)
ten n =
    (n, Recessive) ∷ (n + 1, Recessive) ∷ (n + 2, Recessive) ∷ (n + 3, Recessive) ∷ (n + 4, Recessive) ∷ (n + 5, Recessive) ∷ (n + 6, Recessive)
    ∷ (n + 7, Recessive) ∷ (n + 8, Recessive) ∷ (n + 9, Recessive) ∷ []

-- the eleventh in a row counts, and a dominant sample begins the count again
joined : joined_quantum (ten 1 ++ (11, Recessive) ∷ (12, Recessive) ∷ []) ≡ Some 11
joined = refl

not_joined : joined_quantum (ten 1 ++ (11, Dominant) ∷ ten 12) ≡ None
not_joined = refl

joined_later : joined_quantum (ten 1 ++ (11, Dominant) ∷ ten 12 ++ (22, Recessive) ∷ (23, Dominant) ∷ []) ≡ Some 22
joined_later = refl

abbrev frame : (id : ℕ) → Content
frame id = record { extended = false; id = id; remote = false; dlc = 0; bytes = [] }

abbrev sent : (quantum : ℕ) → (id : ℕ) → Passed
sent quantum id = record { sent = true; quantum = quantum; frame = frame id }

abbrev taken : (quantum : ℕ) → (id : ℕ) → Passed
taken quantum id = record { sent = false; quantum = quantum; frame = frame id }

-- a clock of 125 ticks a quantum
abbrev clock : Timing
clock = record { offset = 7; rates = record { from = 0; num = 125; den = 1 } ∷ [] }

-- of what passed through a node only the frames of the message count, sent or received as it is asked
ticks : message_ticks clock true (frame 5) (sent 100 5 ∷ taken 200 5 ∷ sent 300 6 ∷ sent 400 5 ∷ []) ≡ 12507 ∷ 50007 ∷ []
unfolding tick_of
ticks = refl

ticks_taken : message_ticks clock false (frame 5) (sent 100 5 ∷ taken 200 5 ∷ sent 300 6 ∷ sent 400 5 ∷ []) ≡ 25007 ∷ []
unfolding tick_of
ticks_taken = refl

-- a remote frame is of another message than a data frame with its identifier
remote : message_ticks clock true (frame 5) (record (sent 100 5) { frame = record (frame 5) { remote = true } } ∷ []) ≡ []
remote = refl

first_sent : is_first_sent (taken 90 5 ∷ sent 100 5 ∷ sent 200 5 ∷ []) 1 ≡ true
first_sent = refl

second_sent : is_first_sent (taken 90 5 ∷ sent 100 5 ∷ sent 200 5 ∷ []) 2 ≡ false
second_sent = refl

only_taken : is_first_sent (taken 90 5 ∷ sent 100 5 ∷ sent 200 5 ∷ []) 0 ≡ false
only_taken = refl

-- A frame is sent at 100, 200 and 300. A node takes the first once, the second never, the third twice, and what it takes at 310 isn't sent by the end.
counted : taken_instances (100 ∷ 200 ∷ 300 ∷ []) (98 ∷ 250 ∷ 300 ∷ 310 ∷ [])
    ≡ record { sent = 100; taken = 1 } ∷ record { sent = 200; taken = 0 } ∷ record { sent = 300; taken = 2 } ∷ []
counted = refl

-- a node that takes part from 50 up to 400 misses the second
one_of_each : delivery_of (record { from = 50; until = 400 }) (100 ∷ 200 ∷ 300 ∷ []) (98 ∷ 250 ∷ 300 ∷ 310 ∷ []) ≡ record { missed = 1; twice = 1 }
one_of_each = refl

-- it misses none that is sent when it begins to take part or before, none after its last sample, and none if it never takes part
late_node : delivery_of (record { from = 200; until = 400 }) (100 ∷ 200 ∷ 300 ∷ []) [] ≡ record { missed = 1; twice = 0 }
late_node = refl

gone_node : delivery_of (record { from = 50; until = 200 }) (100 ∷ 200 ∷ 300 ∷ []) [] ≡ record { missed = 2; twice = 0 }
gone_node = refl

absent_node : delivery_of (presence_of clock None (Some 400)) (100 ∷ 200 ∷ 300 ∷ []) [] ≡ record { missed = 0; twice = 0 }
absent_node = refl

present : presence_of clock (Some 2) (Some 4) ≡ record { from = 257; until = 507 }
unfolding tick_of
present = refl
