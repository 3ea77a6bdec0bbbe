-- How many frames of a message a node misses, and how many it takes twice (this project's profile). Rufino and others (1998) call the two an inconsistent
-- omission and an inconsistent duplicate.
use Rattle.std.specs.Prelude.{ℕ, ◌==◌, ◌&&◌, nat_le, nat_lt, Bool, List, count_by, Option, Some}
use Rattle.wl_clock.specs.Timing.{Timing, tick_of}
use Rattle.wl_delivery.specs.declared.delivery.Delivery.{Delivery}
use Rattle.wl_delivery.specs.declared.delivery.Presence.{Presence}
use Rattle.wl_delivery.specs.declared.instances.Instance.{Instance}
use Rattle.wl_delivery.specs.Instances.{taken_instances}

-- A node takes part from its eleventh recessive sample in a row up to its last sample. No frame that is acknowledged has eleven recessive bits in a row
-- (Bosch CAN 2.0 part B, section 3.2.1): so a frame that is sent after the eleventh began after it.
abbrev pub presence_of : Timing → (joined last : Option ℕ) → Presence
presence_of clock (Some joined) (Some last) = record { from = tick_of clock joined; until = tick_of clock last }
presence_of clock joined last = record { from = 0; until = 0 }

abbrev pub is_present : Presence → (tick : ℕ) → Bool
is_present p tick = nat_lt p.from tick && nat_le tick p.until

-- it takes part when the frame is sent, and hasn't taken it
abbrev pub misses_instance : Presence → Instance → Bool
misses_instance p i = i.taken == 0 && is_present p i.sent

abbrev pub is_twice : Instance → Bool
is_twice i = nat_lt 1 i.taken

abbrev pub delivery_of : Presence → (sent taken : List ℕ) → Delivery
delivery_of p sent taken =
    record { missed = count_by (misses_instance p) (taken_instances sent taken); twice = count_by is_twice (taken_instances sent taken) }
