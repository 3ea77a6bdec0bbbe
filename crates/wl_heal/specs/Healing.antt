-- Machines that come in step again.
use Rattle.std.specs.Prelude.{◌≡◌, ◌<◌, ◌≤◌, ℕ, zero, suc, ◌+◌, false, List, if◌then◌else◌}
use Rattle.wl_level.specs.declared.Level.TheVariants.{Dominant}
use Rattle.wl_confine.specs.declared.Mode.TheVariants.{Active}
use Rattle.wl_confine.specs.Counts.{is_error}
use Rattle.wl_machine.specs.Judged.{judged}
use Rattle.wl_wire.specs.Wire.{Wire, Handed, Event, Bit, bus, stretch_at, sampled, next_wire, wire_after}
use Rattle.wl_wire.specs.InStep.{AreInStep, FindsNoError}
use Rattle.wl_heal.specs.Joining.{is_apart}

-- a wire so many bits later, by what each machine is handed with each bit; this project's profile
abbrev pub bits_after : Wire → (ℕ → ℕ → Handed) → ℕ → Wire
bits_after w handed zero = w
bits_after w handed (suc n) = bits_after (next_wire w (Bit (handed 0))) (λ i. handed (suc i)) n

-- all are error active at each bit; Bosch CAN 2.0 part B, section 8
abbrev pub AreActive : (ℕ → ℕ → Handed) → Type 0
AreActive handed = (n k : ℕ) → (handed n k).mode ≡ Active

-- no machine integrates or is off the bus; this project's profile
abbrev pub AllTakePart : Wire → Type 0
AllTakePart w = (k : ℕ) → k < w.count → is_apart (stretch_at w k) ≡ false

-- the next bits are dominant; this project's profile
abbrev pub IsDominantFor : ℕ → Wire → (ℕ → ℕ → Handed) → Type 0
IsDominantFor n w handed = (i : ℕ) → i < n → bus (bits_after w handed i) ≡ Dominant

-- from this wire on all are in step, and no machine finds an error; Bosch CAN 2.0 part B, section 8
abbrev pub StayWithoutError : Wire → Type 0
StayWithoutError w = (events : List Event) → AreInStep (wire_after w events) × FindsNoError (wire_after w events)

-- so many bits bring error active machines in step: six of a flag, 16 of rest, 150 of a frame up to its ACK delimiter, 17 of its end and of
-- rest after it, and 20 of a flag; Bosch CAN 2.0 part B, sections 3.2.1 and 3.2.3 to 3.2.5
abbrev pub healing_bits : ℕ
healing_bits = 209

-- how many errors a machine finds with so many bits; Bosch CAN 2.0 part B, section 7.1
abbrev pub errors_found : ℕ → Wire → (ℕ → ℕ → Handed) → ℕ → ℕ
errors_found zero w handed k = 0
errors_found (suc n) w handed k =
    (if is_error (judged (stretch_at w k) (sampled (bus w) (w.frames k) (handed 0 k))).happened then 1 else 0)
    + errors_found n (next_wire w (Bit (handed 0))) (λ i. handed (suc i)) k

-- all machines are in step, so many bits later at most, and each has found one error at most until then; this project's profile
abbrev pub HealWithin : ℕ → Wire → (ℕ → ℕ → Handed) → Type 0
HealWithin most w handed =
    (n : ℕ) × (n ≤ most) × AreInStep (bits_after w handed n) × ((k : ℕ) → k < w.count → errors_found n w handed k ≤ 1)
