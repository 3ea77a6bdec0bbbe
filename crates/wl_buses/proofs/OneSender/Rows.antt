-- Worked clocks and delays: a sender and two listeners, one a hundredth faster and one a hundredth slower.
use Rattle.std.proofs.Common.{◌≡◌, refl, ℕ, zero, suc, [], ◌∷◌, None, false, arith}
use Rattle.wl_frame.specs.Grammar.{content_of}
use Rattle.wl_node.specs.declared.setup.QueueOrder.TheVariants.{Fifo}
use Rattle.wl_buses.specs.OneSender.OneSender.{SenderBus}
use Rattle.wl_buses.specs.OneSender.Through.{due_quantum}
use Rattle.wl_buses.specs.OneSender.Tolerances.{FitClocks, Tolerance}
use Rattle.wl_buses.proofs.BothProofs.Rows.{l}
use Rattle.wl_phase.specs.Clocks.{steady_timing}
use Rattle.wl_phase.specs.InStep.{Sender, Listener, AreNear}
use Rattle.wl_phase.specs.Answer.{IsInTime, ComesAfterSample, EndsAfterMove, EndsBeforeSample, EndsInTime, FitsBit}

abbrev s : Sender
s = record { clock = record { offset = 0; part = 0; num = 100; den = 1 }; bit_quanta = 10; from = 110; bits = [] }

-- 100 ticks from the sender
abbrev fast : Listener
fast = record { clock = record { offset = 0; part = 0; num = 99; den = 1 }; lengths = l; delay = 100 }

abbrev slow : Listener
slow = record { clock = record { offset = 0; part = 0; num = 101; den = 1 }; lengths = l; delay = 100 }

fast_near : AreNear 1000 99 1 l
fast_near = record { slow = omega arith; fast = omega arith; sample = omega arith }

slow_near : AreNear 1000 101 1 l
slow_near = record { slow = omega arith; fast = omega arith; sample = omega arith }

-- there and back in 200 ticks: 200 and 10 quanta's drift of 10 ticks are within 7 quanta
fast_in_time : IsInTime l 1000 100 l 99 1 200
fast_in_time = record { late = omega arith; early = omega arith; jump = omega arith }

slow_in_time : IsInTime l 1000 100 l 101 1 200
slow_in_time = record { late = omega arith; early = omega arith; jump = omega arith }

slow_ends : EndsInTime s l slow 100
slow_ends = omega arith

-- 99 + 2 + 90 ticks early and 707 + 90 + 100 late are within a bit of 990 and the detour of 180
fast_after : ComesAfterSample s fast slow 80
fast_after = omega arith

-- 10 ticks farther from the sender, and at the place of the other one, the slow one may sample too late: 1098 ticks are more than 1090
abbrev far : Listener
far = record { clock = record { offset = 0; part = 0; num = 101; den = 1 }; lengths = l; delay = 110 }

fast_too_early : ComesAfterSample s fast far 0 → ⊥
fast_too_early h = omega arith

-- a bit of 990 is there for 7 quanta of 101 and a tick, and over in 16
fast_fits : FitsBit fast slow.clock l
fast_fits = record { until = omega arith; far = omega arith; over = omega arith }

-- the sender follows the fast one: 99 + 2 ticks early, two bits of 1010, 180 of drift, 100 and 289 ticks are within a bit of 990, 100 ticks and 16 quanta of 100
slow_over_then : EndsAfterMove s fast slow s.clock l 0 289
slow_over_then = omega arith

slow_not_over_then : EndsAfterMove s fast slow s.clock l 0 290 → ⊥
slow_not_over_then h = omega arith

-- two bits of 1010, 90 late, the detour of 473, and 99 + 1 + 90 early, are within 27 quanta of 99 and the 100
slow_over : EndsBeforeSample s slow fast 373
slow_over = omega arith

slow_not_over : EndsBeforeSample s slow fast 374 → ⊥
slow_not_over h = omega arith

-- three nodes with the sender the first, whose levels come after so many ticks from each to each
abbrev cable_of : ℕ → SenderBus
cable_of way = record {
  line = record {
    nodes = 3;
    instant = λ i k. k;
    drives = λ i levels. false;
    quiet = λ i levels. 0;
    delay = λ i j. way;
    disturbed = λ j t. false;
    stop = 0;
  };
  setups = λ i. record {
    clock = steady_timing s.clock;
    segments = l;
    queue = record { frame = content_of []; ready = 0 } ∷ record { frame = content_of []; ready = 500 } ∷ [];
    order = Fifo;
    until = None;
  };
  clocks = λ i. s.clock;
  sender = 0;
  frame = content_of [];
  stuffed = [];
  decides = 10;
}

-- quanta of 100 ticks, by 5 parts in 1000 shorter or longer; a tick has 10 units
abbrev crystals : Tolerance
crystals = record { units = 10; shortest = λ i. 995; longest = λ i. 1005 }

-- 292 ticks from each node to each, and back to itself: a quantum of 1005 units, two ticks and 1000 units of drift are within 2920; 5840 and 1100 within 7 quanta of 995
all_fit : FitClocks crystals (cable_of 292)
all_fit = record {
  slow = λ j p. omega arith;
  fast = λ j p. omega arith;
  sample = λ j p. omega arith;
  jump = λ j p. omega arith;
  loops = λ j p. omega arith;
  after_sample = λ j p. omega arith;
  apart = λ i j p q apart. omega arith;
  ends_there = λ j p. omega arith;
  ends = λ i j p q apart. omega arith;
  lasts = λ i j p q apart. omega arith;
  jumps = λ i j p q apart. omega arith;
  moved = λ i j w p q apart there not_i not_j. omega arith;
}

-- with 294 one may end late
one_late : FitClocks crystals (cable_of 294) → ⊥
one_late fit = let h = fit.ends_there 1 (omega arith, λ e. omega (arith, e)) in omega arith

-- two frames of 3 and 4 bits, in bits of 10 quanta: 18 bits after the first 8, and 19 after quantum 500
abbrev lists : ℕ → ℕ
lists zero = 3
lists (suc n) = 4

first_due : due_quantum (cable_of 292) lists 1 ≡ 260
first_due = refl

second_due : due_quantum (cable_of 292) lists 2 ≡ 690
second_due = refl
