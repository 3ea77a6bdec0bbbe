-- Worked segments, stations and a frame, of which the rows of several chapters are.
use Rattle.std.proofs.Common.{ℕ, zero, suc, true, false, []}
use Rattle.wl_segments.specs.declared.SyncRules.TheVariants.{Book}
use Rattle.wl_segments.specs.Lengths.{Lengths}
use Rattle.wl_frame.specs.Grammar.{Content}
use Rattle.wl_phase.specs.Clocks.{Steady}
use Rattle.wl_buses.specs.OneFrame.Stations.{Stations}

-- a bit of 1 + 3 + 3 + 3 quanta with its sample at place 7
abbrev pub l : Lengths
l = record { prop = 3; ps1 = 3; ps2 = 3; sjw = 2; sync = Book }

-- station 0 has quanta of 10 ticks from tick 0 on, each other one of 10 1/2 ticks from tick 7 on
abbrev pub clock_of : ℕ → Steady
clock_of zero = record { offset = 0; part = 0; num = 10; den = 1 }
clock_of (suc i) = record { offset = 7; part = 0; num = 21; den = 2 }

-- 4 ticks to itself, 9 to another
abbrev pub delay_of : ℕ → ℕ → ℕ
delay_of zero zero = 4
delay_of zero (suc k) = 9
delay_of (suc i) zero = 9
delay_of (suc i) (suc k) = 4

abbrev pub s : Stations
s = record { count = 2; clocks = clock_of; lengths = λ i. l; delay = delay_of; may_send = λ i. true; way = λ k i. 36 }

abbrev pub c : Content
c = record { extended = false; id = 1; remote = false; dlc = 0; bytes = [] }
