-- Parts of dumps, computed. The rules are those of IEEE 1364-2005, clause 18.2.
use Rattle.std.specs.Prelude.{◌≡◌, ℕ, nat_lt, if◌then◌else◌, true, false, List, [], ◌∷◌, map, codes, None, Some, refl}
use Rattle.std.specs.Fmt.{digits}
use Rattle.wl_confine.specs.declared.Mode.TheVariants.{Active, Passive}
use Rattle.wl_machine.specs.declared.doing.Doing.TheVariants.{Idle, PassiveFlag}
use Rattle.wl_trace.specs.declared.snapshot.NodeState.{NodeState}
use Rattle.wl_views.specs.declared.tick.Tick.{Tick}
use Rattle.wl_views.specs.declared.window.Span.{Span}
use Rattle.wl_views.specs.declared.tick.TimeUnit.TheVariants.{Picosecond, Microsecond}
use Rattle.wl_views.specs.declared.signals.NodeSignals.{NodeSignals}
use Rattle.wl_pulse.specs.Pulses.{drove}
use Rattle.wl_views.specs.Vcd.{dump_lines, header, tick_lines}
use Rattle.wl_views.specs.Windows.{span_of}

picoseconds : Tick
picoseconds = record { count = 125; unit = Picosecond }

still : NodeState
still = record { tec = 0; rec = 0; mode = Active; doing = Idle }

failed : NodeState
failed = record { tec = 128; rec = 0; mode = Passive; doing = PassiveFlag }

-- a node that goes dominant at tick 2, finds that at tick 3, samples it at tick 4, and at tick 5 is another and begins a bit
levels : ℕ → List NodeSignals
levels t = record { tx = nat_lt t 2; rx = nat_lt t 3; cable = nat_lt t 3; disturbance = nat_lt t 0; sample = nat_lt 3 t; start = nat_lt 4 t; state = if nat_lt 4 t then failed else still } ∷ []

abbrev span : ℕ → ℕ → Span
span from to = record { from = from; to = to }

-- what doesn't change has no line, a tick of no change no time, and the last time is the end
one_node : dump_lines picoseconds levels (span 0 7)
    ≡ codes "#0\n$dumpvars\n1t0\n1r0\n1w0\n0n0\n0s0\n0b0\nr0 e0\nr0 c0\nsactive m0\nsidle d0\n$end\n#250\n0t0\n#375\n0r0\n0w0\n#500\n1s0\n#625\n1b0\nr128 e0\nspassive m0\nspassive_flag d0\n#875\n"
unfolding picoseconds still failed levels tick_lines digits
one_node = refl

-- a change at the end is no part of the dump
ends_before : dump_lines picoseconds levels (span 0 3) ≡ codes "#0\n$dumpvars\n1t0\n1r0\n1w0\n0n0\n0s0\n0b0\nr0 e0\nr0 c0\nsactive m0\nsidle d0\n$end\n#250\n0t0\n#375\n"
unfolding picoseconds still failed levels tick_lines digits
ends_before = refl

no_tick : dump_lines picoseconds levels (span 0 0) ≡ codes "#0\n$dumpvars\n1t0\n1r0\n1w0\n0n0\n0s0\n0b0\nr0 e0\nr0 c0\nsactive m0\nsidle d0\n$end\n#0\n"
unfolding picoseconds still failed levels tick_lines digits
no_tick = refl

-- of a part: all values at its first tick, and the changes after it
a_part : dump_lines picoseconds levels (span 3 5) ≡ codes "#375\n$dumpvars\n0t0\n0r0\n0w0\n0n0\n0s0\n0b0\nr0 e0\nr0 c0\nsactive m0\nsidle d0\n$end\n#500\n1s0\n#625\n"
unfolding picoseconds still failed levels tick_lines digits
a_part = refl

-- the ticks of windows: of a whole run, of one that begins within it and ends after it, of one that is empty, and of one that begins after its end
all_of_it : span_of (record { from = 0; to = None }) 7 ≡ span 0 7
all_of_it = refl

up_to_the_end : span_of (record { from = 3; to = Some 9 }) 7 ≡ span 3 7
up_to_the_end = refl

empty : span_of (record { from = 5; to = Some 4 }) 7 ≡ span 5 5
empty = refl

too_late : span_of (record { from = 8; to = Some 9 }) 7 ≡ span 6 7
too_late = refl

two_names : header (record { count = 10; unit = Microsecond }) (codes "a" ∷ codes "b-2" ∷ [])
    ≡ codes "$timescale 1 us $end\n$scope module a $end\n$var wire 1 t0 a_tx $end\n$var wire 1 r0 a_rx $end\n$var wire 1 w0 a_cable $end\n$var wire 1 n0 a_disturbance $end\n$var wire 1 s0 a_sample $end\n$var wire 1 b0 a_start $end\n$var real 64 e0 a_tec $end\n$var real 64 c0 a_rec $end\n$var string 1 m0 a_mode $end\n$var string 1 d0 a_state $end\n$upscope $end\n$scope module b-2 $end\n$var wire 1 t1 b-2_tx $end\n$var wire 1 r1 b-2_rx $end\n$var wire 1 w1 b-2_cable $end\n$var wire 1 n1 b-2_disturbance $end\n$var wire 1 s1 b-2_sample $end\n$var wire 1 b1 b-2_start $end\n$var real 64 e1 b-2_tec $end\n$var real 64 c1 b-2_rec $end\n$var string 1 m1 b-2_mode $end\n$var string 1 d1 b-2_state $end\n$upscope $end\n$enddefinitions $end\n"
unfolding digits
two_names = refl

-- dominant from tick 3 up to tick 5, two ticks later
two_later : map (drove (3 ∷ 5 ∷ []) 2) (0 ∷ 3 ∷ 4 ∷ 5 ∷ 6 ∷ 7 ∷ 8 ∷ []) ≡ false ∷ false ∷ false ∷ true ∷ true ∷ false ∷ false ∷ []
two_later = refl
