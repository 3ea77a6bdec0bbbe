-- Lines of an explanation, computed; the words by hand.
use Rattle.std.proofs.Common.{◌≡◌, [], Some, None, codes, refl}
use Rattle.std.specs.Fmt.{digits}
use Rattle.wl_clock.specs.Timing.{tick_of}
use Rattle.wl_plan.specs.Limits.{most_quanta}
use Rattle.wl_segments.specs.declared.SyncRules.TheVariants.{After}
use Rattle.wl_segments.specs.Lengths.{Lengths}
use Rattle.wl_explain.specs.Words.{clocks_line, trip_line, jump_line, late_line, early_line, room_words, cable_words, margin_words, timing_words}
use Rattle.wl_margin.specs.Pieces.{thousandths, hundredths}
use Rattle.wl_explain.proofs.DoubtRows.{node}
use Rattle.wl_clock.specs.declared.ClockFault.TheVariants as clock
use Rattle.wl_setup.specs.declared.fault.SetupFault.TheVariants as fault
use Rattle.wl_explain.specs.Remedies.{cause, remedy}

short : Lengths
short = record { prop = 3; ps1 = 4; ps2 = 2; sjw = 3; sync = After }

small : thousandths 50 ≡ codes "0.050"
unfolding digits
small = refl

per_cent : hundredths 8750 ≡ codes "87.50"
unfolding digits
per_cent = refl

apart : clocks_line 1000 (codes "a") (codes "b") (node 0 125000) (node 700 127500)
    ≡ codes "doubt: the clocks of a and b are 20000 ppm apart, and their segments bear 12500\n"
unfolding tick_of most_quanta digits
apart = refl

-- 400 and 500 kbit/s: a quarter of the shorter bit is more than clocks of one rate differ by
unlike : clocks_line 1000 (codes "a") (codes "b") (node 0 156250) (node 0 125000)
    ≡ codes "doubt: a and b have unlike bit rates, 400.000 and 500.000 kbit/s\n"
unfolding tick_of most_quanta digits
unlike = refl

alike : clocks_line 1000 (codes "a") (codes "b") (node 0 125000) (node 0 125000) ≡ []
unfolding tick_of most_quanta
alike = refl

too_long : trip_line (codes "a") (codes "b") 701 700 ≡ codes "doubt: a to b and back takes 701 ticks, and the earlier sample leaves 700\n"
unfolding digits
too_long = refl

back_in_time : trip_line (codes "a") (codes "b") 700 700 ≡ []
back_in_time = refl

jump : jump_line (codes "a") short ≡ codes "doubt: a has a jump width of 3 quanta, above its PHASE_SEG2 of 2\n"
unfolding short digits
jump = refl

late : late_line (codes "a") (Some 3) ≡ codes "doubt: frame 3 of a becomes ready at the end or later\n"
unfolding digits
late = refl

early : early_line (codes "a") 22000 (Some 0)
    ≡ codes "doubt: frame 0 of a becomes ready before tick 22000, from which on all nodes can be idle\n"
unfolding digits
early = refl

room : room_words (codes "a") 126 ≡ codes "doubt: 11 bits and the frames of a take at least 126 bits, beyond the end\n"
unfolding digits
room = refl

timing : timing_words (codes "a") 500000 8125 125625 ≡ codes "node a: 500.000 kbit/s, sample point 81.25 %, quantum 125.625 ns"
unfolding digits
timing = refl

margin : margin_words 7317 2292 ≡ codes ", tolerance 7317 ppm, left 2292 ppm"
unfolding digits
margin = refl

cable : cable_words (Some 503) ≡ codes ", cable 503 ns, 100 m at 5 ns a metre\n"
unfolding digits
cable = refl

no_cable : cable_words None ≡ codes ", cable none\n"
no_cable = refl

-- words of faults, by a name and by a key
zero_den : cause (fault.NodeClock 0 clock.ZeroDen) ≡ codes "den is 0"
zero_den = refl

unknown_x : remedy (fault.Unknown (codes "x")) ≡ codes "Remove the key; a disturbance has `x` or `node`, but not both."
unknown_x = refl

unknown_other : remedy (fault.Unknown (codes "colour")) ≡ codes "Remove the key, or correct its spelling."
unknown_other = refl
