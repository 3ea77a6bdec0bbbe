-- Worked clocks and edges, by computation.
use Rattle.std.proofs.Common.{◌≡◌, Some, None, refl}
use Rattle.std.specs.Prelude.{pos, negsuc}
use Rattle.wl_segments.specs.declared.SyncRules.TheVariants.{Book}
use Rattle.wl_segments.specs.Lengths.{Lengths}
use Rattle.wl_sync.specs.declared.Sync.TheVariants.{Hard, Error}
use Rattle.wl_phase.specs.Clocks.{Steady, steady_tick, instant}
use Rattle.wl_phase.specs.Ways.{way_after}

-- offset 1 and 3/2 ticks a quantum: quanta 0 to 4 begin at ticks 1, 2, 4, 5 and 7
abbrev clock : Steady
clock = record { offset = 1; part = 0; num = 3; den = 2 }

one : steady_tick clock 1 ≡ 2
unfolding steady_tick
one = refl

four : steady_tick clock 4 ≡ 7
unfolding steady_tick
four = refl

four_exact : instant clock 4 ≡ 14
four_exact = refl

-- a bit of 1 + 3 + 3 + 3 quanta with its sample at place 7, and a jump width of 2
abbrev l : Lengths
l = record { prop = 3; ps1 = 3; ps2 = 3; sjw = 2; sync = Book }

sampled : way_after l 0 None ≡ 9
sampled = refl

passed : way_after l 5 None ≡ 4
passed = refl

hard : way_after l 8 (Some Hard) ≡ 5
hard = refl

-- late by 1, by 5, and by 6 in the sample's quantum; early by 1, and by 3
late : way_after l 5 (Some (Error (pos 1))) ≡ 5
late = refl

later : way_after l 1 (Some (Error (pos 5))) ≡ 2
later = refl

latest : way_after l 0 (Some (Error (pos 6))) ≡ 1
latest = refl

early : way_after l 7 (Some (Error (negsuc 0))) ≡ 5
early = refl

earlier : way_after l 9 (Some (Error (negsuc 2))) ≡ 6
earlier = refl
