-- What a disturbance costs a machine.
use Rattle.std.specs.Prelude.{◌≡◌, List, [], ◌∷◌}
use Rattle.wl_level.specs.declared.Level.TheVariants.{Dominant}
use Rattle.wl_confine.specs.Counts.{Counts, counts_after}
use Rattle.wl_machine.specs.Stretch.{Stretch, Sampled}
use Rattle.wl_machine.specs.Stretch.Input.{Sample}
use Rattle.wl_machine.specs.Judged.{judged, stretch_after, drive_of}

-- a machine finds each dominant bit that it drives, so no sample is disturbed to recessive; this project's profile
abbrev pub FindsItsDominant : Stretch → List Sampled → Type 0
FindsItsDominant s [] = Unit {0}
FindsItsDominant s (x ∷ xs) = (drive_of s ≡ Dominant → x.level ≡ Dominant) × FindsItsDominant (stretch_after s (Sample x)) xs

-- its error counters after these samples; Bosch CAN 2.0 part B, section 8
abbrev pub counts_on : Counts → Stretch → List Sampled → Counts
counts_on c s [] = c
counts_on c s (x ∷ xs) = counts_on (counts_after c (judged s x).happened) (stretch_after s (Sample x)) xs
