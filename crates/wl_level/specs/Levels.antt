-- The two levels of a bus line. Bosch CAN 2.0 part A, section 2 ("Bus values"): dominant overwrites recessive.
use Rattle.std.specs.Prelude.{Bool, true, false}
use Rattle.wl_level.specs.declared.Level.{Level}
use Rattle.wl_level.specs.declared.Level.TheVariants.{Dominant, Recessive}

abbrev pub is_dominant : Level → Bool
is_dominant Dominant = true
is_dominant Recessive = false

-- the level of a line that some node drives dominant, or that no node does
abbrev pub level_of : Bool → Level
level_of true = Dominant
level_of false = Recessive

abbrev pub opposite : Level → Level
opposite Dominant = Recessive
opposite Recessive = Dominant

abbrev pub same : Level → Level → Bool
same Dominant Dominant = true
same Dominant Recessive = false
same Recessive Dominant = false
same Recessive Recessive = true
