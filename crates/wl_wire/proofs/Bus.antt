-- The level of the bus, by what the machines drive.
use Rattle.std.proofs.Common.{◌≡◌, ℕ, ◌<◌, Option, Some, None, is_some, refl, inl, inr, ◌⊎◌}
use Rattle.wl_level.specs.declared.Level.{Level}
use Rattle.wl_level.specs.declared.Level.TheVariants.{Dominant, Recessive}
use Rattle.wl_level.specs.Levels.{level_of}
use Rattle.wl_level.specs.Places.{first_place, IsFirstPlace}
use Rattle.wl_level.proofs.Callers.{first_is, first_none, recessive_from, dominant_from}
use Rattle.wl_machine.specs.Judged.{drive_of}
use Rattle.wl_wire.specs.Wire.{Wire, stretch_at, drives_dominant, bus}

-- a machine that drives the bus dominant
pub record Drives (w : Wire) : Type 0 where
  pub machine : ℕ
  pub inside : machine < w.count
  pub dominant : drive_of (stretch_at w machine) ≡ Dominant

pub level_cases : (level : Level) → (level ≡ Dominant) ⊎ (level ≡ Recessive)
level_cases Dominant = inl refl
level_cases Recessive = inr refl

pub not_both : (level : Level) → level ≡ Dominant → level ≡ Recessive → ⊥
not_both Dominant d r = cc
not_both Recessive d r = cc

driver_from : (w : Wire) (o : Option ℕ) → first_place (drives_dominant w) w.count ≡ o → level_of (is_some o) ≡ Dominant → Drives w
driver_from w None e h = absurd (not_both Recessive h refl)
driver_from w (Some k) e h =
    let first : IsFirstPlace (drives_dominant w) w.count k = first_is (drives_dominant w) w.count k e in
    record { machine = k; inside = first.inside; dominant = dominant_from (drive_of (stretch_at w k)) first.passes }

pub bus_dominant : (w : Wire) → bus w ≡ Dominant → Drives w
bus_dominant w h = driver_from w (first_place (drives_dominant w) w.count) refl h

silent_from : (w : Wire) (o : Option ℕ) → first_place (drives_dominant w) w.count ≡ o → level_of (is_some o) ≡ Recessive
    → (k : ℕ) → k < w.count → drive_of (stretch_at w k) ≡ Recessive
silent_from w None e h k lt = recessive_from (drive_of (stretch_at w k)) (first_none (drives_dominant w) w.count e k lt)
silent_from w (Some j) e h k lt = absurd (not_both Dominant refl h)

pub bus_recessive : (w : Wire) → bus w ≡ Recessive → (k : ℕ) → k < w.count → drive_of (stretch_at w k) ≡ Recessive
bus_recessive w h k lt = silent_from w (first_place (drives_dominant w) w.count) refl h k lt

-- who drives dominant finds dominant
pub bus_driven : (w : Wire) (k : ℕ) → k < w.count → drive_of (stretch_at w k) ≡ Dominant → bus w ≡ Dominant
bus_driven w k lt d = elim (level_cases (bus w)) [
  | inl h ↦ h
  | inr h ↦ absurd (not_both (drive_of (stretch_at w k)) d (bus_recessive w h k lt))
]

-- where nobody drives dominant the bus is recessive
pub bus_silent : (w : Wire) → ((k : ℕ) → k < w.count → drive_of (stretch_at w k) ≡ Recessive) → bus w ≡ Recessive
bus_silent w silent = elim (level_cases (bus w)) [
  | inl h ↦ (let d : Drives w = bus_dominant w h in absurd (not_both (drive_of (stretch_at w d.machine)) d.dominant (silent d.machine d.inside)))
  | inr h ↦ h
]
