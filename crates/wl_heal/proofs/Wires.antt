-- The level of a wire, and one machine of it, one event later.
use Rattle.std.proofs.Common.{◌≡◌, ℕ, ◌<◌, [], ◌∷◌, ◌++◌, Bool, true, false, cond, ◌&&◌, Option, Some, None, is_some, refl, sym, ap, subst, append-nil, inl, inr, ◌⊎◌}
use Rattle.std.specs.Prelude.{◌==◌}
use Rattle.std.proofs.lemmas.Bool.{and_parts}
use Rattle.wl_level.specs.declared.Level.{Level}
use Rattle.wl_level.specs.declared.Level.TheVariants.{Dominant, Recessive}
use Rattle.wl_level.specs.Levels.{level_of}
use Rattle.wl_level.specs.Places.{first_place, IsFirstPlace}
use Rattle.wl_level.proofs.Callers.{first_is, first_none, recessive_from, dominant_from}
use Rattle.wl_machine.specs.Stretch.Input.{Sample}
use Rattle.wl_machine.specs.Stretch.{Stretch}
use Rattle.wl_machine.specs.Judged.{drive_of, stretch_of, stretch_after}
use Rattle.wl_machine.proofs.Callers.{stretch_next}
use Rattle.wl_wire.specs.Wire.{Wire, Handed, Bit, Own, stretch_at, drives_dominant, bus, sampled, may_be_alone, next_wire}

silent_from : (w : Wire) (o : Option ℕ) → first_place (drives_dominant w) w.count ≡ o → level_of (is_some o) ≡ Recessive
    → (k : ℕ) → k < w.count → drive_of (stretch_at w k) ≡ Recessive
silent_from w None e h k lt = recessive_from (drive_of (stretch_at w k)) (first_none (drives_dominant w) w.count e k lt)
silent_from w (Some j) e h k lt = cc

-- where the bus is recessive nobody drives dominant
pub bus_recessive : (w : Wire) → bus w ≡ Recessive → (k : ℕ) → k < w.count → drive_of (stretch_at w k) ≡ Recessive
bus_recessive w h k lt = silent_from w (first_place (drives_dominant w) w.count) refl h k lt

-- so it is dominant where somebody does
pub bus_driven : (w : Wire) (k : ℕ) → k < w.count → drive_of (stretch_at w k) ≡ Dominant → bus w ≡ Recessive → ⊥
bus_driven w k lt d r = differ (drive_of (stretch_at w k)) d (bus_recessive w r k lt)
  where
    differ : (l : Level) → l ≡ Dominant → l ≡ Recessive → ⊥
    differ Dominant e f = cc
    differ Recessive e f = cc

pub level_cases : (l : Level) → (l ≡ Dominant) ⊎ (l ≡ Recessive)
level_cases Dominant = inl refl
level_cases Recessive = inr refl

-- where it is dominant somebody does
pub record Drives (w : Wire) : Type 0 where
  pub machine : ℕ
  pub inside : machine < w.count
  pub dominant : drive_of (stretch_at w machine) ≡ Dominant

driver_from : (w : Wire) (o : Option ℕ) → first_place (drives_dominant w) w.count ≡ o → level_of (is_some o) ≡ Dominant → Drives w
driver_from w None e h = cc
driver_from w (Some k) e h =
    let first : IsFirstPlace (drives_dominant w) w.count k = first_is (drives_dominant w) w.count k e in
    record { machine = k; inside = first.inside; dominant = dominant_from (drive_of (stretch_at w k)) first.passes }

pub bus_dominant : (w : Wire) → bus w ≡ Dominant → Drives w
bus_dominant w h = driver_from w (first_place (drives_dominant w) w.count) refl h

-- what a bit by itself leaves to a machine
module _ (w : Wire) (machine : ℕ) (handed : Handed) (k : ℕ) (P : Stretch → Type 0) where
  pub alone_next : (may_be_alone (stretch_at w k) ≡ true → P (stretch_after (stretch_at w k) (Sample (sampled Recessive (w.frames k) handed))))
      → P (stretch_at w k) → P (stretch_at (next_wire w (Own machine handed)) k)
  alone_next taken kept = by ((k == machine) && may_be_alone (stretch_at w k)) refl
    where
      by : (b : Bool) → ((k == machine) && may_be_alone (stretch_at w k)) ≡ b → P (stretch_of (w.past k ++ cond b (Sample (sampled Recessive (w.frames k) handed) ∷ []) []))
      by true e =
          subst P (sym (stretch_next (w.past k) (Sample (sampled Recessive (w.frames k) handed)))) (taken (and_parts (k == machine) (may_be_alone (stretch_at w k)) e).1)
      by false e = subst P (sym (ap stretch_of (append-nil (w.past k)))) kept

-- what a bit of the bus does
pub bit_next : (w : Wire) (handed : ℕ → Handed) (k : ℕ) → stretch_at (next_wire w (Bit handed)) k ≡ stretch_after (stretch_at w k) (Sample (sampled (bus w) (w.frames k) (handed k)))
bit_next w handed k = stretch_next (w.past k) (Sample (sampled (bus w) (w.frames k) (handed k)))
