-- Machines that sample recessive bits of an idle bus by themselves.
use Rattle.std.specs.Prelude.{◌≡◌, ◌⊎◌, ℕ, List, [], ◌∷◌, ◌++◌, replicate}
use Rattle.wl_level.specs.declared.Level.TheVariants.{Recessive}
use Rattle.wl_frame.specs.Grammar.{Content}
use Rattle.wl_machine.specs.Stretch.{Input}
use Rattle.wl_machine.specs.Stretch.Sort.{Idle}
use Rattle.wl_machine.specs.Stretch.Input.{Sample}
use Rattle.wl_machine.specs.Judged.{stretch_of}
use Rattle.wl_wire.specs.Wire.{Handed, sampled}
use Rattle.wl_buses.specs.OneFrame.Machines.{no_frame_sample}

-- A machine has sampled recessive bits of an idle bus by itself, or none. With the last one it may have been handed one of its frames (Bosch CAN 2.0 part B, section 3.2.5, bus idle).
abbrev pub HasWaited : List Content → (old new : List Input) → Type 0
HasWaited frames old new =
    (new ≡ old) ⊎ ((n : ℕ) × (h : Handed) × ((stretch_of old).sort ≡ Idle) × (new ≡ old ++ (replicate n no_frame_sample ++ Sample (sampled Recessive frames h) ∷ [])))
