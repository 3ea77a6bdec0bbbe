-- Samples of one level in a row that a machine only keeps (`keeps` of wl_machine): nothing comes of them but that the machine has them. The node drives
-- recessive before and after them.
use Rattle.std.specs.Prelude.{◌≡◌, ℕ, zero, suc, ◌<◌, ◌≤◌, List, [], ◌∷◌, ◌++◌, Option}
use Rattle.wl_level.specs.declared.Level.{Level}
use Rattle.wl_level.specs.declared.Level.TheVariants.{Recessive}
use Rattle.wl_confine.specs.declared.Mode.{Mode}
use Rattle.wl_confine.specs.declared.Happened.TheVariants.{Nothing}
use Rattle.wl_frame.specs.Grammar.{Content}
use Rattle.wl_machine.specs.declared.Machine.{Machine}
use Rattle.wl_machine.specs.Stretch.{Input, continues}
use Rattle.wl_machine.specs.Stretch.Input.{Sample}
use Rattle.wl_machine.specs.Judged.{judged, stretch_of, drive_of}
use Rattle.wl_machine.specs.Reached.{IsMachine}
use Rattle.wl_machine.specs.States.{sample_of}

-- so many samples of this level more, with some heads and in some modes
abbrev pub AreMore : List Input → Level → ℕ → List Input → Type 0
AreMore past level zero inputs = inputs ≡ past
AreMore past level (suc n) inputs =
    (before : List Input) × (head : Option Content) × (mode : Mode) × AreMore past level n before × (inputs ≡ before ++ Sample (sample_of level head mode) ∷ [])

-- A machine has taken so many samples of this level, whatever the heads and modes, and nothing came of any: it is where they put it, and wanted recessive all along.
pub record HasKept (level : Level) (n : ℕ) (old new : Machine) : Type 0 where
  pub machine : (past inputs : List Input) → IsMachine old past → AreMore past level n inputs → IsMachine new inputs
  pub judged : (past inputs : List Input) (m : ℕ) → m < n → IsMachine old past → AreMore past level m inputs → (head : Option Content) (mode : Mode)
      → judged (stretch_of inputs) (sample_of level head mode) ≡ continues Nothing
  pub drives : (past inputs : List Input) (m : ℕ) → m ≤ n → 0 < n → IsMachine old past → AreMore past level m inputs → drive_of (stretch_of inputs) ≡ Recessive
