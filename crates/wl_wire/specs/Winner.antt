-- Who wins the arbitration.
use Rattle.std.specs.Prelude.{◌≡◌, ◌<◌, ℕ, true, List, ◌∷◌, ◌++◌, length, Some}
use Rattle.wl_level.specs.declared.Level.{Level}
use Rattle.wl_level.specs.declared.Level.TheVariants.{Dominant, Recessive}
use Rattle.wl_frame.specs.Grammar.{Content, bits_of, is_arbitration}
use Rattle.wl_machine.specs.declared.state.Role.TheVariants.{Rx}
use Rattle.wl_machine.specs.Stretch.Sort.{Framing}
use Rattle.wl_machine.specs.Frames.{stuffed_end, frame_role}
use Rattle.wl_machine.specs.States.{stretch_by}
use Rattle.wl_wire.specs.Wire.{Wire, stretch_at}
use Rattle.wl_wire.specs.InStep.{IsSender}

-- A frame has the lesser arbitration field: where the two differ first it has a dominant bit, and the other a
-- recessive one of its arbitration; Bosch CAN 2.0 part B, section 3.1 (arbitration)
pub record Beats (winner loser : Content) : Type 0 where
  pub front : List Level
  pub more : List Level
  pub rest : List Level
  pub winner_is : bits_of winner ≡ front ++ Dominant ∷ more
  pub loser_is : bits_of loser ≡ front ++ Recessive ∷ rest
  pub inside : is_arbitration (bits_of loser) (length front) ≡ true

-- a machine began this frame, and has lost the arbitration
pub record Lost (w : Wire) (own : List Level) (k : ℕ) (head : Content) : Type 0 where
  pub framing : stretch_at w k ≡ stretch_by (Framing (Some head)) own
  pub role : frame_role (Some head) own ≡ Rx

-- Who still sends has a lesser field than each that has lost, and after the stuffed part one sends alone.
pub record HasOneWinner (w : Wire) : Type 0 where
  pub beats : (own : List Level) (j k : ℕ) (a b : Content) → j < w.count → k < w.count → IsSender w own j a
      → Lost w own k b → Beats a b
  pub alone : (own : List Level) (end j k : ℕ) (a b : Content) → j < w.count → k < w.count
      → stuffed_end own ≡ Some end → IsSender w own j a → IsSender w own k b → j ≡ k
