-- The laws of the crates below that this crate's proofs rest on.
use Rattle.std.proofs.Common.{List, length}
use Rattle.wl_level.specs.declared.Level.{Level}
use Rattle.wl_topology.specs.Driven.{DrivenLaws}
use Rattle.wl_frame.specs.Stuffing.{Stuffs}
use Rattle.wl_frame.specs.Grammar.{Content, IsContent, bits_of}
use Rattle.wl_machine.specs.Laws.{FoundSent}
use Rattle.wl_buses.specs.OneFrame.Clocked.{EdgeLaws, NoEdgeLaws}
use Rattle.wl_buses.proofs.OneFrame.Machines.{FindNoErrors, LeastWins, SendStuffed, SixOrFront, StayInStep, TenHaveEdge}

abbrev pub FindStuffed : Type 0
FindStuffed = (head : Content) (own : List Level) → IsContent head → Stuffs own (bits_of head) → FoundSent head own (length own)

pub record MachineLaws : Type 0 where
  pub steps : StayInStep
  pub errors : FindNoErrors
  pub winner : LeastWins
  pub stuffed : SendStuffed
  pub found : FindStuffed
  pub six : SixOrFront
  pub ten : TenHaveEdge
  pub driven : DrivenLaws

pub record ClockLaws : Type 0 where
  pub edges : EdgeLaws
  pub calm : NoEdgeLaws
