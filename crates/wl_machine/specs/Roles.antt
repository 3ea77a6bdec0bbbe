-- Who is the transmitter of the frame of the moment, sample by sample.
use Rattle.std.specs.Prelude.{◌≡◌, ◌==◌, Bool, true, false, List, [], ◌∷◌, ◌++◌, length, Option, Some, None, is_some, if◌then◌else◌}
use Rattle.wl_level.specs.declared.Level.{Level}
use Rattle.wl_confine.specs.declared.Happened.{Happened}
use Rattle.wl_confine.specs.declared.Happened.TheVariants.{RxError, RxAfterFlag, RxFlagBit, RxLong, TxError, TxFree, PassiveAck, TxFlagBit, TxLong, Acked}
use Rattle.wl_confine.specs.declared.Happened.TheVariants as happens
use Rattle.wl_machine.specs.declared.state.Role.{Role}
use Rattle.wl_machine.specs.declared.state.Role.TheVariants.{Tx, Rx}
use Rattle.wl_machine.specs.Stretch.{Sort, Stretch, Sampled, Input}
use Rattle.wl_machine.specs.Stretch.Sort.{Integration, Idle, Framing, Intermission, Suspension, OffBus}
use Rattle.wl_machine.specs.Stretch.Input.{Sample, SwitchedOff}
use Rattle.wl_machine.specs.Frames.{is_lost}
use Rattle.wl_machine.specs.Judged.{judged, stretch_of, stretch_after, role_of, head_of}

-- as whose the machine counts what happened, a transmitter's or a receiver's, or nobody's (Bosch CAN 2.0 part B, section 8)
abbrev pub counted_role : Happened → Option Role
counted_role (RxError kind) = Some Rx
counted_role RxAfterFlag = Some Rx
counted_role RxFlagBit = Some Rx
counted_role RxLong = Some Rx
counted_role Acked = Some Rx
counted_role (TxError kind) = Some Tx
counted_role TxFree = Some Tx
counted_role PassiveAck = Some Tx
counted_role TxFlagBit = Some Tx
counted_role TxLong = Some Tx
counted_role happens.Sent = Some Tx
counted_role happened = None

-- the arbitration is lost with the next sample, of this level (sections 2 and 3.2.1)
abbrev pub loses_by : Sort → List Level → Level → Bool
loses_by (Framing (Some head)) own level = is_lost head (own ++ level ∷ []) (length own)
loses_by sort own level = false

abbrev pub loses : Stretch → Level → Bool
loses s level = loses_by s.sort s.own level

-- A sample that ends the stretch ends the role: between frames there is none to go on with, and none after the third bit of an
-- intermission (section 3.4).
abbrev pub ends_role_by : Sort → List Level → Bool
ends_role_by Integration own = true
ends_role_by Idle own = true
ends_role_by (Intermission role) own = length own == 2
ends_role_by Suspension own = true
ends_role_by OffBus own = true
ends_role_by sort own = false

abbrev pub ends_role : Stretch → Bool
ends_role s = ends_role_by s.sort s.own

-- the role in a stretch that begins without one: the head that is sent makes a transmitter
abbrev pub begun_role : Stretch → Role
begun_role s = if is_some (head_of s.sort) then Tx else Rx

-- What the role of the running stretch is: what the machine counts goes by it, and it goes on from sample to sample.
pub record RoleLaws : Type 0 where
  -- what happens as a transmitter's happens in the role of one, and so a receiver's
  pub counted : (past : List Input) (x : Sampled) (role : Role)
      → counted_role (judged (stretch_of past) x).happened ≡ Some role → role_of (stretch_of past) ≡ role
  -- at first a node is a receiver, and also with the order to go off the bus
  pub first : role_of (stretch_of []) ≡ Rx
  pub off : (s : Stretch) → role_of (stretch_after s SwitchedOff) ≡ Rx
  -- a sample that ends no stretch leaves the role, but to one that loses the arbitration with it
  pub stays : (s : Stretch) (x : Sampled) → (judged s x).next ≡ None
      → role_of (stretch_after s (Sample x)) ≡ (if loses s x.level then Rx else role_of s)
  -- one that ends a stretch leaves it too, but where the frame is over, and then the head that is sent makes a transmitter
  pub carried : (past : List Input) (next : Stretch) (x : Sampled) → (judged (stretch_of past) x).next ≡ Some next
      → ends_role (stretch_of past) ≡ false → role_of next ≡ role_of (stretch_of past)
  pub begun : (past : List Input) (next : Stretch) (x : Sampled) → (judged (stretch_of past) x).next ≡ Some next
      → ends_role (stretch_of past) ≡ true → role_of next ≡ begun_role next
