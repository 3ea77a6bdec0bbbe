-- A replica that is prepared to take records, as contracts see it: what it knows, and the slots in which it has room. This project's profile.
use Rattle.std.specs.Prelude.{List, refl}
use Rattle.std.specs.Coded.{Coded, code_by, coded×, coded_list}
use Rattle.wl_record_core.specs.declared.record.Slot.{Slot}
use Rattle.wl_record_core.specs.contracts.record.Slot as slot_contract
use Rattle.wl_replica.specs.State.{State}
use Rattle.wl_replica.specs.Stored.{coded_state}

pub record PreparedState : Type 0 where
  pub known : State
  pub slots : List Slot

-- how it is coded, so that a proof can tell two of them apart
abbrev pub coded_prepared : Coded PreparedState
coded_prepared =
    code_by (State × List Slot) (coded× coded_state (coded_list slot_contract.the_row.coded)) (λ p. (p.known, p.slots)) (λ p. record { known = p.0; slots = p.1 }) (λ _. refl)
