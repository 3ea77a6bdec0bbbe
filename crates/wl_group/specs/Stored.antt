-- How the value of a group is coded, so that a proof can tell two values apart.
use Rattle.std.specs.Prelude.{ℕ, Bool, List, Option, refl}
use Rattle.std.specs.Coded.{Coded, code_by, coded×, coded_bool, coded_ℕ, coded_list, coded_option}
use Rattle.wl_record_core.specs.declared.record.Record.{Record}
use Rattle.wl_record_core.specs.contracts.record.Record as record_contract
use Rattle.wl_replica.specs.State.{State}
use Rattle.wl_replica.specs.Stored.{coded_state}
use Rattle.wl_plan.specs.declared.plan.Plan.{Plan}
use Rattle.wl_plan.specs.contracts.plan.Plan as plan_contract
use Rattle.wl_group.specs.GroupValue.{GroupValue}

abbrev pub coded_group : Coded GroupValue
coded_group = code_by (Plan × (Bool × (List (Option ℕ) × (State × List Record))))
    (coded× plan_contract.the_row.coded (coded× coded_bool (coded× (coded_list (coded_option coded_ℕ)) (coded× coded_state (coded_list record_contract.the_row.coded)))))
    (λ g. (g.plan, (g.lists, (g.ran, (g.replica, g.emitted))))) (λ p. record { plan = p.0; lists = p.1.0; ran = p.1.1.0; replica = p.1.1.1.0; emitted = p.1.1.1.1 }) (λ _. refl)
