-- How the value of a world is coded, so that a proof can tell two values apart.
use Rattle.std.specs.Prelude.{ℕ, List, refl}
use Rattle.std.specs.Coded.{Coded, code_by, coded×, coded_ℕ, coded_list}
use Rattle.wl_record_core.specs.declared.record.Record.{Record}
use Rattle.wl_record_core.specs.contracts.record.Record as record_contract
use Rattle.wl_plan.specs.declared.plan.Plan.{Plan}
use Rattle.wl_plan.specs.contracts.plan.Plan as plan_contract
use Rattle.wl_group.specs.GroupValue.{GroupValue}
use Rattle.wl_group.specs.Stored.{coded_group}
use Rattle.wl_world.specs.WorldValue.{WorldValue}

abbrev pub coded_world : Coded WorldValue
coded_world = code_by (Plan × (List ℕ × (List GroupValue × List Record)))
    (coded× plan_contract.the_row.coded (coded× (coded_list coded_ℕ) (coded× (coded_list coded_group) (coded_list record_contract.the_row.coded))))
    (λ v. (v.plan, (v.numbers, (v.groups, v.emitted)))) (λ p. record { plan = p.0; numbers = p.1.0; groups = p.1.1.0; emitted = p.1.1.1 }) (λ _. refl)
