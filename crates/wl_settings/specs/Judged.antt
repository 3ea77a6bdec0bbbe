-- What the condition for a sound bus says of a setting's plan. This project's.
use Rattle.std.specs.Prelude.{◌≡◌, ℕ, ◌-◌, ◌*◌, ◌/◌, max, min, not, Bool, true, false, List, [], ◌∷◌, Option, Some, None, option_map, Result, Ok, Err}
use Rattle.std.specs.Option.{is_some}
use Rattle.wl_bound.specs.declared.condition.Failure.{Failure}
use Rattle.wl_bound.specs.declared.condition.Senders.{Senders}
use Rattle.wl_bound.specs.declared.condition.Senders.TheVariants.{Any, One}
use Rattle.wl_bound.specs.Conditions.{first_failure_of, plain}
use Rattle.wl_bound.specs.Families.{Buses, family_of}
use Rattle.wl_bound.specs.Oscillators.{Pace}
use Rattle.wl_bound.specs.Searches.{IsLongerCable, IsWiderTolerance}
use Rattle.wl_plan.specs.declared.plan.Plan.{Plan}
use Rattle.wl_setup.specs.declared.bus.Bus.{Bus}
use Rattle.wl_setup.specs.declared.fault.SetupFault.{SetupFault}
use Rattle.wl_setup.specs.Buses.{bus_of_text}
use Rattle.wl_setup.specs.declared.bus.Deviation.{Deviation}
use Rattle.wl_setup.specs.declared.plan_text.PlanText.{PlanText}
use Rattle.wl_setup.specs.Plans.{plan_of_text}
use Rattle.wl_margin.specs.Margins.{paces_of}
use Rattle.wl_settings.specs.declared.asked.Asked.{Asked}
use Rattle.wl_settings.specs.declared.asked.Controller.{Controller}
use Rattle.wl_settings.specs.declared.asked.Setting.{Setting}
use Rattle.wl_settings.specs.declared.judged.Reach.{Reach}
use Rattle.wl_settings.specs.declared.judged.Refusal.{Refusal}
use Rattle.wl_settings.specs.declared.judged.WorkingSetting.{WorkingSetting}
use Rattle.wl_apply.specs.declared.chosen.QuantumLength.{QuantumLength}
use Rattle.wl_settings.specs.Plans.{for_nodes, setting_plan}

-- The family of a plan: that of the bus that it describes. There is none of a plan that can't be run.
abbrev pub family_in : Result Bus SetupFault → Option Buses
family_in (Err fault) = None
family_in (Ok bus) = option_map (family_of bus.plan) (paces_of bus.deviations)

unfoldable pub family_of_plan : PlanText → Option Buses
family_of_plan plan = family_in (bus_of_text plan)

-- the family of a setting's plan
abbrev pub family_at : Asked → ℕ → Setting → Option Buses
family_at a clock s = family_of_plan (setting_plan a clock s)

-- the plan, if it can be run
abbrev pub made_plan : Result Plan SetupFault → Option Plan
made_plan (Err fault) = None
made_plan (Ok plan) = Some plan

abbrev pub runnable_plan : PlanText → Option Plan
runnable_plan text = made_plan (plan_of_text text)

-- what the clock of each of its nodes may do
abbrev pub deviation_by : QuantumLength → ℕ → Deviation
deviation_by q tolerance = record { rates = record { from = 0; num = q.num; den = q.den } ∷ []; tolerance = tolerance }

abbrev pub deviations_of : Asked → QuantumLength → List Deviation
deviations_of a q = for_nodes a (λ n. deviation_by q a.tolerance)

abbrev pub all_paces : Asked → QuantumLength → Option (List Pace)
all_paces a q = paces_of (deviations_of a q)

-- the condition holds, or the first inequality that fails
abbrev pub holds_for : Senders → Option Buses → Bool
holds_for senders None = false
holds_for senders (Some f) = not (is_some (first_failure_of f plain senders))

abbrev pub failure_of_family : Senders → Option Buses → Option Failure
failure_of_family senders None = None
failure_of_family senders (Some f) = first_failure_of f plain senders

-- how far a bus may grow
pub record IsReach (f : Buses) (senders : Senders) (r : Reach) : Type 0 where
  pub longer : IsLongerCable f senders r.longer
  pub wider : IsWiderTolerance f senders r.wider

-- the part, in thousandths of what is asked for, by which something may grow
abbrev pub part : ℕ → Option ℕ → ℕ
part asked None = 0
part asked (Some n) = n * 1000 / max asked 1

abbrev pub lesser_part : Asked → Reach → ℕ
lesser_part a r = min (part a.cable r.longer) (part a.tolerance r.wider)

-- the lesser of the parts by which cable and tolerance may grow, with the senders that are asked for
abbrev pub reach_by : Senders → Reach → Reach → Reach
reach_by One one any = one
reach_by Any one any = any

abbrev pub margin : Asked → Reach → Reach → ℕ
margin a one any = lesser_part a (reach_by a.senders one any)

-- the figures of a row are those of a family
pub record AreFigures (a : Asked) (f : Buses) (r : WorkingSetting) : Type 0 where
  pub one : IsReach f One r.one
  pub any : IsReach f Any r.any
  pub margin : r.margin ≡ margin a r.one r.any

abbrev pub AreFiguresIn : Asked → Option Buses → WorkingSetting → Type 0
AreFiguresIn a None r = ⊥
AreFiguresIn a (Some f) r = AreFigures a f r

-- a row tells of its setting what is so
abbrev pub IsRow : Asked → Controller → WorkingSetting → Type 0
IsRow a c r = AreFiguresIn a (family_at a c.clock r.setting) r

-- the bus works with a setting
abbrev pub works : Asked → Controller → Setting → Bool
works a c s = holds_for a.senders (family_at a c.clock s)

-- what is found of one setting
abbrev pub IsRowOf : Asked → Controller → Setting → Option WorkingSetting → Type 0
IsRowOf a c s None = works a c s ≡ false
IsRowOf a c s (Some r) = (works a c s ≡ true) × (r.setting ≡ s) × IsRow a c r

-- what refuses a setting, and by how much
pub record IsShortfall (a : Asked) (c : Controller) (r : Refusal) : Type 0 where
  pub failure : failure_of_family a.senders (family_at a c.clock r.setting) ≡ Some r.failure
  pub shortage : r.shortage ≡ r.failure.sides.left - r.failure.sides.right

-- an inequality refuses a setting
abbrev pub is_failing : Asked → Controller → Setting → Bool
is_failing a c s = is_some (failure_of_family a.senders (family_at a c.clock s))

abbrev pub IsRefusalOf : Asked → Controller → Setting → Option Refusal → Type 0
IsRefusalOf a c s None = is_failing a c s ≡ false
IsRefusalOf a c s (Some r) = (is_failing a c s ≡ true) × (r.setting ≡ s) × IsShortfall a c r
