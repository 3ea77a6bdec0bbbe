-- Which bus, or which fault, belongs to a plan's text (this project's profile).
use Rattle.std.specs.Prelude.{◌≡◌, ◌≢◌, ℕ, pos, List, map, length, Option, Some, None, unwrap_or, Result, Ok, Err, MatchResult}
use Rattle.std.specs.List.{enumerate_from}
use Rattle.toml.specs.Data.{Members}
use Rattle.wl_device.specs.Devices.{Answer}
use Rattle.wl_plan.specs.declared.plan.Plan.{Plan}
use Rattle.wl_setup.specs.declared.bus.Bus.{Bus}
use Rattle.wl_setup.specs.declared.bus.Deviation.{Deviation}
use Rattle.wl_setup.specs.declared.fault.SetupFault.{SetupFault}
use Rattle.wl_setup.specs.declared.fault.SetupFault.TheVariants.{Memory}
use Rattle.wl_setup.specs.declared.table_path.PlacedFault.{PlacedFault}
use Rattle.wl_setup.specs.Document.{fault_path, plan_text_of}
use Rattle.wl_setup.specs.declared.plan_text.PlanText.{PlanText}
use Rattle.wl_setup.specs.declared.plan_text.NodeText.{NodeText}
use Rattle.wl_setup.specs.declared.plan_text.RateText.{RateText}
use Rattle.wl_setup.specs.declared.plan_text.ClockText.{ClockText}
use Rattle.wl_setup.specs.declared.plan_text.ClockText.TheVariants.{Rate, Ppm, Fraction}
use Rattle.wl_setup.specs.Names.{names_of}
use Rattle.wl_setup.specs.Plans.{after, each, rate_in, plan_of_text}
use Rattle.wl_setup.specs.Reading.{ReadsPlan}

-- a clock and a rate as they are written, but for `ppm`
abbrev pub nominal_clock : ClockText → ClockText
nominal_clock (Rate num den) = Rate num den
nominal_clock (Ppm quantum ppm) = Ppm quantum (pos 0)
nominal_clock (Fraction num den ppm) = Rate num den

abbrev pub nominal : RateText → RateText
nominal r = record { from = r.from; clock = nominal_clock r.clock }

-- A clock deviates from its rates without `ppm` if the node has a tolerance; else it has its own rates and no others.
abbrev pub rates_under : Option ℕ → List RateText → List RateText
rates_under None rates = rates
rates_under (Some ppm) rates = map nominal rates

abbrev pub rate_texts : NodeText → List RateText
rate_texts node = rates_under node.tolerance node.rates

-- what the clock of a numbered node may do
abbrev pub deviation_of : ℕ × NodeText → Result Deviation SetupFault
deviation_of (i, node) =
    after (each (rate_in i) (rate_texts node)) (λ rates. Ok (record { rates = rates; tolerance = unwrap_or node.tolerance 0 }))

-- the plan, the names of the nodes and what their clocks may do; or the first fault, which is the plan's
abbrev pub bus_of_text : PlanText → Result Bus SetupFault
bus_of_text text =
    after (plan_of_text text)
    (λ plan. after (each deviation_of (enumerate_from 0 text.node))
    (λ deviations. Ok (record { plan = plan; names = names_of text; deviations = deviations })))

-- A bus is refused exactly as its plan is; else its plan is that one, with a deviation and a name for each node.
abbrev pub IsOfPlan : Result Plan SetupFault → Result Bus SetupFault → Type 0
IsOfPlan (Ok plan) (Ok bus) =
    (bus.plan ≡ plan) × (length bus.deviations ≡ length plan.nodes) × (length bus.names ≡ length plan.nodes)
IsOfPlan (Err fault) (Err refusal) = refusal ≡ fault
IsOfPlan _ _ = ⊥

abbrev pub BusesAreOfPlans : Type 0
BusesAreOfPlans = (text : PlanText) → IsOfPlan (plan_of_text text) (bus_of_text text)

-- the reader gave, in one reading, a text that has this answer: the text's own first fault, or else its bus's
abbrev pub GivesBus : {S : Type 0} → (S → Answer → S → Type 0) → S → Result Bus SetupFault → S → Type 0
GivesBus gives s answer t = (read : Result PlanText SetupFault) × ReadsPlan gives s read t × (answer ≡ after read bus_of_text)

-- the bus of a document, or its first fault and its place
abbrev pub IsBusOf : Members → Result Bus PlacedFault → Type 0
IsBusOf top answer =
    MatchResult answer
    (λ bus. after (plan_text_of top) bus_of_text ≡ Ok bus)
    (λ e. e.fault ≢ Memory → (after (plan_text_of top) bus_of_text ≡ Err e.fault) × (e.path ≡ fault_path top))
