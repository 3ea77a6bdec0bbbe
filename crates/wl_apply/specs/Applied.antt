-- A plan with other settings of its controllers: nothing else changes, and each time stays (this project's profile).
use Rattle.std.specs.Prelude.{◌≡◌, ◌≤◌, ℕ, ◌*◌, ◌==◌, Bool, true, if◌then◌else◌, List, All, Option, Some, None, Result, Ok, Err}
use Rattle.std.specs.List.{enumerate_from}
use Rattle.toml.specs.Data.{Members}
use Rattle.wl_plan.specs.declared.plan.Plan.{Plan}
use Rattle.wl_setup.specs.declared.fault.SetupFault.{SetupFault}
use Rattle.wl_setup.specs.declared.fault.SetupFault.TheVariants as setup
use Rattle.wl_setup.specs.declared.plan_text.NodeText.{NodeText}
use Rattle.wl_setup.specs.declared.plan_text.PlanText.{PlanText}
use Rattle.wl_setup.specs.declared.plan_text.SegmentsText.{SegmentsText}
use Rattle.wl_setup.specs.declared.plan_text.SegmentsText.TheVariants.{Each, Controller}
use Rattle.wl_setup.specs.declared.limits.TheConstants.{LARGEST_NUMBER}
use Rattle.wl_setup.specs.Plans.{plan_of_text}
use Rattle.wl_setup.specs.Reading.{text_answer}
use Rattle.wl_setup.specs.Version.{has_controllers}
use Rattle.wl_print.specs.Written.{plan_words}
use Rattle.wl_apply.specs.declared.chosen.Chosen.{Chosen}
use Rattle.wl_apply.specs.declared.fault.ApplyFault.{ApplyFault}
use Rattle.wl_apply.specs.declared.fault.ApplyFault.TheVariants as fault
use Rattle.wl_apply.specs.declared.labels.Label.{Label}
use Rattle.wl_apply.specs.Answers.{each_made, if_made}
use Rattle.wl_apply.specs.Labels.{first_fitting, first_unnamed, labels_of}
use Rattle.wl_apply.specs.Nodes.{node_by}

-- a fault of a plan's text as one of a plan with settings
abbrev pub setup_refusal : SetupFault → ApplyFault
setup_refusal setup.Memory = fault.Memory
setup_refusal refusal = fault.Setup refusal

-- what is made of a plan that can be run
abbrev pub if_runs : {T : Type 0} → Result Plan SetupFault → Result T ApplyFault → Result T ApplyFault
if_runs (Ok plan) made = made
if_runs (Err refusal) made = Err (setup_refusal refusal)

-- a tick of a plan takes this number of picoseconds, as far as the plan says it
abbrev pub is_tick_said : ℕ → Option ℕ → Bool
is_tick_said tick None = true
is_tick_said tick (Some said) = said == tick * 1000

-- a numbered node with the first setting that is for it
abbrev pub node_at : Bool → List Chosen → List Label → ℕ × NodeText → Result NodeText ApplyFault
node_at wide chosen labels (i, node) = node_by wide (first_fitting labels (i, node) chosen) (i, node)

-- each setting is for some node
abbrev pub named_all : Option Chosen → Result (Unit {0}) ApplyFault
named_all None = Ok tt
named_all (Some c) = Err (fault.NoNode c.name)

-- the plan with its nodes' settings: each other key stays
abbrev pub set_plan : List Chosen → List Label → PlanText → Result PlanText ApplyFault
set_plan chosen labels read =
    if_made (named_all (first_unnamed labels read.node chosen)) (λ u.
    if_made (each_made (node_at (has_controllers read.version) chosen labels) (enumerate_from 0 read.node)) (λ nodes. Ok (record read { node = nodes })))

-- a plan that can be run
abbrev pub if_made_runs : Result PlanText ApplyFault → Result PlanText ApplyFault
if_made_runs (Ok made) = if_runs (plan_of_text made) (Ok made)
if_made_runs (Err refusal) = Err refusal

abbrev pub applied : ℕ → List Chosen → Members → PlanText → Result PlanText ApplyFault
applied tick chosen top read =
    if_runs (plan_of_text read) (if is_tick_said tick read.tick then if_made_runs (set_plan chosen (labels_of top) read) else Err fault.Tick)

-- the text of such a plan
abbrev pub IsWritten : Result PlanText ApplyFault → List ℕ → Type 0
IsWritten answer text = (made : PlanText) × (answer ≡ Ok made) × (text ≡ plan_words made)

-- the numbers of a setting are numbers of a plan's text
abbrev pub AreNumbersOfKeys : SegmentsText → Type 0
AreNumbersOfKeys (Each prop ps1 ps2) = (prop ≤ LARGEST_NUMBER) × (ps1 ≤ LARGEST_NUMBER) × (ps2 ≤ LARGEST_NUMBER)
AreNumbersOfKeys (Controller tseg1 tseg2) = (tseg1 ≤ LARGEST_NUMBER) × (tseg2 ≤ LARGEST_NUMBER)

pub record IsWritable (c : Chosen) : Type 0 where
  pub num : c.quantum.num ≤ LARGEST_NUMBER
  pub den : c.quantum.den ≤ LARGEST_NUMBER
  pub segments : AreNumbersOfKeys c.segments
  pub sjw : c.sjw ≤ LARGEST_NUMBER

-- if they are, what is written of a plan that was read is read as the plan with these settings
abbrev pub IsReadBack : ℕ → List Chosen → Members → PlanText → List ℕ → Type 0
IsReadBack tick chosen top read text =
    (bytes : List ℕ) (made : PlanText) → text_answer bytes ≡ Ok read → All IsWritable chosen → applied tick chosen top read ≡ Ok made → text_answer text ≡ Ok made
