-- What is found of a member: when a bus works (this project's profile).
use Rattle.std.specs.Prelude.{◌≡◌, ◌↔◌, ℕ, ◌==◌, ◌&&◌, Bool, true, false, not, List, [], ◌∷◌, map, slice_get, Option, Some, None, Result, Ok, Err, if◌then◌else◌}
use Rattle.std.specs.List.{All, list_all, list_any, sum_by}
use Rattle.wl_confine.specs.declared.Mode.{Mode}
use Rattle.wl_confine.specs.declared.Mode.TheVariants as mode
use Rattle.wl_confine.specs.Counts.{mode_of}
use Rattle.wl_frame.specs.Grammar.{Content}
use Rattle.wl_frame.specs.Same.{same_content}
use Rattle.wl_node.specs.declared.setup.Passed.{Passed}
use Rattle.wl_plan.specs.declared.plan.Plan.{Plan}
use Rattle.wl_serial.specs.declared.outcome.NodeTotals.{NodeTotals}
use Rattle.wl_serial.specs.Outcome.{outcome_of, totals_of}
use Rattle.wl_setup.specs.declared.fault.SetupFault.{SetupFault}
use Rattle.wl_setup.specs.declared.plan_text.PlanText.{PlanText}
use Rattle.wl_setup.specs.Plans.{plan_of_text}
use Rattle.wl_sweep.specs.declared.finding.Finding.{Finding}
use Rattle.wl_sweep.specs.declared.finding.Finding.TheVariants.{Clean, Faulty, Off, Early, Missed, Refused}

abbrev pub is_clean : Finding → Bool
is_clean Clean = true
is_clean (Faulty errors unsent) = false
is_clean Off = false
is_clean (Early unsent) = false
is_clean Missed = false
is_clean (Refused fault) = false

abbrev pub is_early : Finding → Bool
is_early Clean = false
is_early (Faulty errors unsent) = false
is_early Off = false
is_early (Early unsent) = true
is_early Missed = false
is_early (Refused fault) = false

abbrev pub is_refused : Finding → Bool
is_refused Clean = false
is_refused (Faulty errors unsent) = false
is_refused Off = false
is_refused (Early unsent) = false
is_refused Missed = false
is_refused (Refused fault) = true

-- a bus was run, and isn't clean
abbrev pub is_unclean : Finding → Bool
is_unclean Clean = false
is_unclean (Faulty errors unsent) = true
is_unclean Off = true
is_unclean (Early unsent) = true
is_unclean Missed = true
is_unclean (Refused fault) = false

abbrev pub is_off_mode : Mode → Bool
is_off_mode mode.Active = false
is_off_mode mode.Passive = false
is_off_mode mode.Off = true

-- a node is off the bus; Bosch CAN 2.0 part B, section 8
abbrev pub is_off_bus : NodeTotals → Bool
is_off_bus n = is_off_mode (mode_of n.counters)

abbrev pub some_off : List NodeTotals → Bool
some_off nodes = list_any is_off_bus nodes

-- what passed through a node, sent or received, in order
abbrev pub contents : List Passed → List Content
contents passed = map (λ (p : Passed). p.frame) passed

-- the same frames passed through two nodes, in the same order
abbrev pub like : List Passed → List Passed → Bool
like [] [] = true
like [] (q ∷ qs) = false
like (p ∷ ps) [] = false
like (p ∷ ps) (q ∷ qs) = same_content p.frame q.frame && like ps qs

abbrev pub like_first : Option NodeTotals → List NodeTotals → Bool
like_first None nodes = true
like_first (Some first) nodes = list_all (λ (n : NodeTotals). like first.frames n.frames) nodes

-- the same frames passed through all nodes: each frame that one sent, every other one received
abbrev pub all_like : List NodeTotals → Bool
all_like nodes = like_first (slice_get nodes 0) nodes

-- the errors that were found, and the frames that were left to send
abbrev pub errors_in : List NodeTotals → ℕ
errors_in nodes = sum_by (λ (n : NodeTotals). n.errors) nodes

abbrev pub unsent_in : List NodeTotals → ℕ
unsent_in nodes = sum_by (λ (n : NodeTotals). n.unsent) nodes

-- the first finding that applies
abbrev pub finding_of_totals : List NodeTotals → Finding
finding_of_totals nodes =
    if not (errors_in nodes == 0) then Faulty (errors_in nodes) (unsent_in nodes)
    else if some_off nodes then Off
    else if not (unsent_in nodes == 0) then Early (unsent_in nodes)
    else if not (all_like nodes) then Missed
    else Clean

-- of a plan that can be run what the tick-by-tick simulation shows, and else the fault
abbrev pub finding_of_result : Result Plan SetupFault → Finding
finding_of_result (Ok plan) = finding_of_totals (totals_of (outcome_of plan))
finding_of_result (Err fault) = Refused fault

abbrev pub finding_of_text : PlanText → Finding
finding_of_text plan = finding_of_result (plan_of_text plan)

-- a bus works
pub record IsWorking (nodes : List NodeTotals) : Type 0 where
  pub errors : errors_in nodes ≡ 0
  pub unsent : unsent_in nodes ≡ 0
  pub on : All (λ (n : NodeTotals). is_off_bus n ≡ false) nodes
  pub whole : (first : NodeTotals) → slice_get nodes 0 ≡ Some first → All (λ (n : NodeTotals). contents n.frames ≡ contents first.frames) nodes

-- clean is a bus that works, and no other
abbrev pub CleanIsClean : Type 0
CleanIsClean = (nodes : List NodeTotals) → (finding_of_totals nodes ≡ Clean) ↔ IsWorking nodes
