-- What a spike costs: the class of a member, by the verdict of `traffic` on its plan (this project's profile).
use Rattle.std.specs.Prelude.{ℕ, ◌-◌, ◌||◌, nat_le, max, Bool, true, false, List, fold, Result, Ok, Err}
use Rattle.std.specs.List.{list_any}
use Rattle.wl_plan.specs.declared.plan.Plan.{Plan}
use Rattle.wl_serial.specs.declared.outcome.NodeTotals.{NodeTotals}
use Rattle.wl_serial.specs.Outcome.{outcome_of, totals_of}
use Rattle.wl_setup.specs.declared.fault.SetupFault.{SetupFault}
use Rattle.wl_setup.specs.declared.plan_text.PlanText.{PlanText}
use Rattle.wl_setup.specs.Plans.{plan_of_text}
use Rattle.wl_traffic.specs.Entries.{node_queues}
use Rattle.wl_traffic.specs.Healing.{clean_from}
use Rattle.wl_traffic.specs.Reasons.{has_unsent, reason_of}
use Rattle.wl_traffic.specs.declared.reason.Reason.{Reason}
use Rattle.wl_traffic.specs.declared.reason.Reason.TheVariants as reason
use Rattle.wl_spikes.specs.declared.aftermath.Aftermath.{Aftermath}
use Rattle.wl_spikes.specs.declared.aftermath.Class.{Class}
use Rattle.wl_spikes.specs.declared.aftermath.Class.TheVariants.{Clean, Healed, Late, Unhealed, Twice, Missed, Off, Refused}
use Rattle.wl_spikes.specs.declared.spike.Spike.{Spike}
use Rattle.wl_spikes.specs.Members.{spike_to, spiked}

-- the classes from the best to the worst
abbrev pub rank_of : Class → ℕ
rank_of Clean = 0
rank_of Healed = 1
rank_of Late = 2
rank_of Unhealed = 3
rank_of Twice = 4
rank_of Missed = 5
rank_of Off = 6
rank_of Refused = 7

-- something is still open at the end: a frame is left to send, or a node is at a flag
abbrev pub if_closed : (pending : Bool) → Class → Class
if_closed true class = Unhealed
if_closed false class = class

-- The reason that `traffic` gives, and for the reasons other than these three whether something is open. Late is: no error, but a message is late, or a node
-- is deaf.
abbrev pub class_of : Reason → (pending : Bool) → Class
class_of reason.BusOff pending = Off
class_of reason.Missed pending = Missed
class_of reason.TakenTwice pending = Twice
class_of reason.Errors pending = if_closed pending Healed
class_of reason.Works pending = if_closed pending Clean
class_of reason.Overloaded pending = if_closed pending Late
class_of reason.Starved pending = if_closed pending Late
class_of reason.EndsTooEarly pending = if_closed pending Late
class_of reason.Deaf pending = if_closed pending Late

-- the greatest error counters at the end (Bosch CAN 2.0 part B, section 8)
abbrev pub most_tec : List NodeTotals → ℕ
most_tec nodes = fold (λ most (n : NodeTotals). max most n.counters.tec) 0 nodes

abbrev pub most_rec : List NodeTotals → ℕ
most_rec nodes = fold (λ most (n : NodeTotals). max most n.counters.rec) 0 nodes

-- until when some node is at an error or overload flag or its delimiter
abbrev pub plan_trouble : Plan → ℕ
plan_trouble plan = clean_from 0 (node_queues plan)

-- of a plan whose spike is over at this tick
abbrev pub aftermath_of : (to : ℕ) → Plan → Aftermath
aftermath_of to plan = record {
  class = class_of (reason_of plan) (list_any has_unsent (totals_of (outcome_of plan)) || nat_le plan.end (plan_trouble plan));
  trouble = plan_trouble plan - to;
  tec = most_tec (totals_of (outcome_of plan));
  rec = most_rec (totals_of (outcome_of plan));
}

-- of a plan that can't be run
abbrev pub aftermath_of_result : (to : ℕ) → Result Plan SetupFault → Aftermath
aftermath_of_result to (Ok plan) = aftermath_of to plan
aftermath_of_result to (Err fault) = record { class = Refused; trouble = 0; tec = 0; rec = 0 }

-- of a member by its number
abbrev pub aftermath_at : Spike → PlanText → ℕ → Aftermath
aftermath_at spike plan n = aftermath_of_result (spike_to spike n) (plan_of_text (spiked spike plan n))
