-- The traffic of a run as text: the bus, the messages, and why the run didn't work (this project's profile).
use Rattle.std.specs.Prelude.{◌≡◌, ℕ, List, [], ◌∷◌, ◌++◌, codes, Option, None}
use Rattle.std.specs.Fmt.{decimal}
use Rattle.wl_margin.specs.Pieces.{hundredths, joined}
use Rattle.wl_plan.specs.declared.plan.Plan.{Plan}
use Rattle.wl_respond.specs.declared.bounds.Waits.{Waits}
use Rattle.wl_respond.specs.Bounds.{AreWaitsOfBus}
use Rattle.wl_setup.specs.declared.bus.Bus.{Bus}
use Rattle.wl_setup.specs.declared.plan_text.PlanText.{PlanText}
use Rattle.wl_views.specs.declared.tick.Tick.{Tick}
use Rattle.wl_views.specs.Ticks.{microseconds, tick_picoseconds}
use Rattle.wl_serial.specs.Outcome.{outcome_of, totals_of}
use Rattle.wl_traffic.specs.Bounds.{bound_lines}
use Rattle.wl_traffic.specs.Bus.{bus_load, share_of}
use Rattle.wl_traffic.specs.Causes.{cause_lines, found_of}
use Rattle.wl_traffic.specs.Entries.{node_queues}
use Rattle.wl_traffic.specs.Healing.{healed_line}
use Rattle.wl_traffic.specs.Messages.{all_messages}
use Rattle.wl_traffic.specs.Unequal.{unequal_lines}
use Rattle.wl_traffic.specs.Reasons.{reason_of, reason_word}
use Rattle.wl_traffic.specs.Silence.{IsSilenceLine}
use Rattle.wl_traffic.specs.declared.load.Load.{Load}
use Rattle.wl_traffic.specs.declared.reason.Reason.{Reason}

-- how busy the bus was, and its longest pause, in whole microseconds
abbrev pub bus_line : Tick → (end : ℕ) → Load → List ℕ
bus_line tick end bus =
    joined (codes "bus load " ∷ hundredths (share_of bus.busy end) ∷ codes " % gap " ∷ decimal (microseconds tick bus.gap) ∷ codes " us\n" ∷ [])

abbrev pub verdict_words : Reason → List ℕ
verdict_words reason = joined (codes "verdict " ∷ reason_word reason ∷ codes "\n" ∷ [])

-- the bus, the messages of each node, bounds of their waits, the nodes that miss frames or have taken some twice, how soon the bus is clean after the last disturbance, what is proved of it after a silence, what the reason rests on, and the reason
abbrev pub bounded_text : Tick → Plan → List (List ℕ) → Option Waits → (silence : List ℕ) → List ℕ
bounded_text tick plan names waits silence =
    bus_line tick plan.end (bus_load plan) ++ all_messages tick plan names ++ bound_lines names waits
    ++ unequal_lines names (found_of plan).unequal ++ healed_line tick plan (node_queues plan) (reason_of plan) ++ silence
    ++ cause_lines tick names (found_of plan) (totals_of (outcome_of plan)) ++ verdict_words (reason_of plan)

-- of a run alone, without bounds, and without what is proved
abbrev pub traffic_text : Tick → Plan → List (List ℕ) → List ℕ
traffic_text tick plan names = bounded_text tick plan names None []

-- of a bus with the plan's text, with its bounds, and with what is proved of it after a silence
abbrev pub IsTrafficOfBus : Tick → PlanText → Bus → List ℕ → Type 0
IsTrafficOfBus tick plain bus text =
    (waits : Option Waits) × (silence : List ℕ) × AreWaitsOfBus (tick_picoseconds tick) plain bus waits
    × IsSilenceLine (tick_picoseconds tick) bus silence × (text ≡ bounded_text tick bus.plan bus.names waits silence)
