-- A node with another setting: its quantum, its segments and its jump width, and its frames at the same times (this project's profile).
use Rattle.std.specs.Prelude.{ℕ, ◌==◌, Bool, true, if◌then◌else◌, List, [], ◌∷◌, Option, Some, None, Result, Ok, Err}
use Rattle.std.specs.List.{enumerate_from}
use Rattle.wl_setup.specs.declared.plan_text.ClockText.{ClockText}
use Rattle.wl_setup.specs.declared.plan_text.ClockText.TheVariants.{Rate, Ppm, Fraction}
use Rattle.wl_setup.specs.declared.plan_text.FrameText.{FrameText}
use Rattle.wl_setup.specs.declared.plan_text.NodeText.{NodeText}
use Rattle.wl_setup.specs.declared.plan_text.RateText.{RateText}
use Rattle.wl_setup.specs.declared.plan_text.SegmentsText.{SegmentsText}
use Rattle.wl_setup.specs.declared.plan_text.SegmentsText.TheVariants.{Each, Controller}
use Rattle.wl_apply.specs.declared.chosen.Chosen.{Chosen}
use Rattle.wl_apply.specs.declared.chosen.QuantumLength.{QuantumLength}
use Rattle.wl_apply.specs.declared.fault.ApplyFault.{ApplyFault}
use Rattle.wl_apply.specs.declared.fault.ApplyFault.TheVariants.{Rates, WantsVersion4}
use Rattle.wl_apply.specs.Answers.{each_made, if_made}
use Rattle.wl_apply.specs.Moves.{frame_in_time, ratio_of}

-- the quantum of a clock without its deviation
abbrev pub nominal_quantum : ClockText → QuantumLength
nominal_quantum (Rate num den) = record { num = num; den = den }
nominal_quantum (Ppm quantum ppm) = record { num = quantum; den = 1 }
nominal_quantum (Fraction num den ppm) = record { num = num; den = den }

-- A clock with another quantum and the same deviation. A deviation beside a fraction is written in version 4 alone.
abbrev pub deviating_clock : Bool → QuantumLength → ClockText → Option ClockText
deviating_clock wide q (Rate num den) = Some (Rate q.num q.den)
deviating_clock wide q (Ppm quantum ppm) =
    if q.den == 1 then Some (Ppm q.num ppm) else (if wide then Some (Fraction q.num q.den ppm) else None)
deviating_clock wide q (Fraction num den ppm) = if wide then Some (Fraction q.num q.den ppm) else None

-- so are the segments of a controller
abbrev pub has_segments : Bool → SegmentsText → Bool
has_segments wide (Each prop ps1 ps2) = true
has_segments wide (Controller tseg1 tseg2) = wide

abbrev pub clock_for : Bool → Chosen → ClockText → Option ClockText
clock_for wide c clock = if has_segments wide c.segments then deviating_clock wide c.quantum clock else None

-- the clock of one rate
abbrev pub only_clock : List RateText → Option ClockText
only_clock (r ∷ []) = Some r.clock
only_clock rates = None

-- a node with a setting, a clock and frames: each other key stays
abbrev pub node_made : Chosen → ClockText → List FrameText → NodeText → NodeText
node_made c clock frames node =
    record node { rates = record { from = 0; clock = clock } ∷ []; segments = c.segments; sjw = c.sjw; frame = frames }

-- a numbered node with a setting, by its old clock and its new one
abbrev pub by_clocks : Chosen → ℕ × NodeText → ClockText → Option ClockText → Result NodeText ApplyFault
by_clocks c (i, node) old None = Err (WantsVersion4 i)
by_clocks c (i, node) old (Some clock) =
    if_made (each_made (frame_in_time (ratio_of (nominal_quantum old) c.quantum) i) (enumerate_from 0 node.frame)) (λ frames. Ok (node_made c clock frames node))

abbrev pub by_old_clock : Bool → Chosen → ℕ × NodeText → Option ClockText → Result NodeText ApplyFault
by_old_clock wide c (i, node) None = Err (Rates i)
by_old_clock wide c (i, node) (Some old) = by_clocks c (i, node) old (clock_for wide c old)

abbrev pub set_node : Bool → Chosen → ℕ × NodeText → Result NodeText ApplyFault
set_node wide c (i, node) = by_old_clock wide c (i, node) (only_clock node.rates)

-- or as it is, without a setting
abbrev pub node_by : Bool → Option Chosen → ℕ × NodeText → Result NodeText ApplyFault
node_by wide None (i, node) = Ok node
node_by wide (Some c) (i, node) = set_node wide c (i, node)
