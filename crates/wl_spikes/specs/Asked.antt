-- The spike that words mean in a plan's text (this project's profile).
use Rattle.std.specs.Prelude.{ℕ, ◌^◌, ◌&&◌, nat_lt, nat_le, max, List, [], ◌∷◌, codes, Option, Some, None, Result, Ok, Err, unwrap_or, if◌then◌else◌}
use Rattle.std.specs.Int.{div_ceil}
use Rattle.std.specs.Option.{option_or}
use Rattle.std.specs.Str.{bytes_eq}
use Rattle.wl_setup.specs.declared.limits.TheConstants.{LARGEST_SMALL}
use Rattle.wl_setup.specs.declared.plan_text.PlanText.{PlanText}
use Rattle.wl_units.specs.declared.quantity.Measure.{Measure}
use Rattle.wl_units.specs.declared.quantity.Measure.TheVariants.{Length, Time}
use Rattle.wl_units.specs.declared.scale.Scale.{Scale}
use Rattle.wl_units.specs.declared.scale.TheConstants.{MICROMETRES}
use Rattle.wl_units.specs.Scales.{number_said}
use Rattle.wl_sweep.specs.declared.options.Options.{Options}
use Rattle.wl_sweep.specs.Vary.{node_of, parted, size_of}
use Rattle.wl_spikes.specs.declared.asked.SpikeFault.{SpikeFault}
use Rattle.wl_spikes.specs.declared.asked.SpikeFault.TheVariants as fault
use Rattle.wl_spikes.specs.declared.asked.TheConstants.{FEMTOSECONDS}
use Rattle.wl_spikes.specs.declared.spike.Spike.{Spike}
use Rattle.wl_spikes.specs.declared.spike.Target.{Target}
use Rattle.wl_spikes.specs.declared.spike.Target.TheVariants.{Node, Place}
use Rattle.wl_spikes.specs.Members.{place_count}

-- how a plan's texts say times and lengths: a tick of 1 ns and a unit of 1 m if the plan doesn't say them
abbrev pub plan_scale : PlanText → Scale
plan_scale plan = record { tick = unwrap_or plan.tick FEMTOSECONDS; unit = unwrap_or plan.unit MICROMETRES }

-- a whole number, or a text with a unit that says one
abbrev pub quantity_said : Measure → PlanText → List ℕ → Option ℕ
quantity_said measure plan word = option_or (size_of word) (number_said measure (plan_scale plan) word)

-- a place on the cable: the value of the key `x`
abbrev pub place_said : Option ℕ → Result Target SpikeFault
place_said None = Err fault.Place
place_said (Some x) = if nat_le x LARGEST_SMALL then Ok (Place x) else Err fault.Place

abbrev pub place_named : PlanText → (key word : List ℕ) → Result Target SpikeFault
place_named plan key word = if bytes_eq key (codes "x") then place_said (quantity_said Length plan word) else Err fault.Node

-- a node by its name or its number; from version 3 on a disturbance may be at one
abbrev pub node_found : (version : ℕ) → Option ℕ → Result Target SpikeFault
node_found version None = Err fault.Node
node_found version (Some i) = if nat_lt version 3 then Err fault.Version else Ok (Node i)

abbrev pub target_in : PlanText → (word : List ℕ) → Option (List ℕ × List ℕ) → Result Target SpikeFault
target_in plan word None = node_found plan.version (node_of plan.node word)
target_in plan word (Some (key, value)) = place_named plan key value

-- NODE, or `x=PLACE`; `=` is 61
abbrev pub target_named : PlanText → List ℕ → Result Target SpikeFault
target_named plan word = target_in plan word (parted 61 word)

-- a length of one tick or more that the plan has
abbrev pub length_said : (end : ℕ) → Option ℕ → Result ℕ SpikeFault
length_said end None = Err fault.Length
length_said end (Some ticks) = if nat_lt 0 ticks && nat_le ticks end then Ok ticks else Err fault.Length

abbrev pub length_named : PlanText → List ℕ → Result ℕ SpikeFault
length_named plan word = length_said plan.end (quantity_said Time plan word)

-- the ticks between two places in time: those that are given, or as few as make no more members than are to be run
abbrev pub spike_step : Options → (end : ℕ) → ℕ
spike_step options end = unwrap_or options.step (max (div_ceil end (max options.runs 1)) 1)

-- the members have numbers of 32 bits
abbrev pub if_countable : (end : ℕ) → Spike → Result Spike SpikeFault
if_countable end spike = if nat_lt (place_count spike.step end) (2 ^ 32) then Ok spike else Err fault.Places

-- what is made of a value, if there is one
abbrev pub after_spike : {T U : Type 0} → Result T SpikeFault → (T → Result U SpikeFault) → Result U SpikeFault
after_spike (Ok x) make = make x
after_spike (Err e) make = Err e

abbrev pub spike_named : PlanText → Options → (at length : List ℕ) → Result Spike SpikeFault
spike_named plan options at length =
    after_spike (target_named plan at)
    (λ target. after_spike (length_named plan length)
    (λ ticks. if_countable plan.end (record { target = target; length = ticks; step = spike_step options plan.end })))

-- two words: where the spike is, and its length
abbrev pub spike_of_words : PlanText → Options → List (List ℕ) → Result Spike SpikeFault
spike_of_words plan options [] = Err fault.Words
spike_of_words plan options (at ∷ []) = Err fault.Words
spike_of_words plan options (at ∷ length ∷ []) = spike_named plan options at length
spike_of_words plan options (at ∷ length ∷ w ∷ ws) = Err fault.Words
