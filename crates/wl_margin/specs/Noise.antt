-- What a bus's margin says of noise (this project's profile).
use Rattle.std.specs.Prelude.{ℕ, ◌*◌, ◌/◌, List, [], ◌∷◌, ◌++◌, codes, length, Option, Some, None}
use Rattle.wl_segments.specs.Lengths.{bit_quanta}
use Rattle.wl_setup.specs.Names.{name_of}
use Rattle.wl_bound.specs.Conditions.{plain}
use Rattle.wl_bound.specs.Families.{Buses, member_at}
use Rattle.wl_bound.specs.Helps.{least}
use Rattle.wl_bound.specs.Oscillators.{shortest_of}
use Rattle.wl_bound.specs.Searches.{each}
use Rattle.wl_bound.specs.Spikes.{worst_hiding}
use Rattle.wl_bound.specs.declared.condition.Senders.{Senders}
use Rattle.wl_bound.specs.declared.condition.Senders.TheVariants.{Any, One}
use Rattle.wl_bound.specs.declared.spikes.Hiding.{Hiding}
use Rattle.wl_bound.specs.declared.verdict.Verdict.{Verdict}
use Rattle.wl_bound.specs.declared.verdict.Verdict.TheVariants.{ForAny, ForOne, DoesNotHold, NoBound}
use Rattle.wl_margin.specs.Pieces.{joined, thousandths}
use Rattle.wl_margin.specs.Sentences.{Measure, around_words, measure_of, picoseconds_within, spare_words}

-- The law is on one wire, to which each machine drives its level: a node that only listens doesn't (`active_machines_heal` of wl_heal; Bosch CAN 2.0 part B, section 8).
abbrev pub heal_line : List ℕ
heal_line = codes "noise: error active nodes that acknowledge are in step again 209 bits after a disturbance, on one wire, proved: active_machines_heal\n"

-- the shortest bit of a node, in millionths of a tick
abbrev pub short_bit : Buses → ℕ → ℕ
short_bit f i = bit_quanta (member_at f i).segments * shortest_of (member_at f i).oscillator 0

abbrev pub shortest_bit : Buses → ℕ
shortest_bit f = least (length f.members) each (short_bit f)

-- 242 bits leave a TEC of 0 below 256 (`what_a_disturbance_counts` of wl_heal; Bosch CAN 2.0 part B, section 8). They are said in thousandths of a microsecond, rounded down.
abbrev pub counted_line : List ℕ → List ℕ
counted_line time =
    joined (codes "noise: n bits raise a TEC by n + 13 at most, so from 0 to bus off it takes more than 242 bits (" ∷ time
    ∷ codes " us), proved: what_a_disturbance_counts\n" ∷ [])

abbrev pub bus_off_time : ℕ → Buses → List ℕ
bus_off_time tick f = thousandths (picoseconds_within (record { tick = tick; quantum = 1 }) (242 * shortest_bit f) / 1000)

-- one spike may hide a frame of a from b, since a has too little time to spare for the bits of b
abbrev pub spike_line : List ℕ → List ℕ → List ℕ → List ℕ → List ℕ
spike_line a b late jumps =
    joined (codes "noise: one spike may hide a frame of " ∷ a ∷ codes " from " ∷ b ∷ codes ", as far as searched: late " ∷ late
    ∷ codes ", and their jumps take " ∷ jumps ∷ codes "\n" ∷ [])

abbrev pub no_spike_line : List ℕ
no_spike_line = codes "noise: no spike shorter than a bit hides a frame from an error active node that acknowledges, as far as searched\n"

-- the line of a pair, in the units of the sender
abbrev pub hidden_words : Measure → List (List ℕ) → Hiding → List ℕ
hidden_words m names h = spike_line (name_of names h.sender) (name_of names h.receiver) (spare_words m h.late) (around_words m h.jumps)

-- as a bus passes the test or not
abbrev pub hiding_words : ℕ → Buses → List (List ℕ) → Option Hiding → List ℕ
hiding_words tick f names None = no_spike_line
hiding_words tick f names (Some h) = hidden_words (measure_of tick f h.sender) names h

abbrev pub spike_words : ℕ → Buses → List (List ℕ) → Senders → List ℕ
spike_words tick f names senders = hiding_words tick f names (worst_hiding f plain senders)

-- An error passive node needs 16 recessive bits, 11 of them the end of a frame and its intermission (Bosch CAN 2.0 part B, sections 3.2 and 8).
abbrev pub passive_line : List ℕ
passive_line = codes "noise: an error passive node may need 5 idle bits after each frame to be in step again, as far as searched\n"

abbrev pub noise_lines : ℕ → Buses → List (List ℕ) → Senders → List ℕ
noise_lines tick f names senders = heal_line ++ counted_line (bus_off_time tick f) ++ spike_words tick f names senders ++ passive_line

-- only if the condition holds
abbrev pub noise_words : ℕ → Buses → List (List ℕ) → Verdict → List ℕ
noise_words tick f names ForAny = noise_lines tick f names Any
noise_words tick f names ForOne = noise_lines tick f names One
noise_words tick f names (DoesNotHold failure) = []
noise_words tick f names (NoBound cause) = []
