-- What a sweep of spikes says (this project's profile).
use Rattle.std.specs.Prelude.{ℕ, ◌+◌, nat_lt, max, List, [], ◌++◌, codes, slice_get, Option, Some, None, if◌then◌else◌}
use Rattle.std.specs.Option.{option_map_or}
use Rattle.std.specs.Int.{div_ceil}
use Rattle.std.specs.Fmt.{decimal}
use Rattle.wl_setup.specs.declared.plan_text.NodeText.{NodeText}
use Rattle.wl_setup.specs.declared.plan_text.PlanText.{PlanText}
use Rattle.wl_sweep.specs.Family.{bit_in}
use Rattle.wl_spikes.specs.declared.spike.Spikes.{Spikes}
use Rattle.wl_spikes.specs.declared.spike.Target.{Target}
use Rattle.wl_spikes.specs.declared.spike.Target.TheVariants.{Node, Place}
use Rattle.wl_spikes.specs.declared.tally.ClassTally.{ClassTally}
use Rattle.wl_spikes.specs.declared.tally.SpikeTally.{SpikeTally}
use Rattle.wl_spikes.specs.Members.{spiked_name, spike_count, spike_from, spiked}
use Rattle.wl_spikes.specs.Tallies.{all_aftermaths, spike_tally}

-- where the spike is: the name of its node, or its place on the cable
abbrev pub spiked_node_words : Option (List ℕ) → List ℕ
spiked_node_words None = codes "?"
spiked_node_words (Some name) = name

abbrev pub target_words : List NodeText → Target → List ℕ
target_words nodes (Node i) = spiked_node_words (spiked_name nodes i)
target_words nodes (Place x) = codes "x=" ++ decimal x

-- the ticks of a bit of the first node
abbrev pub spike_bit : List NodeText → ℕ
spike_bit nodes = option_map_or bit_in (slice_get nodes 0) 1

-- ticks in bits, rounded up
abbrev pub bits_of_ticks : (bit ticks : ℕ) → ℕ
bits_of_ticks bit ticks = div_ceil ticks (max bit 1)

-- how many members are of a class
abbrev pub class_words : (name : List ℕ) → ClassTally → List ℕ
class_words name t = codes ", " ++ name ++ codes " in " ++ decimal t.count

-- which spike is swept
abbrev pub swept_spike_words : Spikes → List ℕ
swept_spike_words s =
    codes "spike " ++ target_words s.text.node s.spike.target ++ codes " length " ++ decimal s.spike.length ++ codes " step " ++ decimal s.spike.step
    ++ codes " "

-- how many members are clean, and how many of each class are not
abbrev pub clean_member_words : SpikeTally → List ℕ
clean_member_words t = codes "clean in " ++ decimal t.clean.count ++ codes " of " ++ decimal t.runs

abbrev pub classes_words : SpikeTally → List ℕ
classes_words t =
    class_words (codes "healed") t.healed ++ class_words (codes "late") t.late ++ class_words (codes "unhealed") t.unhealed
    ++ class_words (codes "twice") t.twice ++ class_words (codes "missed") t.missed ++ class_words (codes "bus off") t.off
    ++ class_words (codes "refused") t.refused

-- the longest time from a spike's end until no node is at a flag any more, and the greatest error counters at an end
abbrev pub worst_words : (bit : ℕ) → SpikeTally → List ℕ
worst_words bit t =
    codes "; longest " ++ decimal (bits_of_ticks bit t.longest) ++ codes " bits; tec " ++ decimal t.tec ++ codes ", rec " ++ decimal t.rec ++ codes "\n"

-- what a member changes
abbrev pub spike_change : Spikes → ℕ → List ℕ
spike_change s n = codes ", from = " ++ decimal (spike_from s.spike n)

-- the first member of a class, if there is one
abbrev pub first_spike_words : Spikes → (name : List ℕ) → Option ℕ → List ℕ
first_spike_words s name None = []
first_spike_words s name (Some n) = codes "first " ++ name ++ codes ": member " ++ decimal n ++ spike_change s n ++ codes "\n"

-- the first members of the classes, the worst first
abbrev pub firsts_words : Spikes → SpikeTally → List ℕ
firsts_words s t =
    first_spike_words s (codes "refused") t.refused.first ++ first_spike_words s (codes "bus off") t.off.first ++ first_spike_words s (codes "missed") t.missed.first
    ++ first_spike_words s (codes "twice") t.twice.first ++ first_spike_words s (codes "unhealed") t.unhealed.first ++ first_spike_words s (codes "late") t.late.first
    ++ first_spike_words s (codes "healed") t.healed.first

-- all that is said of a tally
abbrev pub said_of_spikes : Spikes → SpikeTally → List ℕ
said_of_spikes s t = swept_spike_words s ++ clean_member_words t ++ classes_words t ++ worst_words (spike_bit s.text.node) t ++ firsts_words s t

-- what a sweep of spikes says
abbrev pub spikes_text : Spikes → List ℕ
spikes_text s = said_of_spikes s (spike_tally (all_aftermaths s))

-- a member by its number: what it changes, and its plan's text
abbrev pub spiked_change : Spikes → ℕ → List ℕ
spiked_change s n = codes ", spike " ++ target_words s.text.node s.spike.target ++ codes " length " ++ decimal s.spike.length ++ spike_change s n

abbrev pub spiked_at : Spikes → ℕ → Option (List ℕ × PlanText)
spiked_at s n = if nat_lt n (spike_count s.spike s.text) then Some (spiked_change s n, spiked s.spike s.text n) else None
