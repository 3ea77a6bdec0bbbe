-- A plan text with other values (this project's profile).
use Rattle.std.specs.Prelude.{ℕ, ℤ, pos, ◌+◌, ◌-◌, ◌*◌, ◌/◌, ◌^◌, ◌==◌, min, max, unsigned_abs, neg_ℤ, Bool, true, map, Option, Some, None, if◌then◌else◌}
use Rattle.std.specs.Int.{div_ceil}
use Rattle.std.specs.List.{enumerate_from}
use Rattle.wl_setup.specs.declared.plan_text.PlanText.{PlanText}
use Rattle.wl_setup.specs.declared.plan_text.NodeText.{NodeText}
use Rattle.wl_setup.specs.declared.plan_text.RateText.{RateText}
use Rattle.wl_setup.specs.declared.plan_text.FrameText.{FrameText}
use Rattle.wl_setup.specs.declared.plan_text.ClockText.{ClockText}
use Rattle.wl_setup.specs.declared.plan_text.ClockText.TheVariants as text
use Rattle.wl_setup.specs.declared.plan_text.SegmentsText.{SegmentsText}
use Rattle.wl_setup.specs.declared.plan_text.SegmentsText.TheVariants as segments
use Rattle.wl_sweep.specs.declared.change.SweptKey.{SweptKey}
use Rattle.wl_sweep.specs.declared.change.SweptKey.TheVariants as key
use Rattle.wl_sweep.specs.declared.change.Side.{Side}
use Rattle.wl_sweep.specs.declared.change.Side.TheVariants.{Own, Slow, Fast}

-- a clock with another value of a key, if it has that key
abbrev pub clock_with : SweptKey → ℤ → ClockText → ClockText
clock_with key.Num value (text.Rate num den) = text.Rate (unsigned_abs value) den
clock_with key.Den value (text.Rate num den) = text.Rate num (unsigned_abs value)
clock_with key.Quantum value (text.Ppm quantum ppm) = text.Ppm (unsigned_abs value) ppm
clock_with key.Ppm value (text.Ppm quantum ppm) = text.Ppm quantum value
clock_with key.Num value (text.Fraction num den ppm) = text.Fraction (unsigned_abs value) den ppm
clock_with key.Den value (text.Fraction num den ppm) = text.Fraction num (unsigned_abs value) ppm
clock_with key.Ppm value (text.Fraction num den ppm) = text.Fraction num den value
clock_with k value clock = clock

abbrev pub rate_with : SweptKey → ℤ → RateText → RateText
rate_with k value rate = record rate { clock = clock_with k value rate.clock }

-- a number in the place of another one, if there is one
abbrev pub replaced : ℤ → Option ℕ → Option ℕ
replaced value None = None
replaced value (Some old) = Some (unsigned_abs value)

-- a frame with another value of a key, if it has that key
abbrev pub frame_with : SweptKey → ℤ → FrameText → FrameText
frame_with key.Every value frame = record frame { every = replaced value frame.every }
frame_with key.Count value frame = record frame { count = replaced value frame.count }
frame_with k value frame = frame

-- a value of a key that has 32 bits: of a place or a tolerance
abbrev pub narrowed : ℕ → ℕ
narrowed size = min size (2 ^ 32 - 1)

-- segments with another value of a key, if they have that key
abbrev pub segments_with : SweptKey → ℤ → SegmentsText → SegmentsText
segments_with key.Prop value (segments.Each prop ps1 ps2) = segments.Each (unsigned_abs value) ps1 ps2
segments_with key.Ps1 value (segments.Each prop ps1 ps2) = segments.Each prop (unsigned_abs value) ps2
segments_with key.Ps2 value (segments.Each prop ps1 ps2) = segments.Each prop ps1 (unsigned_abs value)
segments_with key.Tseg1 value (segments.Controller tseg1 tseg2) = segments.Controller (unsigned_abs value) tseg2
segments_with key.Tseg2 value (segments.Controller tseg1 tseg2) = segments.Controller tseg1 (unsigned_abs value)
segments_with k value s = s

-- a node with another value of a key that is no clock's and no frame's
abbrev pub node_with : SweptKey → ℤ → NodeText → NodeText
node_with key.Offset value node = record node { offset = unsigned_abs value }
node_with key.Prop value node = record node { segments = segments_with key.Prop value node.segments }
node_with key.Ps1 value node = record node { segments = segments_with key.Ps1 value node.segments }
node_with key.Ps2 value node = record node { segments = segments_with key.Ps2 value node.segments }
node_with key.Tseg1 value node = record node { segments = segments_with key.Tseg1 value node.segments }
node_with key.Tseg2 value node = record node { segments = segments_with key.Tseg2 value node.segments }
node_with key.Sjw value node = record node { sjw = unsigned_abs value }
node_with key.X value node = record node { x = narrowed (unsigned_abs value) }
node_with key.Out value node = record node { out_delay = unsigned_abs value }
node_with key.In value node = record node { in_delay = unsigned_abs value }
node_with key.Tolerance value node = record node { tolerance = Some (narrowed (unsigned_abs value)) }
node_with k value node = node

-- a node with another value of any key, if it has that key
abbrev pub node_set : SweptKey → ℤ → NodeText → NodeText
node_set k value node =
    node_with k value (record node { rates = map (rate_with k value) node.rates; frame = map (frame_with k value) node.frame })

-- a value is one of node i: each node's where none is named
abbrev pub is_of : Option ℕ → ℕ → Bool
is_of None i = true
is_of (Some node) i = node == i

abbrev pub set_at : SweptKey → Option ℕ → ℤ → ℕ × NodeText → NodeText
set_at k named value m = if is_of named m.0 then node_set k value m.1 else m.1

-- a text with another value of a key of the top table
abbrev pub top_with : SweptKey → ℤ → PlanText → PlanText
top_with key.End value plan = record plan { end = unsigned_abs value }
top_with key.Per value plan = record plan { per = unsigned_abs value }
top_with k value plan = plan

-- a text with another value of a key: of the top table, of the node that is named, or of each node that has it
abbrev pub text_with : SweptKey → Option ℕ → ℤ → PlanText → PlanText
text_with k named value plan = top_with k value (record plan { node = map (set_at k named value) (enumerate_from 0 plan.node) })

-- By how much both numbers of a rate are multiplied before it deviates: its denominator then has up to a million, as much as a clock allows.
abbrev pub refinement : ℕ → ℕ
refinement den = max (1000000 / max den 1) 1

-- so many ticks, longer or shorter by some ppm: a fraction is rounded towards the ticks, so that no clock leaves its tolerance
abbrev pub num_on : Side → ℕ → ℕ
num_on Own num = num
num_on (Slow ppm) num = num * (1000000 + ppm) / 1000000
num_on (Fast ppm) num = div_ceil (num * (1000000 - ppm)) 1000000

-- a rate of ticks and quanta
abbrev pub refined : Side → ℕ → ℕ → ClockText
refined side num den =
    text.Rate (min (num_on side (num * refinement den)) (2 ^ 64 - 1)) (min (den * refinement den) (2 ^ 64 - 1))

-- a deviation in the place of a clock's own, in ppm
abbrev pub ppm_on : Side → ℤ → ℤ
ppm_on Own own = own
ppm_on (Slow ppm) own = pos ppm
ppm_on (Fast ppm) own = neg_ℤ (pos ppm)

-- a clock that is slow or fast by some ppm, from what it is without its own `ppm`
abbrev pub clock_on : Side → ClockText → ClockText
clock_on side (text.Ppm quantum own) = text.Ppm quantum (ppm_on side own)
clock_on Own (text.Rate num den) = text.Rate num den
clock_on side (text.Rate num den) = refined side num den
clock_on Own (text.Fraction num den own) = text.Fraction num den own
clock_on side (text.Fraction num den own) = refined side num den

abbrev pub rate_on : Side → RateText → RateText
rate_on side rate = record rate { clock = clock_on side rate.clock }

-- a member's clock is what it is: no tolerance is left to a node that has a rate within its own
abbrev pub tolerance_on : Side → Option ℕ → Option ℕ
tolerance_on Own tolerance = tolerance
tolerance_on side tolerance = None

-- a node that begins `by` ticks later, and whose clock is on this side of its rates: of all at once, since they are one oscillator's
abbrev pub moved_node : ℕ → Side → NodeText → NodeText
moved_node by side node =
    record node {
      offset = min (node.offset + by) (2 ^ 64 - 1);
      rates = map (rate_on side) node.rates;
      tolerance = tolerance_on side node.tolerance;
    }
