-- The words of a sweep's ranges, [NODE.]KEY=A..B[:STEP] (this project's profile).
use Rattle.std.specs.Prelude.{◌≡◌, ◌≢◌, ℕ, ℤ, pos, ◌+◌, ◌*◌, ◌/◌, ◌==◌, ◌&&◌, ◌||◌, ◌+ℤ◌, ◌-ℤ◌, nat_lt, nat_le, int_lt, max, unsigned_abs, Bool, true, false, not, List, [], ◌∷◌, length, map, fold, codes, neg_ℤ, option_map, is_some, slice_get, Option, Some, None, Result, Ok, Err, MatchResult, if◌then◌else◌}
use Rattle.std.specs.Option.{option_or}
use Rattle.std.specs.List.{position_or_len, position_from, before_first, after_first, range_with_len, list_any}
use Rattle.std.specs.Str.{all_ascii_digits, bytes_eq}
use Rattle.std.specs.Str.Parse.{digits_value}
use Rattle.wl_setup.specs.declared.limits.TheConstants.{LARGEST_NUMBER, LARGEST_SMALL, LARGEST_PPM, LARGEST_TOLERANCE}
use Rattle.wl_setup.specs.declared.plan_text.PlanText.{PlanText}
use Rattle.wl_setup.specs.declared.plan_text.NodeText.{NodeText}
use Rattle.wl_setup.specs.declared.plan_text.RateText.{RateText}
use Rattle.wl_setup.specs.declared.plan_text.FrameText.{FrameText}
use Rattle.wl_setup.specs.declared.plan_text.ClockText.{ClockText}
use Rattle.wl_setup.specs.declared.plan_text.ClockText.TheVariants as text
use Rattle.wl_setup.specs.declared.plan_text.SegmentsText.{SegmentsText}
use Rattle.wl_setup.specs.declared.plan_text.SegmentsText.TheVariants as segments
use Rattle.wl_sweep.specs.declared.change.SweptKey.{SweptKey}
use Rattle.wl_sweep.specs.declared.change.SweptKey.TheVariants as key
use Rattle.wl_sweep.specs.declared.range.SweptRange.{SweptRange}
use Rattle.wl_sweep.specs.declared.sweep.TheConstants.{MOST_ROWS}
use Rattle.wl_sweep.specs.declared.vary.RangeFault.{RangeFault}
use Rattle.wl_sweep.specs.declared.vary.RangeFault.TheVariants as fault
use Rattle.wl_sweep.specs.declared.vary.Ends.{Ends}
use Rattle.wl_sweep.specs.declared.vary.TheConstants.{ROUND_STEPS}

-- a text before and after its first byte of a kind, if it has one
abbrev pub parted : ℕ → List ℕ → Option (List ℕ × List ℕ)
parted at text =
    if nat_lt (position_or_len (λ (b : ℕ). b == at) text) (length text) then Some (before_first (λ (b : ℕ). b == at) text, after_first (λ (b : ℕ). b == at) text)
    else None

-- a text after its first byte, if that is this one
abbrev pub after_byte : ℕ → List ℕ → Option (List ℕ)
after_byte at [] = None
after_byte at (c ∷ cs) = if c == at then Some cs else None

-- the number that decimal digits are, at most the greatest one of a plan text
abbrev pub is_size : List ℕ → Bool
is_size text = not (length text == 0) && all_ascii_digits text && nat_le (digits_value 10 text) LARGEST_NUMBER

abbrev pub size_of : List ℕ → Option ℕ
size_of text = if is_size text then Some (digits_value 10 text) else None

-- with no more than a minus in front
abbrev pub signed_by : Option (List ℕ) → List ℕ → Option ℤ
signed_by None text = option_map (λ n. pos n) (size_of text)
signed_by (Some digits) text = option_map (λ n. neg_ℤ (pos n)) (size_of digits)

-- the number that a text is
abbrev pub number_of : List ℕ → Option ℤ
number_of text = signed_by (after_byte 45 text) text

-- what is made of a value, if there is one
abbrev pub for_some : {T U : Type 0} → Option T → (T → Option U) → Option U
for_some None make = None
for_some (Some x) make = make x

-- what is made of a value, or a fault where there is none
abbrev pub or_fault : {T U : Type 0} → RangeFault → Option T → (T → Result U RangeFault) → Result U RangeFault
or_fault fault None make = Err fault
or_fault fault (Some x) make = make x

-- what is made of a value, unless it was refused
abbrev pub after : {T U : Type 0} → Result T RangeFault → (T → Result U RangeFault) → Result U RangeFault
after (Ok x) make = make x
after (Err e) make = Err e

-- the first value, the last one, and the step: B, or B:STEP
abbrev pub ends_with_step : ℤ → Option (List ℕ × List ℕ) → List ℕ → Option Ends
ends_with_step low None text = for_some (number_of text) (λ high. Some (record { low = low; high = high; step = None }))
ends_with_step low (Some (before, behind)) text =
    for_some (number_of before) (λ high. for_some (number_of behind) (λ step. Some (record { low = low; high = high; step = Some step })))

-- what stands after "=": A..B or A..B:STEP
abbrev pub ends_of : List ℕ → Option Ends
ends_of values =
    for_some (parted 46 values) (λ parts. for_some (number_of parts.0)
    (λ low. for_some (after_byte 46 parts.1) (λ rest. ends_with_step low (parted 58 rest) rest)))

-- the key of a name
abbrev pub key_of : List ℕ → Option SweptKey
key_of name =
    if bytes_eq name (codes "end") then Some key.End else if bytes_eq name (codes "per") then Some key.Per
    else if bytes_eq name (codes "offset") then Some key.Offset else if bytes_eq name (codes "num") then Some key.Num
    else if bytes_eq name (codes "den") then Some key.Den else if bytes_eq name (codes "quantum") then Some key.Quantum
    else if bytes_eq name (codes "ppm") then Some key.Ppm else if bytes_eq name (codes "prop") then Some key.Prop
    else if bytes_eq name (codes "ps1") then Some key.Ps1 else if bytes_eq name (codes "ps2") then Some key.Ps2
    else if bytes_eq name (codes "tseg1") then Some key.Tseg1 else if bytes_eq name (codes "tseg2") then Some key.Tseg2
    else if bytes_eq name (codes "sjw") then Some key.Sjw else if bytes_eq name (codes "x") then Some key.X
    else if bytes_eq name (codes "out") then Some key.Out else if bytes_eq name (codes "in") then Some key.In
    else if bytes_eq name (codes "tolerance") then Some key.Tolerance else if bytes_eq name (codes "every") then Some key.Every
    else if bytes_eq name (codes "count") then Some key.Count else None

-- a key of the top table
abbrev pub is_top : SweptKey → Bool
is_top key.End = true
is_top key.Per = true
is_top k = false

-- a clock has a key; it has none that isn't a clock's
abbrev pub clock_has : SweptKey → ClockText → Bool
clock_has key.Num (text.Rate num den) = true
clock_has key.Den (text.Rate num den) = true
clock_has key.Quantum (text.Ppm quantum ppm) = true
clock_has key.Ppm (text.Ppm quantum ppm) = true
clock_has key.Num (text.Fraction num den ppm) = true
clock_has key.Den (text.Fraction num den ppm) = true
clock_has key.Ppm (text.Fraction num den ppm) = true
clock_has k clock = false

abbrev pub is_clock : SweptKey → Bool
is_clock key.Num = true
is_clock key.Den = true
is_clock key.Quantum = true
is_clock key.Ppm = true
is_clock k = false

abbrev pub rate_has : SweptKey → RateText → Bool
rate_has k rate = clock_has k rate.clock

-- a frame has a key; it has none that isn't a frame's
abbrev pub frame_has : SweptKey → FrameText → Bool
frame_has key.Every frame = is_some frame.every
frame_has key.Count frame = is_some frame.count
frame_has k frame = false

abbrev pub is_frame : SweptKey → Bool
is_frame key.Every = true
is_frame key.Count = true
is_frame k = false

-- segments have a key; they have none that isn't one of segments
abbrev pub segments_have : SweptKey → SegmentsText → Bool
segments_have key.Prop (segments.Each prop ps1 ps2) = true
segments_have key.Ps1 (segments.Each prop ps1 ps2) = true
segments_have key.Ps2 (segments.Each prop ps1 ps2) = true
segments_have key.Tseg1 (segments.Controller tseg1 tseg2) = true
segments_have key.Tseg2 (segments.Controller tseg1 tseg2) = true
segments_have k s = false

abbrev pub is_segment : SweptKey → Bool
is_segment key.Prop = true
is_segment key.Ps1 = true
is_segment key.Ps2 = true
is_segment key.Tseg1 = true
is_segment key.Tseg2 = true
is_segment k = false

-- a node has a key: one of a clock if one of its rates has it, one of a frame if one of its frames has it, one of segments if its own have it
abbrev pub has_key : SweptKey → NodeText → Bool
has_key k node =
    if is_clock k then list_any (rate_has k) node.rates
    else if is_frame k then list_any (frame_has k) node.frame
    else if is_segment k then segments_have k node.segments
    else true

-- a number as that of a node
abbrev pub numbered : ℕ → Option ℤ → Option ℕ
numbered count None = None
numbered count (Some n) = if int_lt n (pos 0) || nat_le count (unsigned_abs n) then None else Some (unsigned_abs n)

-- the node of a name, or else of a number
abbrev pub node_of : List NodeText → List ℕ → Option ℕ
node_of nodes name = option_or (position_from (λ (n : NodeText). bytes_eq n.name name) 0 nodes) (numbered (length nodes) (number_of name))

-- the first of the nodes that are farthest away
abbrev pub greatest_x : List NodeText → ℕ
greatest_x nodes = fold (λ most (n : NodeText). max most n.x) 0 nodes

abbrev pub farthest : List NodeText → Option ℕ
farthest nodes = position_from (λ (n : NodeText). n.x == greatest_x nodes) 0 nodes

-- the key is one of node i
abbrev pub owned : SweptKey → ℕ → Option NodeText → Result (Option ℕ) RangeFault
owned k i None = Err fault.Node
owned k i (Some node) = if has_key k node then Ok (Some i) else Err fault.Absent

-- the node whose key is varied, if it is the key of one node: of the named one, or of x the farthest
abbrev pub target_of : List NodeText → Option (List ℕ) → SweptKey → Result (Option ℕ) RangeFault
target_of nodes (Some name) k =
    if is_top k then Err fault.Node else or_fault fault.Node (node_of nodes name) (λ i. owned k i (slice_get nodes i))
target_of nodes None key.X = Ok (farthest nodes)
target_of nodes None k = if is_top k || list_any (has_key k) nodes then Ok None else Err fault.Absent

-- a value that a plan text may have at a key
abbrev pub takes : SweptKey → ℤ → Bool
takes key.Ppm value = nat_le (unsigned_abs value) LARGEST_PPM
takes key.X value = not (int_lt value (pos 0)) && nat_le (unsigned_abs value) LARGEST_SMALL
takes key.Tolerance value = not (int_lt value (pos 0)) && nat_le (unsigned_abs value) LARGEST_TOLERANCE
takes key.Every value = int_lt (pos 0) value && nat_le (unsigned_abs value) LARGEST_NUMBER
takes key.Count value = int_lt (pos 0) value && nat_le (unsigned_abs value) LARGEST_NUMBER
takes k value = not (int_lt value (pos 0)) && nat_le (unsigned_abs value) LARGEST_NUMBER

-- the first of some steps by which there are fewer than twenty over a distance, and else the distance
abbrev pub first_step : ℕ → List ℕ → ℕ
first_step distance [] = distance
first_step distance (s ∷ ss) = if nat_lt (distance / max s 1) 20 then s else first_step distance ss

-- the step of a range: the one that it says, which is above 0, or the roundest one that makes few rows
abbrev pub step_of : ℕ → Option ℤ → Result ℕ RangeFault
step_of distance None = Ok (max (first_step distance ROUND_STEPS) 1)
step_of distance (Some step) = if int_lt (pos 0) step then Ok (unsigned_abs step) else Err fault.Step

-- the values from one on, so many steps further
abbrev pub values_from : ℤ → ℕ → ℕ → List ℤ
values_from low step steps = map (λ k. low +ℤ pos (k * step)) (range_with_len 0 (steps + 1))

-- at most as many as there may be rows
abbrev pub few_values : ℤ → ℕ → ℕ → Result (List ℤ) RangeFault
few_values low step steps = if nat_lt steps MOST_ROWS then Ok (values_from low step steps) else Err fault.Rows

-- the values of a range, of those that the key may have
abbrev pub values_of : SweptKey → Ends → Result (List ℤ) RangeFault
values_of k ends =
    if not (takes k ends.low && takes k ends.high) then Err fault.Bounds
    else if int_lt ends.high ends.low then Err fault.Order
    else after (step_of (unsigned_abs (ends.high -ℤ ends.low)) ends.step)
    (λ step. few_values ends.low (max step 1) (unsigned_abs (ends.high -ℤ ends.low) / max step 1))

-- the key that is varied, and at which node
abbrev pub swept_of : List NodeText → Option (List ℕ) → List ℕ → Result (SweptKey × Option ℕ) RangeFault
swept_of nodes name word = or_fault fault.Key (key_of word) (λ k. after (target_of nodes name k) (λ named. Ok (k, named)))

-- that of NODE.KEY, or of KEY
abbrev pub swept_in : List NodeText → Option (List ℕ × List ℕ) → List ℕ → Result (SweptKey × Option ℕ) RangeFault
swept_in nodes None called = swept_of nodes None called
swept_in nodes (Some (name, word)) called = swept_of nodes (Some name) word

-- the range that a word means in a plan's text, or its first fault
abbrev pub range_of : PlanText → List ℕ → Result SweptRange RangeFault
range_of plan word =
    or_fault fault.Form (parted 61 word) (λ parts. or_fault fault.Form (ends_of parts.1)
    (λ ends. after (swept_in plan.node (parted 46 parts.0) parts.0)
    (λ swept. after (values_of swept.0 ends)
    (λ values. Ok (record { called = parts.0; key = swept.0; named = swept.1; values = values })))))

-- an answer is this one, unless memory was refused
abbrev pub IsRead : {T : Type 0} → Result T RangeFault → Result T RangeFault → Type 0
IsRead wanted answer = MatchResult answer (λ x. wanted ≡ Ok x) (λ e. e ≢ fault.Memory → wanted ≡ Err e)
