-- The plan of a setting: two to four nodes at the ends of the cable (this project's profile; the keys are those of a plan's text).
use Rattle.std.specs.Prelude.{◌≡◌, ◌≤◌, ℕ, zero, suc, ◌*◌, ◌/◌, ◌%◌, ◌==◌, ◌+◌, nat_lt, max, min, Bool, true, List, [], ◌∷◌, ◌++◌, Some, None, Ok, false, codes, if◌then◌else◌}
use Rattle.std.specs.Fmt.{decimal}
use Rattle.std.specs.Int.{div_ceil}
use Rattle.wl_bound.specs.declared.condition.Senders.{Senders}
use Rattle.wl_bound.specs.declared.condition.Senders.TheVariants.{Any, One}
use Rattle.wl_margin.specs.Pieces.{joined}
use Rattle.wl_print.specs.Written.{plan_words}
use Rattle.wl_segments.specs.declared.SyncRules.TheVariants.{Book}
use Rattle.wl_setup.specs.declared.limits.TheConstants.{LARGEST_NUMBER, LARGEST_SMALL, LARGEST_TOLERANCE}
use Rattle.wl_setup.specs.declared.plan_text.ClockText.TheVariants.{Rate}
use Rattle.wl_setup.specs.declared.plan_text.FrameText.{FrameText}
use Rattle.wl_setup.specs.declared.plan_text.NodeText.{NodeText}
use Rattle.wl_setup.specs.declared.plan_text.PlanText.{PlanText}
use Rattle.wl_setup.specs.declared.plan_text.QueueText.TheVariants.{Fifo}
use Rattle.wl_setup.specs.declared.plan_text.RateText.{RateText}
use Rattle.wl_setup.specs.declared.plan_text.SegmentsText.{SegmentsText}
use Rattle.wl_setup.specs.declared.plan_text.SegmentsText.TheVariants as text
use Rattle.wl_setup.specs.Reading.{text_answer}
use Rattle.wl_settings.specs.declared.asked.Asked.{Asked}
use Rattle.wl_settings.specs.declared.asked.Controller.{Controller}
use Rattle.wl_settings.specs.declared.asked.Setting.{Setting}
use Rattle.wl_settings.specs.declared.parts.Parts.{Parts}
use Rattle.wl_settings.specs.declared.parts.Parts.TheVariants.{Each, Joint}
use Rattle.wl_apply.specs.declared.chosen.QuantumLength.{QuantumLength}
use Rattle.wl_settings.specs.Settings.{setting_quanta}

-- a step of Euclid's algorithm (Elements, book VII, proposition 2), and some steps
abbrev pub step : ℕ × ℕ → ℕ × ℕ
step (a, b) = if b == 0 then (a, b) else (b, a % b)

unfoldable pub steps : ℕ → ℕ × ℕ → ℕ × ℕ
steps zero pair = pair
steps (suc n) pair = step (steps n pair)

-- The greatest common divisor of two numbers. 128 steps are more than numbers below 2^88 take.
unfoldable pub common : ℕ → ℕ → ℕ
common a b = (steps 128 (a, b)).0

-- a number of a plan's text: a greater one, which no plan can have, is the greatest
abbrev pub within : ℕ → ℕ
within n = min n LARGEST_NUMBER

-- how many ticks the quantum of a setting takes: the periods of the clock in it, each a second by the clock, in lowest terms
abbrev pub part_of : ℕ → ℕ → ℕ
part_of num den = max (common num den) 1

abbrev pub in_lowest_terms : ℕ → ℕ → QuantumLength
in_lowest_terms num den = record { num = within (num / part_of num den); den = within (den / part_of num den) }

abbrev pub setting_quantum : Asked → ℕ → Setting → QuantumLength
setting_quantum a clock s = in_lowest_terms (s.prescaler * 1000000000000) (clock * a.tick)

-- How many nodes the plan has: of more than four the others lie beside these.
abbrev pub node_count : Asked → ℕ
node_count a = min (max a.nodes 2) 4

-- The end of the plan: 200 bits for each node.
abbrev pub plan_end : ℕ → QuantumLength → Setting → ℕ
plan_end nodes q s = within (div_ceil (200 * nodes * setting_quanta s * q.num) (max q.den 1))

-- Nodes are idle after 11 bits. The first frame becomes ready after 30, and the others with it; or, if one node sends at a time, each 200 later.
abbrev pub node_ready : Senders → ℕ → Setting → ℕ
node_ready Any n s = 30 * setting_quanta s
node_ready One n s = (30 + 200 * n) * setting_quanta s

-- the version of a plan whose nodes have such segments, and the segments
abbrev pub version_of : Parts → ℕ
version_of (Each prop ps1 ps2) = 1
version_of (Joint tseg1 tseg2) = 4

abbrev pub segments_text : Parts → SegmentsText
segments_text (Each prop ps1 ps2) = text.Each prop ps1 ps2
segments_text (Joint tseg1 tseg2) = text.Controller tseg1 tseg2

abbrev pub rate_text : QuantumLength → RateText
rate_text q = record { from = 0; clock = Rate q.num q.den }

-- eight bytes whose bits, with stuff bits, are five dominant and five recessive ones in turn
abbrev pub data_bytes : List ℕ
data_bytes = 60 ∷ 60 ∷ 60 ∷ 60 ∷ 60 ∷ 60 ∷ 60 ∷ 60 ∷ []

abbrev pub frame_text : (id ready : ℕ) → FrameText
frame_text id ready = record {
  id = id;
  dlc = 8;
  remote = false;
  bytes = data_bytes;
  ready = ready;
  extended = false;
  every = None;
  count = None;
  deadline = None;
  jitter = None;
}

-- the name and the place of a node, by its number from 0 on: nodes are at both ends of the cable in turn
abbrev pub node_name : ℕ → List ℕ
node_name zero = codes "a"
node_name (suc zero) = codes "b"
node_name (suc (suc zero)) = codes "c"
node_name _ = codes "d"

abbrev pub node_place : Asked → ℕ → ℕ
node_place a n = if n % 2 == 0 then 0 else a.cable

abbrev pub node_text : Asked → QuantumLength → Setting → ℕ → NodeText
node_text a q s n = record {
  name = node_name n;
  offset = 0;
  rates = rate_text q ∷ [];
  segments = segments_text s.parts;
  sjw = s.sjw;
  x = node_place a n;
  out_delay = a.out_delay;
  in_delay = a.in_delay;
  frame = frame_text (2032 + n) (node_ready a.senders n s) ∷ [];
  tolerance = Some a.tolerance;
  listens = false;
  queue = Fifo;
  until = None;
}

-- what there is for each node: for two, for a third if there are three at least, and for a fourth
abbrev pub more_if : {T : Type 0} → Bool → T → List T → List T
more_if true x xs = x ∷ xs
more_if false x xs = xs

abbrev pub for_nodes : {T : Type 0} → Asked → (ℕ → T) → List T
for_nodes a f = f 0 ∷ f 1 ∷ more_if (nat_lt 2 a.nodes) (f 2) (more_if (nat_lt 3 a.nodes) (f 3) [])

abbrev pub plan_of_quantum : Asked → Setting → QuantumLength → PlanText
plan_of_quantum a s q = record {
  version = version_of s.parts;
  end = plan_end (node_count a) q s;
  per = a.per;
  node = for_nodes a (node_text a q s);
  disturbance = [];
  sync = Book;
  tick = None;
  unit = None;
}

-- the plan of a setting of a controller with this clock
abbrev pub setting_plan : Asked → ℕ → Setting → PlanText
setting_plan a clock s = plan_of_quantum a s (setting_quantum a clock s)

-- as text: a comment that names the controller, and the plan
unfoldable pub text_of_title : Controller → Setting → List ℕ
text_of_title c s =
    joined (codes "# " ∷ c.name ∷ codes ", clock " ∷ decimal c.clock ∷ codes " Hz, prescaler " ∷ decimal s.prescaler ∷ codes "\n" ∷ [])

abbrev pub setting_plan_text : Asked → Controller → Setting → List ℕ
setting_plan_text a c s = text_of_title c s ++ plan_words (setting_plan a c.clock s)

-- the numbers of a bus are within the bounds of a plan's keys
pub record IsOfKeys (a : Asked) : Type 0 where
  pub cable : a.cable ≤ LARGEST_SMALL
  pub per : a.per ≤ LARGEST_NUMBER
  pub out_delay : a.out_delay ≤ LARGEST_NUMBER
  pub in_delay : a.in_delay ≤ LARGEST_NUMBER
  pub tolerance : a.tolerance ≤ LARGEST_TOLERANCE

-- a text is read as the plan of a setting
abbrev pub ReadsAsPlan : Asked → Controller → Setting → List ℕ → Type 0
ReadsAsPlan a c s text = text_answer text ≡ Ok (setting_plan a c.clock s)
