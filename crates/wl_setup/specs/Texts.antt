-- What the tables of a plan say (this project's profile).
use Rattle.std.specs.Prelude.{ℕ, List, [], ◌∷◌, map, if◌then◌else◌, is_some}
use Rattle.toml.specs.Data.{Members}
use Rattle.wl_setup.specs.declared.keys.Key.TheVariants as key
use Rattle.wl_setup.specs.declared.plan_text.PlanText.{PlanText}
use Rattle.wl_setup.specs.declared.plan_text.NodeText.{NodeText}
use Rattle.wl_setup.specs.declared.plan_text.FrameText.{FrameText}
use Rattle.wl_setup.specs.declared.plan_text.DisturbanceText.{DisturbanceText}
use Rattle.wl_setup.specs.declared.plan_text.RateText.{RateText}
use Rattle.wl_setup.specs.declared.plan_text.ClockText.{ClockText}
use Rattle.wl_setup.specs.declared.plan_text.ClockText.TheVariants.{Rate, Ppm, Fraction}
use Rattle.wl_setup.specs.declared.plan_text.SegmentsText.{SegmentsText}
use Rattle.wl_setup.specs.declared.plan_text.SegmentsText.TheVariants.{Each, Controller}
use Rattle.wl_setup.specs.Faults.{has_rates, has_tseg}
use Rattle.wl_setup.specs.Kinds.{value_at, number_at, small_at, tolerance_at, positive_at, some_name_at, ppm_at, truth_at, name_at, bytes_at, tables_at, sync_choice_at, queue_at, tick_at, unit_at, some_number_at}

abbrev pub frame_of : Members → FrameText
frame_of table = record {
  id = small_at key.Id table;
  dlc = small_at key.Dlc table;
  remote = truth_at key.Remote table;
  bytes = bytes_at key.Bytes table;
  ready = number_at key.Ready table;
  extended = truth_at key.Extended table;
  every = positive_at key.Every table;
  count = positive_at key.Count table;
  deadline = some_number_at key.Deadline table;
  jitter = some_number_at key.Jitter table;
}

abbrev pub disturbance_of : Members → DisturbanceText
disturbance_of table = record {
  node = some_name_at key.AtNode table;
  x = small_at key.X table;
  from = number_at key.From table;
  to = number_at key.To table;
}

-- how a rate is written goes by whether `quantum` is there, and else by whether `ppm` is
abbrev pub clock_of : Members → ClockText
clock_of table =
    if is_some (value_at key.Quantum table) then Ppm (number_at key.Quantum table) (ppm_at key.Ppm table)
    else if is_some (value_at key.Ppm table) then Fraction (number_at key.Num table) (number_at key.Den table) (ppm_at key.Ppm table)
    else Rate (number_at key.Num table) (number_at key.Den table)

abbrev pub rate_of : Members → RateText
rate_of table = record { from = number_at key.From table; clock = clock_of table }

-- the rates of a node's clock: its tables, or the one that its own keys say, from quantum 0 on
abbrev pub rates_of : ℕ → Members → List RateText
rates_of version table =
    if has_rates version table then map rate_of (tables_at key.Rates table)
    else record { from = 0; clock = clock_of table } ∷ []

-- the segments of a bit, each by itself or a controller's
abbrev pub segments_text_of : ℕ → Members → SegmentsText
segments_text_of version table =
    if has_tseg version table then Controller (number_at key.Tseg1 table) (number_at key.Tseg2 table)
    else Each (number_at key.Prop table) (number_at key.Ps1 table) (number_at key.Ps2 table)

abbrev pub node_text_of : ℕ → Members → NodeText
node_text_of version table = record {
  name = name_at key.Name table;
  offset = number_at key.Offset table;
  rates = rates_of version table;
  segments = segments_text_of version table;
  sjw = number_at key.Sjw table;
  x = small_at key.X table;
  out_delay = number_at key.Out table;
  in_delay = number_at key.In table;
  frame = map frame_of (tables_at key.Frame table);
  tolerance = tolerance_at key.Tolerance table;
  listens = truth_at key.Listen table;
  queue = queue_at key.Queue table;
  until = some_number_at key.Until table;
}

abbrev pub plan_of : Members → PlanText
plan_of top = record {
  version = number_at key.Version top;
  end = number_at key.End top;
  per = number_at key.Per top;
  node = map (node_text_of (number_at key.Version top)) (tables_at key.Node top);
  disturbance = map disturbance_of (tables_at key.Disturbance top);
  sync = sync_choice_at key.Sync top;
  tick = tick_at key.Tick top;
  unit = unit_at key.Unit top;
}
