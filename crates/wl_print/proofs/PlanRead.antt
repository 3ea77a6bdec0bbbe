-- A plan text that was read, and whose plan can be run, is read again as it is printed, in its own version and in version 4.
use Rattle.std.proofs.Common.{◌≡◌, ◌∙◌, refl, sym, ap, ℕ, Bool, true, false, not, ◌&&◌, ◌||◌, ◌==◌, nat_le, List, [], ◌∷◌, Option, Some, None, option_map, option_and_then, Result, Ok, Err, if◌then◌else◌}
use Rattle.std.proofs.Math.Bool.{or-true}
use Rattle.std.proofs.lemmas.Bool.{and_parts, false≢true}
use Rattle.std.proofs.lemmas.Option.{none-some}
use Rattle.std.specs.List.{list_all}
use Rattle.toml.specs.Data.{Data, Members, as_str}
use Rattle.wl_plan.specs.declared.plan.Plan.{Plan}
use Rattle.wl_units.specs.declared.scale.TheConstants.{LONGEST_TICK, LONGEST_UNIT}
use Rattle.wl_units.specs.declared.quantity.Measure.TheVariants.{Length, Time}
use Rattle.wl_units.specs.Scales.{in_small_units, tick_said, unit_said, up_to}
use Rattle.wl_units.specs.Units.{quantity_of}
use Rattle.wl_setup.specs.declared.fault.SetupFault.{SetupFault}
use Rattle.wl_setup.specs.declared.fault.SetupFault.TheVariants.{SameName, Version}
use Rattle.wl_setup.specs.declared.keys.Key.TheVariants as key
use Rattle.wl_setup.specs.declared.plan_text.ClockText.{ClockText}
use Rattle.wl_setup.specs.declared.plan_text.ClockText.TheVariants as text
use Rattle.wl_setup.specs.declared.plan_text.DisturbanceText.{DisturbanceText}
use Rattle.wl_setup.specs.declared.plan_text.FrameText.{FrameText}
use Rattle.wl_setup.specs.declared.plan_text.NodeText.{NodeText}
use Rattle.wl_setup.specs.declared.plan_text.PlanText.{PlanText}
use Rattle.wl_setup.specs.declared.plan_text.RateText.{RateText}
use Rattle.wl_setup.specs.declared.plan_text.SegmentsText.{SegmentsText}
use Rattle.wl_setup.specs.declared.plan_text.SegmentsText.TheVariants as segments
use Rattle.wl_setup.specs.declared.table_path.PlacedFault.{PlacedFault}
use Rattle.wl_setup.specs.declared.table_path.TablePath.TheVariants.{Top}
use Rattle.wl_setup.specs.Document.{first_fault, plain_fault, plan_text_of, read_form, unless}
use Rattle.wl_setup.specs.Faults.{asks_tick_in, required_fault, table_fault, top_keys, version_fault}
use Rattle.wl_setup.specs.Keys.{top_optional, top_required}
use Rattle.wl_setup.specs.Kinds.{is_name, number_at, tables_at, tick_at, tick_value, unit_at, unit_value, value_at}
use Rattle.wl_setup.specs.Names.{has_repeat, names_of, same_name_fault}
use Rattle.wl_setup.specs.Plans.{plan_of_text}
use Rattle.wl_setup.specs.Reading.{document_answer, document_of}
use Rattle.wl_setup.specs.TablePaths.{placed}
use Rattle.wl_setup.specs.Texts.{plan_of}
use Rattle.wl_setup.specs.Version.{has_controllers, has_traffic, is_known_version}
use Rattle.wl_print.specs.Printable.{ReadIsPrintable, are_rates, are_segments, has_nodes, is_by_priority, is_clock_text, is_disturbance, is_frame_text, is_node, is_number_if, is_number_of_key, is_positive, is_printable, is_rate, is_scale_if, is_spot}
use Rattle.wl_print.specs.Written.{is_one}
use Rattle.wl_print.proofs.Clocked.{is_clocked, no_value_of, plan_runs}
use Rattle.wl_print.proofs.Kept.{Kept, absent, first_parts, mapped_none, number_fits, table_kept}
use Rattle.wl_print.proofs.Ordered.{both}
use Rattle.wl_print.proofs.PlanKept.{disturbances_kept, nodes_kept}
use Rattle.wl_print.proofs.PlanRows.{frame_facts, node_facts, plan_facts, rates_all}

-- ---- the top table

version_by : (b : Bool) → (if b then None else Some Version) ≡ None → b ≡ true
version_by true h = refl
version_by false h = absurd (none-some Version (sym h))

known_kept : (t : Members) → version_fault t ≡ None → is_known_version (number_at key.Version t) ≡ true
known_kept t h =
    let (first, second) = first_parts (required_fault t key.Version) _ h in
    version_by (is_known_version (number_at key.Version t)) (first_parts _ [] second).0

repeat_by : (b : Bool) → (if b then Some SameName else None) ≡ None → not b ≡ true
repeat_by true h = absurd (none-some SameName (sym h))
repeat_by false h = refl

within : (most : ℕ) (o : Option ℕ) → is_scale_if true most (option_and_then (up_to most) o) ≡ true
within most None = refl
within most (Some n) = by_range (nat_le 1 n && nat_le n most) refl
  where
    inside : (nat_le 1 n && nat_le n most) ≡ true → option_and_then (up_to most) (Some n) ≡ Some n
    inside is = ap (λ (b : Bool). if b then Some n else None) is

    outside : (nat_le 1 n && nat_le n most) ≡ false → option_and_then (up_to most) (Some n) ≡ None
    outside is = ap (λ (b : Bool). if b then Some n else None) is

    by_range : (b : Bool) → (nat_le 1 n && nat_le n most) ≡ b → is_scale_if true most (option_and_then (up_to most) (Some n)) ≡ true
    by_range true is = ap (is_scale_if true most) (inside is) ∙ is
    by_range false is = ap (is_scale_if true most) (outside is)

tick_within : (o : Option Data) → is_scale_if true LONGEST_TICK (option_and_then tick_value o) ≡ true
tick_within None = refl
tick_within (Some d) = by_text (as_str d)
  where
    by_text : (o : Option (List ℕ)) → is_scale_if true LONGEST_TICK (option_and_then tick_said o) ≡ true
    by_text None = refl
    by_text (Some s) = within LONGEST_TICK (option_and_then in_small_units (quantity_of Time s))

unit_within : (o : Option Data) → is_scale_if true LONGEST_UNIT (option_and_then unit_value o) ≡ true
unit_within None = refl
unit_within (Some d) = by_text (as_str d)
  where
    by_text : (o : Option (List ℕ)) → is_scale_if true LONGEST_UNIT (option_and_then unit_said o) ≡ true
    by_text None = refl
    by_text (Some s) = within LONGEST_UNIT (option_and_then in_small_units (quantity_of Length s))

scales_by : (w asks : Bool) (t : Members) → Kept (top_required (w && asks)) (top_optional w) t
    → (is_scale_if w LONGEST_TICK (tick_at key.Tick t) ≡ true) × (is_scale_if w LONGEST_UNIT (unit_at key.Unit t) ≡ true)
scales_by true asks t k = (tick_within (value_at key.Tick t), unit_within (value_at key.Unit t))
scales_by false asks t k =
    (no_tick (absent (top_required false) (top_optional false) t key.Tick k refl), no_unit (absent (top_required false) (top_optional false) t key.Unit k refl))
  where
    no_tick : value_at key.Tick t ≡ None → is_scale_if false LONGEST_TICK (tick_at key.Tick t) ≡ true
    no_tick none = rw none refl

    no_unit : value_at key.Unit t ≡ None → is_scale_if false LONGEST_UNIT (unit_at key.Unit t) ≡ true
    no_unit none = rw none refl

plan_kept : (t : Members) → plain_fault t ≡ None → list_all is_clocked (plan_of t).node ≡ true → has_nodes (plan_of t).node ≡ true → is_printable (plan_of t) ≡ true
plan_kept t h clocked some =
    let v = number_at key.Version t in
    let (head, after_head) = first_parts _ _ h in
    let (nodes, after_nodes) = first_parts _ _ after_head in
    let (disturbances, after_all) = first_parts _ _ after_nodes in
    let names = mapped_none _ (same_name_fault (plan_of t)) (first_parts _ [] after_all).0 in
    let (known, after_known) = first_parts _ _ head in
    let top = mapped_none (placed Top) (table_fault (top_keys v t) t) (first_parts _ _ after_known).0 in
    let scales = scales_by (has_controllers v) _ t (table_kept (top_required (asks_tick_in v t)) (top_optional (has_controllers v)) t top) in
    rw (
      known_kept t (mapped_none (placed Top) (version_fault t) known),
      number_fits key.End t,
      number_fits key.Per t,
      some,
      nodes_kept v 0 (tables_at key.Node t) nodes clocked,
      disturbances_kept v (tables_at key.Disturbance t) disturbances,
      repeat_by (has_repeat (names_of (plan_of t))) names,
      scales.0,
      scales.1,
    ) refl

-- ---- the same in version 4

positive_up : (b : Bool) (o : Option ℕ) → is_positive b o ≡ true → is_positive true o ≡ true
positive_up b None h = refl
positive_up b (Some n) h = (and_parts b (nat_le 1 n && is_number_of_key n) h).1

number_up : (b : Bool) (o : Option ℕ) → is_number_if b o ≡ true → is_number_if true o ≡ true
number_up b None h = refl
number_up b (Some n) h = (and_parts b (is_number_of_key n) h).1

scale_up : (b : Bool) (most : ℕ) (o : Option ℕ) → is_scale_if b most o ≡ true → is_scale_if true most o ≡ true
scale_up b most None h = refl
scale_up b most (Some n) h = (and_parts b (nat_le 1 n && nat_le n most) h).1

frame_up : (version : ℕ) (f : FrameText) → is_frame_text version f ≡ true → is_frame_text 4 f ≡ true
frame_up version f is =
    let h = frame_facts version f is in
    let b = has_traffic version in
    let w = has_controllers version in
    rw (h.id, h.dlc, h.bytes, h.ready, positive_up b f.every h.every, positive_up b f.count h.count, h.counted, number_up w f.deadline h.deadline, number_up w f.jitter h.jitter) refl

clock_up : (a b : Bool) (c : ClockText) → is_clock_text (a && b) c ≡ true → is_clock_text b c ≡ true
clock_up a b (text.Rate num den) h = h
clock_up a b (text.Ppm quantum ppm) h = h
clock_up true b (text.Fraction num den ppm) h = h
clock_up false b (text.Fraction num den ppm) h = absurd (false≢true h)

rate_up : (a b : Bool) (r : RateText) → is_rate (a && b) r ≡ true → is_rate b r ≡ true
rate_up a b r h =
    let (from, clock) = and_parts (is_number_of_key r.from) (is_clock_text (a && b) r.clock) h in
    both (is_number_of_key r.from) (is_clock_text b r.clock) from (clock_up a b r.clock clock)

each_up : {X : Type 0} (test more : X → Bool) → ((x : X) → test x ≡ true → more x ≡ true) → (xs : List X) → list_all test xs ≡ true → list_all more xs ≡ true
each_up test more up [] h = refl
each_up test more up (x ∷ xs) h =
    let (here, others) = and_parts (test x) (list_all test xs) h in
    both (more x) (list_all more xs) (up x here) (each_up test more up xs others)

rates_up : (version : ℕ) (rs : List RateText) → are_rates version rs ≡ true → are_rates 4 rs ≡ true
rates_up version [] h = absurd (false≢true h)
rates_up version (r ∷ rs) h =
    let own = is_one (r ∷ rs) in
    both (list_all (is_rate own) (r ∷ rs)) ((own && true) || true)
    (each_up (is_rate (has_controllers version && own)) (is_rate own) (rate_up (has_controllers version) own) (r ∷ rs) (rates_all version (r ∷ rs) h))
    (or-true (own && true))

segments_up : (b : Bool) (s : SegmentsText) → are_segments b s ≡ true → are_segments true s ≡ true
segments_up b (segments.Each prop ps1 ps2) h = h
segments_up b (segments.Controller tseg1 tseg2) h = (and_parts b (is_number_of_key tseg1 && is_number_of_key tseg2) h).1

node_up : (version : ℕ) (n : NodeText) → is_node version n ≡ true → is_node 4 n ≡ true
node_up version n is =
    let h = node_facts version n is in
    rw (
      h.name,
      h.offset,
      rates_up version n.rates h.rates,
      segments_up (has_controllers version) n.segments h.bit,
      h.sjw,
      h.x,
      h.out,
      h.into,
      h.tolerance,
      or-true (not n.listens),
      or-true (not (is_by_priority n.queue)),
      number_up (has_controllers version) n.until h.until,
      each_up (is_frame_text version) (is_frame_text 4) (frame_up version) n.frame h.frames,
    ) refl

spot_up : (b : Bool) (node : Option (List ℕ)) (x : ℕ) → is_spot b node x ≡ true → is_spot true node x ≡ true
spot_up b None x h = h
spot_up b (Some name) x h = (and_parts b (is_name name && (x == 0)) h).1

disturbance_up : (b : Bool) (d : DisturbanceText) → is_disturbance b d ≡ true → is_disturbance true d ≡ true
disturbance_up b d h =
    let (spot, more) = and_parts (is_spot b d.node d.x) (is_number_of_key d.from && is_number_of_key d.to) h in
    both (is_spot true d.node d.x) (is_number_of_key d.from && is_number_of_key d.to) (spot_up b d.node d.x spot) more

plan_up : (p : PlanText) → is_printable p ≡ true → is_printable (record p { version = 4 }) ≡ true
plan_up p is =
    let h = plan_facts p is in
    let w = has_controllers p.version in
    rw (
      h.end,
      h.per,
      h.some,
      each_up (is_node p.version) (is_node 4) (node_up p.version) p.node h.nodes,
      each_up (is_disturbance (has_traffic p.version)) (is_disturbance true) (disturbance_up (has_traffic p.version)) p.disturbance h.disturbances,
      h.names,
      scale_up w LONGEST_TICK p.tick h.tick,
      scale_up w LONGEST_UNIT p.unit h.unit,
    ) refl

-- ---- what was read

abbrev plan_in : PlanText → Result PlanText SetupFault → PlanText
plan_in p (Ok q) = q
plan_in p (Err e) = p

faultless : (o : Option PlacedFault) (p q : PlanText) → unless (option_map (λ f. f.fault) o) p ≡ Ok q → (o ≡ None) × (p ≡ q)
faultless None p q h = (refl, ap (plan_in p) h)
faultless (Some f) p q h = absurd (no_value_of h)

runs_and_prints : (p q : PlanText) (plan : Plan) → p ≡ q → plan_of_text q ≡ Ok plan → (list_all is_clocked p.node ≡ true) × (has_nodes p.node ≡ true)
runs_and_prints p q plan same h = plan_runs p plan (ap plan_of_text same ∙ h)

document_prints : (top : Members) (p : PlanText) (plan : Plan) → plan_text_of top ≡ Ok p → plan_of_text p ≡ Ok plan → is_printable p ≡ true
document_prints top p plan read runs =
    let (none, same) = faultless (first_fault top) (plan_of (read_form top)) p read in
    let (clocked, some) = runs_and_prints (plan_of (read_form top)) p plan same runs in
    ap is_printable (sym same) ∙ plan_kept (read_form top) none clocked some

text_prints : (p : PlanText) (plan : Plan) (o : Option Members) → document_answer o ≡ Ok p → plan_of_text p ≡ Ok plan → is_printable p ≡ true
text_prints p plan None read runs = absurd (no_value_of read)
text_prints p plan (Some top) read runs = document_prints top p plan read runs

pub read_is_printable : ReadIsPrintable
read_is_printable text p plan read runs =
    let is = text_prints p plan (document_of text) read runs in
    (is, plan_up p is)
