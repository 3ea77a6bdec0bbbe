-- A plan text that was read, and whose plan can be run, can be printed.
use Rattle.std.proofs.Common.{◌≡◌, ◌∙◌, refl, sym, ap, subst, ℕ, ◌+◌, ℤ, Bool, true, false, not, ◌&&◌, ◌||◌, ◌==◌, List, [], ◌∷◌, map, Option, Some, None, is_some, is_none, if◌then◌else◌, arith}
use Rattle.std.proofs.Math.Bool.{or-true, and-true}
use Rattle.std.proofs.lemmas.Bool.{and_parts, false≢true}
use Rattle.std.proofs.lemmas.Bool.Decides.{nat_tests}
use Rattle.std.proofs.lemmas.Option.{none-some}
use Rattle.std.specs.List.{enumerate_from, list_all}
use Rattle.toml.specs.Data.{Data, Members}
use Rattle.wl_setup.specs.declared.keys.Key.{Key}
use Rattle.wl_setup.specs.declared.keys.Key.TheVariants as key
use Rattle.wl_setup.specs.declared.plan_text.ClockText.{ClockText}
use Rattle.wl_setup.specs.declared.plan_text.ClockText.TheVariants as text
use Rattle.wl_setup.specs.declared.plan_text.RateText.{RateText}
use Rattle.wl_setup.specs.declared.plan_text.SegmentsText.TheVariants as segments
use Rattle.wl_setup.specs.declared.table_path.PlacedFault.{PlacedFault}
use Rattle.wl_setup.specs.Faults.{disturbance_fault, first_some, frame_fault, has_clock, has_rates, has_tseg, is_by_bit_rate, is_fraction, names_none, node_keys, node_required, optional_in, rate_fault, table_fault}
use Rattle.wl_setup.specs.Keys.{TableKeys, disturbance_required, frame_optional, frame_required, node_optional, rate_keys_by_fraction, rate_keys_by_ppm, required_by_clock, required_by_ppm, required_by_rate, required_by_rates, wide_frame_optional, wide_node_optional}
use Rattle.wl_setup.specs.Kinds.{is_name, is_ppm, name_at, number_at, positive_at, ppm_at, queue_at, small_at, some_name_at, some_number_at, tables_at, truth_at, value_at}
use Rattle.wl_setup.specs.TablePaths.{disturbance_fault_at, first_in, frame_fault_at, node_fault_at, rate_fault_at}
use Rattle.wl_setup.specs.Texts.{clock_of, disturbance_of, frame_of, node_text_of, rate_of, rates_of, segments_text_of}
use Rattle.wl_setup.specs.Version.{has_controllers, has_traffic}
use Rattle.wl_print.specs.Printable.{are_rates, are_segments, is_by_priority, is_clock_text, is_disturbance, is_frame_text, is_node, is_number_if, is_number_of_key, is_positive, is_rate, is_spot}
use Rattle.wl_print.specs.Written.{is_one}
use Rattle.wl_print.proofs.Clocked.{is_clocked, is_stopped, lacks_den}
use Rattle.wl_print.proofs.Entries.{AllTaken, Taken}
use Rattle.wl_print.proofs.NodeBack.{optional_by, rates_none}
use Rattle.wl_print.proofs.Ordered.{both}
use Rattle.wl_print.proofs.Kept.{Kept, absent, bytes_fit, first_parts, least_fits, mapped_none, name_fits, number_fits, positive_fits, positive_there, ppm_fits, small_fits, some_name_fits, some_number_fits, table_kept, taken_if_there, tolerance_fits}

true_not_false : true ≡ false → ⊥
true_not_false h = false≢true (sym h)

or_right : (b c : Bool) → (b || c) ≡ false → c ≡ false
or_right true c h = absurd (true_not_false h)
or_right false c h = h

or_left : (b c : Bool) → (b || c) ≡ false → b ≡ false
or_left true c h = absurd (true_not_false h)
or_left false c h = refl

some_value : (t : Members) (k : Key) (d : Data) → value_at k t ≡ Some d → is_some (value_at k t) ≡ true
some_value t k d is = ap (λ (o : Option Data). is_some o) is

-- ---- a frame

frame_counted : (t : Members) (o : Option Data) → value_at key.Count t ≡ o → (is_some (value_at key.Count t) ≡ true → Taken t key.Every)
    → (is_none (positive_at key.Count t) || is_some (positive_at key.Every t)) ≡ true
frame_counted t None is every = rw is refl
frame_counted t (Some d) is every =
    ap (λ (b : Bool). is_none (positive_at key.Count t) || b) (positive_there t (every (some_value t key.Count d is))) ∙ or-true (is_none (positive_at key.Count t))

abbrev FrameFits : Bool → Bool → Members → Type 0
FrameFits w b t =
    (is_positive b (positive_at key.Every t) ≡ true) × (is_positive b (positive_at key.Count t) ≡ true)
    × ((is_none (positive_at key.Count t) || is_some (positive_at key.Every t)) ≡ true) × (is_number_if w (some_number_at key.Deadline t) ≡ true)
    × (is_number_if w (some_number_at key.Jitter t) ≡ true)

abbrev frame_optional_by : Bool → Bool → List Key
frame_optional_by w b = if w then wide_frame_optional else frame_optional b

every_taken : (t : Members) (optional : List Key) → Kept (frame_required (is_some (value_at key.Count t))) optional t → is_some (value_at key.Count t) ≡ true → Taken t key.Every
every_taken t optional k some =
    let taken : AllTaken t (frame_required true) = subst (λ (c : Bool). AllTaken t (frame_required c)) some k.taken in
    taken.1.1.0

narrow_frame : (c : Bool) (t : Members) → Kept (frame_required c) (frame_optional true) t → (value_at key.Deadline t ≡ None) × (value_at key.Jitter t ≡ None)
narrow_frame true t k =
    (absent (frame_required true) (frame_optional true) t key.Deadline k refl, absent (frame_required true) (frame_optional true) t key.Jitter k refl)
narrow_frame false t k =
    (absent (frame_required false) (frame_optional true) t key.Deadline k refl, absent (frame_required false) (frame_optional true) t key.Jitter k refl)

frame_by : (w b : Bool) (t : Members) → (b ≡ false → w ≡ false) → Kept (frame_required (b && is_some (value_at key.Count t))) (frame_optional_by w b) t → FrameFits w b t
frame_by true true t old k = (
  positive_fits true key.Every t (λ is. absurd (true_not_false is)),
  positive_fits true key.Count t (λ is. absurd (true_not_false is)),
  frame_counted t (value_at key.Count t) refl (every_taken t wide_frame_optional k),
  some_number_fits true key.Deadline t (λ is. absurd (true_not_false is)),
  some_number_fits true key.Jitter t (λ is. absurd (true_not_false is)),
)
frame_by false true t old k =
    let none = narrow_frame (is_some (value_at key.Count t)) t k in (
      positive_fits true key.Every t (λ is. absurd (true_not_false is)),
      positive_fits true key.Count t (λ is. absurd (true_not_false is)),
      frame_counted t (value_at key.Count t) refl (every_taken t (frame_optional true) k),
      some_number_fits false key.Deadline t (λ is. none.0),
      some_number_fits false key.Jitter t (λ is. none.1),
    )
frame_by true false t old k = absurd (true_not_false (old refl))
frame_by false false t old k =
    let every = absent (frame_required false) (frame_optional false) t key.Every k refl in
    let count = absent (frame_required false) (frame_optional false) t key.Count k refl in
    let deadline = absent (frame_required false) (frame_optional false) t key.Deadline k refl in
    let jitter = absent (frame_required false) (frame_optional false) t key.Jitter k refl in (
      positive_fits false key.Every t (λ is. every),
      positive_fits false key.Count t (λ is. count),
      frame_counted t None count (λ some. absurd (false≢true (sym (ap (λ (o : Option Data). is_some o) count) ∙ some))),
      some_number_fits false key.Deadline t (λ is. deadline),
      some_number_fits false key.Jitter t (λ is. jitter),
    )

frame_kept : (version : ℕ) (t : Members) → frame_fault version t ≡ None → is_frame_text version (frame_of t) ≡ true
frame_kept version t h =
    let k = table_kept (frame_required (has_traffic version && is_some (value_at key.Count t))) (frame_optional_by (has_controllers version) (has_traffic version)) t h in
    let f = frame_by (has_controllers version) (has_traffic version) t (or_right (version == 3) (has_controllers version)) k in
    rw (small_fits key.Id t, small_fits key.Dlc t, bytes_fit key.Bytes t, number_fits key.Ready t, f.0, f.1, f.2, f.3, f.4) refl

-- ---- a disturbance

spot_by : (b : Bool) (t : Members) (o : Option Data) → value_at key.AtNode t ≡ o → Kept (disturbance_required (b && is_some (value_at key.AtNode t))) [] t
    → is_spot b (some_name_at key.AtNode t) (small_at key.X t) ≡ true
spot_by b t None is k = rw is (small_fits key.X t)
spot_by false t (Some d) is k = absurd (none-some d (sym (absent (disturbance_required false) [] t key.AtNode k refl) ∙ is))
spot_by true t (Some d) is k =
    let at_node : Kept (disturbance_required true) [] t = subst (λ (c : Bool). Kept (disturbance_required c) [] t) (some_value t key.AtNode d is) k in
    let (name, said, named) = some_name_fits t at_node.taken.0 in
    let none = absent (disturbance_required true) [] t key.X at_node refl in
    rw (said, named) (ap (λ (x : ℕ). x == 0) (no_place none))
  where
    no_place : value_at key.X t ≡ None → small_at key.X t ≡ 0
    no_place none = rw none refl

disturbance_kept : (version : ℕ) (t : Members) → disturbance_fault version t ≡ None → is_disturbance (has_traffic version) (disturbance_of t) ≡ true
disturbance_kept version t h =
    let k = table_kept (disturbance_required (has_traffic version && is_some (value_at key.AtNode t))) [] t h in
    rw (spot_by (has_traffic version) t (value_at key.AtNode t) refl k, number_fits key.From t, number_fits key.To t) refl

-- ---- clocks

clock_by_quantum : (known : Bool) (t : Members) (d : Data) → value_at key.Quantum t ≡ Some d → Taken t key.Ppm → is_clock_text known (clock_of t) ≡ true
clock_by_quantum known t d is ppm =
    ap (λ (b : Bool). is_clock_text known (if b then text.Ppm (number_at key.Quantum t) (ppm_at key.Ppm t) else if is_some (value_at key.Ppm t) then text.Fraction (number_at key.Num t) (number_at key.Den t) (ppm_at key.Ppm t) else text.Rate (number_at key.Num t) (number_at key.Den t))) (some_value t key.Quantum d is)
    ∙ both (is_number_of_key (number_at key.Quantum t)) (is_ppm (ppm_at key.Ppm t)) (number_fits key.Quantum t) (ppm_fits t ppm)

clock_by_rate : (known : Bool) (t : Members) → value_at key.Quantum t ≡ None → value_at key.Ppm t ≡ None → is_clock_text known (clock_of t) ≡ true
clock_by_rate known t none even = rw (none, even) (rw (number_fits key.Num t) (number_fits key.Den t))

clock_deviating : (known : Bool) (t : Members) (d : Data) → value_at key.Quantum t ≡ None → value_at key.Ppm t ≡ Some d → known ≡ true → Taken t key.Ppm → is_clock_text known (clock_of t) ≡ true
clock_deviating known t d none is known_is ppm =
    let fits = ppm_fits t ppm in
    ap (λ (o : Option Data). is_clock_text known (if is_some o then text.Ppm (number_at key.Quantum t) (ppm_at key.Ppm t) else if is_some (value_at key.Ppm t) then text.Fraction (number_at key.Num t) (number_at key.Den t) (ppm_at key.Ppm t) else text.Rate (number_at key.Num t) (number_at key.Den t))) none
    ∙ ap (λ (b : Bool). is_clock_text known (if b then text.Fraction (number_at key.Num t) (number_at key.Den t) (ppm_at key.Ppm t) else text.Rate (number_at key.Num t) (number_at key.Den t))) (some_value t key.Ppm d is)
    ∙ rw (known_is, number_fits key.Num t, number_fits key.Den t, fits) refl

abbrev rate_keys_for : Bool → TableKeys
rate_keys_for b = if b then rate_keys_by_ppm else rate_keys_by_fraction

rate_clock : (t : Members) (o : Option Data) → value_at key.Quantum t ≡ o → table_fault (rate_keys_for (is_some o)) t ≡ None → is_clock_text false (clock_of t) ≡ true
rate_clock t (Some d) is h =
    let k = table_kept (key.From ∷ key.Quantum ∷ key.Ppm ∷ []) [] t h in
    clock_by_quantum false t d is k.taken.1.1.0
rate_clock t None is h =
    let k = table_kept (key.From ∷ key.Num ∷ key.Den ∷ []) [] t h in
    clock_by_rate false t is (absent (key.From ∷ key.Num ∷ key.Den ∷ []) [] t key.Ppm k refl)

rate_kept : (t : Members) → rate_fault t ≡ None → is_rate false (rate_of t) ≡ true
rate_kept t h = rw (number_fits key.From t) (rate_clock t (value_at key.Quantum t) refl h)

fits_any : (known : Bool) (c : ClockText) → is_clock_text false c ≡ true → is_clock_text known c ≡ true
fits_any known (text.Rate num den) h = h
fits_any known (text.Ppm quantum ppm) h = h
fits_any known (text.Fraction num den ppm) h = absurd (false≢true h)

rate_any : (known : Bool) (r : RateText) → is_rate false r ≡ true → is_rate known r ≡ true
rate_any known r h =
    let (from, clock) = and_parts (is_number_of_key r.from) (is_clock_text false r.clock) h in
    both (is_number_of_key r.from) (is_clock_text known r.clock) from (fits_any known r.clock clock)

-- ---- tables one after another

each_kept : {Y : Type 0} (fault : ℕ → Members → Option PlacedFault) (make : Members → Y) (test : Y → Bool) → ((n : ℕ) (t : Members) → fault n t ≡ None → test (make t) ≡ true) → (n : ℕ) (ts : List Members)
    → first_some (map (λ r. fault r.0 r.1) (enumerate_from n ts)) ≡ None → list_all test (map make ts) ≡ true
each_kept fault make test each n [] h = refl
each_kept fault make test each n (t ∷ ts) h =
    let (here, more) = first_parts (fault n t) (map (λ r. fault r.0 r.1) (enumerate_from (n + 1) ts)) h in
    rw (each n t here) (each_kept fault make test each (n + 1) ts more)

-- ---- a node's keys

abbrev required_for : Bool → Bool → Bool → Bool → Bool → Bool → List Key
required_for n c r q by s =
    if n then key.Controller ∷ [] else if c then required_by_clock by s else if r then required_by_rates s else if q then required_by_ppm s else required_by_rate s

name_first : (c r q by s : Bool) (t : Members) → AllTaken t (required_for false c r q by s) → Taken t key.Name
name_first true r q by s t taken = taken.0
name_first false true q by s t taken = taken.0
name_first false false true by s t taken = taken.0
name_first false false false by s t taken = taken.0

-- of a node in an earlier version: it has no queue, and is never unplugged
narrow_node : (r q b : Bool) (t : Members) → Kept (required_for false false r q false false) (node_optional b) t → (value_at key.Queue t ≡ None) × (value_at key.Until t ≡ None)
narrow_node true q true t k = (absent _ (node_optional true) t key.Queue k refl, absent _ (node_optional true) t key.Until k refl)
narrow_node true q false t k = (absent _ (node_optional false) t key.Queue k refl, absent _ (node_optional false) t key.Until k refl)
narrow_node false true true t k = (absent _ (node_optional true) t key.Queue k refl, absent _ (node_optional true) t key.Until k refl)
narrow_node false true false t k = (absent _ (node_optional false) t key.Queue k refl, absent _ (node_optional false) t key.Until k refl)
narrow_node false false true t k = (absent _ (node_optional true) t key.Queue k refl, absent _ (node_optional true) t key.Until k refl)
narrow_node false false false t k = (absent _ (node_optional false) t key.Queue k refl, absent _ (node_optional false) t key.Until k refl)

old_node : (r q : Bool) (t : Members) → Kept (required_for false false r q false false) (node_optional false) t → value_at key.Listen t ≡ None
old_node true q t k = absent _ (node_optional false) t key.Listen k refl
old_node false true t k = absent _ (node_optional false) t key.Listen k refl
old_node false false t k = absent _ (node_optional false) t key.Listen k refl

even_node : (b : Bool) (t : Members) → Kept (required_for false false false false false false) (node_optional b) t → value_at key.Ppm t ≡ None
even_node true t k = absent _ (node_optional true) t key.Ppm k refl
even_node false t k = absent _ (node_optional false) t key.Ppm k refl

-- a node that still names a controller, or whose clock is written by its frequency, has no other key of a clock
no_quantum_named : (f : Bool) (t : Members) → Kept (key.Controller ∷ []) (wide_node_optional f) t → (value_at key.Quantum t ≡ None) × (value_at key.Den t ≡ None) × (value_at key.Rates t ≡ None)
no_quantum_named true t k = (absent _ (wide_node_optional true) t key.Quantum k refl, absent _ (wide_node_optional true) t key.Den k refl, absent _ (wide_node_optional true) t key.Rates k refl)
no_quantum_named false t k = (absent _ (wide_node_optional false) t key.Quantum k refl, absent _ (wide_node_optional false) t key.Den k refl, absent _ (wide_node_optional false) t key.Rates k refl)

no_quantum_clock : (by s f : Bool) (t : Members) → Kept (required_by_clock by s) (wide_node_optional f) t → value_at key.Quantum t ≡ None
no_quantum_clock true true true t k = absent (required_by_clock true true) (wide_node_optional true) t key.Quantum k refl
no_quantum_clock true true false t k = absent (required_by_clock true true) (wide_node_optional false) t key.Quantum k refl
no_quantum_clock true false true t k = absent (required_by_clock true false) (wide_node_optional true) t key.Quantum k refl
no_quantum_clock true false false t k = absent (required_by_clock true false) (wide_node_optional false) t key.Quantum k refl
no_quantum_clock false true true t k = absent (required_by_clock false true) (wide_node_optional true) t key.Quantum k refl
no_quantum_clock false true false t k = absent (required_by_clock false true) (wide_node_optional false) t key.Quantum k refl
no_quantum_clock false false true t k = absent (required_by_clock false false) (wide_node_optional true) t key.Quantum k refl
no_quantum_clock false false false t k = absent (required_by_clock false false) (wide_node_optional false) t key.Quantum k refl

-- a node's own clock, which is written as its keys say
own_clock_fits : (w n c q by s b : Bool) (t : Members) → (n ≡ true → w ≡ true) → (c ≡ true → w ≡ true) → (w ≡ false → s ≡ false) → is_some (value_at key.Quantum t) ≡ q
    → Kept (required_for n c false q by s) (optional_by w b (c || not q)) t → (op : Option Data) → value_at key.Ppm t ≡ op → (oq : Option Data) → value_at key.Quantum t ≡ oq → n ≡ false → is_clock_text w (clock_of t) ≡ true
own_clock_fits w n c q by s b t wn wc ws eq k op ep oq is named = by_parts w n c q by s wn wc ws eq k oq is named op ep
  where
    some_not : (d : Data) (o : Option Data) → o ≡ None → o ≡ Some d → ⊥
    some_not d o none some = none-some d (sym none ∙ some)

    by_parts : (w n c q by s : Bool) → (n ≡ true → w ≡ true) → (c ≡ true → w ≡ true) → (w ≡ false → s ≡ false) → is_some (value_at key.Quantum t) ≡ q
        → Kept (required_for n c false q by s) (optional_by w b (c || not q)) t → (oq : Option Data) → value_at key.Quantum t ≡ oq → n ≡ false → (op : Option Data) → value_at key.Ppm t ≡ op → is_clock_text w (clock_of t) ≡ true
    by_parts w true c q by s wn wc ws eq k oq is named op ep = absurd (true_not_false named)
    by_parts false false true q by s wn wc ws eq k oq is named op ep = absurd (false≢true (wc refl))
    by_parts true false true q by s wn wc ws eq k (Some d) is named op ep = absurd (some_not d (value_at key.Quantum t) (no_quantum_clock by s true t k) is)
    by_parts true false true q by s wn wc ws eq k None is named None ep = clock_by_rate true t is ep
    by_parts true false true q by s wn wc ws eq k None is named (Some p) ep = clock_deviating true t p is ep refl (taken_if_there t key.Ppm k.allowed.1.1.1.0 (some_value t key.Ppm p ep))
    by_parts w false false true by s wn wc ws eq k (Some d) is named op ep = clock_by_quantum w t d is k.taken.1.1.1.0
    by_parts w false false true by s wn wc ws eq k None is named op ep = absurd (false≢true (sym (ap (λ (o : Option Data). is_some o) is) ∙ eq))
    by_parts w false false false by s wn wc ws eq k (Some d) is named op ep = absurd (true_not_false (sym (ap (λ (o : Option Data). is_some o) is) ∙ eq))
    by_parts w false false false by s wn wc ws eq k None is named None ep = clock_by_rate w t is ep
    by_parts true false false false by s wn wc ws eq k None is named (Some p) ep = clock_deviating true t p is ep refl (taken_if_there t key.Ppm k.allowed.1.1.1.0 (some_value t key.Ppm p ep))
    by_parts false false false false by s wn wc ws eq k None is named (Some p) ep =
        absurd (some_not p (value_at key.Ppm t) (even_node b t (subst (λ (x : Bool). Kept (required_for false false false false by x) (node_optional b) t) (ws refl) k)) ep)

-- ---- a node's segments and rates

segments_fit : (version : ℕ) (t : Members) → are_segments (has_controllers version) (segments_text_of version t) ≡ true
segments_fit version t = by_keys (has_tseg version t) refl
  where
    by_keys : (b : Bool) → has_tseg version t ≡ b → are_segments (has_controllers version) (segments_text_of version t) ≡ true
    by_keys true is =
        ap (λ (c : Bool). are_segments (has_controllers version) (if c then segments.Controller (number_at key.Tseg1 t) (number_at key.Tseg2 t) else segments.Each (number_at key.Prop t) (number_at key.Ps1 t) (number_at key.Ps2 t))) is
        ∙ both (has_controllers version) _ (and_parts (has_controllers version) _ is).0 (both (is_number_of_key (number_at key.Tseg1 t)) (is_number_of_key (number_at key.Tseg2 t)) (number_fits key.Tseg1 t) (number_fits key.Tseg2 t))
    by_keys false is =
        ap (λ (c : Bool). are_segments (has_controllers version) (if c then segments.Controller (number_at key.Tseg1 t) (number_at key.Tseg2 t) else segments.Each (number_at key.Prop t) (number_at key.Ps1 t) (number_at key.Ps2 t))) is
        ∙ both (is_number_of_key (number_at key.Prop t)) (is_number_of_key (number_at key.Ps1 t) && is_number_of_key (number_at key.Ps2 t)) (number_fits key.Prop t)
        (both (is_number_of_key (number_at key.Ps1 t)) (is_number_of_key (number_at key.Ps2 t)) (number_fits key.Ps1 t) (number_fits key.Ps2 t))

all_any : (known : Bool) (rs : List RateText) → list_all (is_rate false) rs ≡ true → list_all (is_rate known) rs ≡ true
all_any known [] h = refl
all_any known (r ∷ rs) h =
    let (here, more) = and_parts (is_rate false r) (list_all (is_rate false) rs) h in
    both (is_rate known r) (list_all (is_rate known) rs) (rate_any known r here) (all_any known rs more)

tables_fit : (version : ℕ) (rs : List RateText) → list_all (is_rate false) rs ≡ true → not (is_stopped rs) ≡ true → (version == 1) ≡ false → are_rates version rs ≡ true
tables_fit version [] h some first = absurd (false≢true some)
tables_fit version (r ∷ rs) h some first =
    both (list_all (is_rate (has_controllers version && is_one (r ∷ rs))) (r ∷ rs)) ((is_one (r ∷ rs) && not (version == 2)) || not (version == 1))
    (all_any (has_controllers version && is_one (r ∷ rs)) (r ∷ rs) h)
    (ap (λ (b : Bool). (is_one (r ∷ rs) && not (version == 2)) || not b) first ∙ or-true (is_one (r ∷ rs) && not (version == 2)))

one_fits : (version : ℕ) (c : ClockText) → is_clock_text (has_controllers version) c ≡ true → (version == 2) ≡ false → are_rates version (record { from = 0; clock = c } ∷ []) ≡ true
one_fits version c h two =
    both _ ((true && not (version == 2)) || not (version == 1))
    (both _ true (both (is_number_of_key 0) (is_clock_text (has_controllers version && true) c) (least_fits _) (subst (λ (b : Bool). is_clock_text b c ≡ true) (sym (and-true (has_controllers version))) h)) refl)
    (ap (λ (b : Bool). (true && not b) || not (version == 1)) two)

not_first : (v : ℕ) (s : Bool) → ((v == 2) || (((v == 3) || (v == 4)) && s)) ≡ true → (v == 1) ≡ false
not_first v s h = grind (arith, nat_tests)

rates_fit : (version : ℕ) (t : Members) → (has_rates version t ≡ false → is_clock_text (has_controllers version) (clock_of t) ≡ true) → list_all (is_rate false) (map rate_of (tables_at key.Rates t)) ≡ true
    → not (is_stopped (rates_of version t)) ≡ true → are_rates version (rates_of version t) ≡ true
rates_fit version t own tables some = by_tables (has_rates version t) refl
  where
    by_tables : (b : Bool) → has_rates version t ≡ b → are_rates version (rates_of version t) ≡ true
    by_tables true is =
        let same : rates_of version t ≡ map rate_of (tables_at key.Rates t) = ap (λ (b : Bool). if b then map rate_of (tables_at key.Rates t) else record { from = 0; clock = clock_of t } ∷ []) is in
        ap (are_rates version) same
        ∙ tables_fit version (map rate_of (tables_at key.Rates t)) tables (sym (ap (λ (rs : List RateText). not (is_stopped rs)) same) ∙ some) (not_first version (is_some (value_at key.Rates t)) is)
    by_tables false is =
        let same : rates_of version t ≡ record { from = 0; clock = clock_of t } ∷ [] = ap (λ (b : Bool). if b then map rate_of (tables_at key.Rates t) else record { from = 0; clock = clock_of t } ∷ []) is in
        ap (are_rates version) same ∙ one_fits version (clock_of t) (own is) (or_left (version == 2) (has_traffic version && is_some (value_at key.Rates t)) is)

-- ---- a node that names no controller that is there has no clock

lacks_by : (b : Bool) (n d : ℕ) (z : ℤ) → d ≡ 0 → lacks_den (if b then text.Fraction n d z else text.Rate n d) ≡ true
lacks_by true n d z none = ap (λ (x : ℕ). x == 0) none
lacks_by false n d z none = ap (λ (x : ℕ). x == 0) none

no_number : (t : Members) (k : Key) → value_at k t ≡ None → number_at k t ≡ 0
no_number t k none = rw none refl

stopped_without : (version : ℕ) (t : Members) → has_rates version t ≡ false → value_at key.Quantum t ≡ None → value_at key.Den t ≡ None → is_stopped (rates_of version t) ≡ true
stopped_without version t has none den =
    ap (λ (b : Bool). is_stopped (if b then map rate_of (tables_at key.Rates t) else record { from = 0; clock = clock_of t } ∷ [])) has
    ∙ ap (λ (o : Option Data). lacks_den (if is_some o then text.Ppm (number_at key.Quantum t) (ppm_at key.Ppm t) else if is_some (value_at key.Ppm t) then text.Fraction (number_at key.Num t) (number_at key.Den t) (ppm_at key.Ppm t) else text.Rate (number_at key.Num t) (number_at key.Den t))) none
    ∙ lacks_by (is_some (value_at key.Ppm t)) (number_at key.Num t) (number_at key.Den t) (ppm_at key.Ppm t) (no_number t key.Den den)

wide_not_two : (v : ℕ) → (v == 4) ≡ true → (v == 2) ≡ false
wide_not_two v h = grind (arith, nat_tests)

-- the keys of a node's table
abbrev NodeKept : ℕ → Members → Type 0
NodeKept version t =
    Kept (required_for (names_none version t) (has_clock version t) (has_rates version t) (is_some (value_at key.Quantum t)) (is_by_bit_rate t) (has_tseg version t))
    (optional_by (has_controllers version) (has_traffic version) (is_fraction version t)) t

kept_named : (w n c r q by s f b : Bool) (t : Members) → n ≡ true → w ≡ true → Kept (required_for n c r q by s) (optional_by w b f) t → Kept (key.Controller ∷ []) (wide_node_optional f) t
kept_named true true c r q by s f b t en ew k = k
kept_named false n c r q by s f b t en ew k = absurd (false≢true ew)
kept_named true false c r q by s f b t en ew k = absurd (false≢true en)

kept_narrow : (w n c r q by s f b : Bool) (t : Members) → w ≡ false → n ≡ false → c ≡ false → s ≡ false → Kept (required_for n c r q by s) (optional_by w b f) t
    → Kept (required_for false false r q false false) (node_optional b) t
kept_narrow false false false true q by false f b t ew en ec es k = k
kept_narrow false false false false true by false f b t ew en ec es k = k
kept_narrow false false false false false by false f b t ew en ec es k = k
kept_narrow false false false r q by true f b t ew en ec es k = absurd (true_not_false es)
kept_narrow false false true r q by s f b t ew en ec es k = absurd (true_not_false ec)
kept_narrow false true c r q by s f b t ew en ec es k = absurd (true_not_false en)
kept_narrow true n c r q by s f b t ew en ec es k = absurd (true_not_false ew)

kept_name : (n c r q by s : Bool) (optional : List Key) (t : Members) → n ≡ false → Kept (required_for n c r q by s) optional t → Taken t key.Name
kept_name false c r q by s optional t en k = name_first c r q by s t k.taken
kept_name true c r q by s optional t en k = absurd (true_not_false en)

kept_own : (w n c r q by s b : Bool) (t : Members) → r ≡ false → Kept (required_for n c r q by s) (optional_by w b (c || not (r || q))) t → Kept (required_for n c false q by s) (optional_by w b (c || not q)) t
kept_own w n c false q by s b t er k = k
kept_own w n c true q by s b t er k = absurd (true_not_false er)

module _ (version : ℕ) (t : Members) (k : NodeKept version t) (clocked : is_clocked (node_text_of version t) ≡ true) where
  named : names_none version t ≡ false
  named = by_name (names_none version t) refl
    where
      by_name : (b : Bool) → names_none version t ≡ b → names_none version t ≡ false
      by_name false is = is
      by_name true is =
          let wide = (and_parts (has_controllers version) (is_some (value_at key.Controller t)) is).0 in
          let alone = kept_named (has_controllers version) (names_none version t) (has_clock version t) (has_rates version t) (is_some (value_at key.Quantum t)) (is_by_bit_rate t) (has_tseg version t) (is_fraction version t) (has_traffic version) t is wide k in
          let none = no_quantum_named (is_fraction version t) t alone in
          let stopped = stopped_without version t (rates_none version t (wide_not_two version wide) none.2) none.0 none.1 in
          absurd (false≢true (sym (ap not stopped) ∙ clocked))

  narrow_k : has_controllers version ≡ false → Kept (required_for false false (has_rates version t) (is_some (value_at key.Quantum t)) false false) (node_optional (has_traffic version)) t
  narrow_k narrow =
      kept_narrow (has_controllers version) (names_none version t) (has_clock version t) (has_rates version t) (is_some (value_at key.Quantum t)) (is_by_bit_rate t) (has_tseg version t) (is_fraction version t) (has_traffic version) t
      narrow named (ap (λ (b : Bool). b && (is_some (value_at key.Clock t) || (is_some (value_at key.Prescaler t) || is_some (value_at key.BitRate t)))) narrow)
      (ap (λ (b : Bool). b && (is_some (value_at key.Tseg1 t) || is_some (value_at key.Tseg2 t))) narrow) k

  name_kept : is_name (name_at key.Name t) ≡ true
  name_kept =
      name_fits t (kept_name (names_none version t) (has_clock version t) (has_rates version t) (is_some (value_at key.Quantum t)) (is_by_bit_rate t) (has_tseg version t) (optional_in version t) t named k)

  listens_kept : (not (truth_at key.Listen t) || has_traffic version) ≡ true
  listens_kept = by_traffic (has_traffic version) refl
    where
      no_truth : value_at key.Listen t ≡ None → (b : Bool) → (not (truth_at key.Listen t) || b) ≡ true
      no_truth none b = rw none refl

      by_traffic : (b : Bool) → has_traffic version ≡ b → (not (truth_at key.Listen t) || has_traffic version) ≡ true
      by_traffic true is = ap (λ (b : Bool). not (truth_at key.Listen t) || b) is ∙ or-true (not (truth_at key.Listen t))
      by_traffic false is =
          let old = subst (λ (b : Bool). Kept (required_for false false (has_rates version t) (is_some (value_at key.Quantum t)) false false) (node_optional b) t) is (narrow_k (or_right (version == 3) (has_controllers version) is)) in
          no_truth (old_node (has_rates version t) (is_some (value_at key.Quantum t)) t old) (has_traffic version)

  narrow_lacks : has_controllers version ≡ false → (value_at key.Queue t ≡ None) × (value_at key.Until t ≡ None)
  narrow_lacks narrow = narrow_node (has_rates version t) (is_some (value_at key.Quantum t)) (has_traffic version) t (narrow_k narrow)

  queue_kept : (not (is_by_priority (queue_at key.Queue t)) || has_controllers version) ≡ true
  queue_kept = by_width (has_controllers version) refl
    where
      no_queue : value_at key.Queue t ≡ None → (b : Bool) → (not (is_by_priority (queue_at key.Queue t)) || b) ≡ true
      no_queue none b = rw none refl

      by_width : (b : Bool) → has_controllers version ≡ b → (not (is_by_priority (queue_at key.Queue t)) || has_controllers version) ≡ true
      by_width true is = ap (λ (b : Bool). not (is_by_priority (queue_at key.Queue t)) || b) is ∙ or-true (not (is_by_priority (queue_at key.Queue t)))
      by_width false is = no_queue (narrow_lacks is).0 (has_controllers version)

  own_kept : has_rates version t ≡ false → is_clock_text (has_controllers version) (clock_of t) ≡ true
  own_kept has =
      own_clock_fits (has_controllers version) (names_none version t) (has_clock version t) (is_some (value_at key.Quantum t)) (is_by_bit_rate t) (has_tseg version t) (has_traffic version) t
      (λ is. (and_parts (has_controllers version) (is_some (value_at key.Controller t)) is).0)
      (λ is. (and_parts (has_controllers version) (is_some (value_at key.Clock t) || (is_some (value_at key.Prescaler t) || is_some (value_at key.BitRate t))) is).0)
      (λ narrow. ap (λ (b : Bool). b && (is_some (value_at key.Tseg1 t) || is_some (value_at key.Tseg2 t))) narrow)
      refl
      (kept_own (has_controllers version) (names_none version t) (has_clock version t) (has_rates version t) (is_some (value_at key.Quantum t)) (is_by_bit_rate t) (has_tseg version t) (has_traffic version) t has k)
      (value_at key.Ppm t) refl (value_at key.Quantum t) refl named

  node_fits : list_all (is_rate false) (map rate_of (tables_at key.Rates t)) ≡ true → list_all (is_frame_text version) (map frame_of (tables_at key.Frame t)) ≡ true → is_node version (node_text_of version t) ≡ true
  node_fits rates frames =
      rw (
        name_kept,
        number_fits key.Offset t,
        rates_fit version t own_kept rates clocked,
        segments_fit version t,
        number_fits key.Sjw t,
        small_fits key.X t,
        number_fits key.Out t,
        number_fits key.In t,
        tolerance_fits key.Tolerance t,
        listens_kept,
        queue_kept,
        some_number_fits (has_controllers version) key.Until t (λ narrow. (narrow_lacks narrow).1),
        frames,
      ) refl

node_kept : (version i : ℕ) (t : Members) → node_fault_at version i t ≡ None → is_clocked (node_text_of version t) ≡ true → is_node version (node_text_of version t) ≡ true
node_kept version i t h clocked =
    let (own, more) = first_parts _ _ h in
    let (rates, last) = first_parts _ _ more in
    let frames = (first_parts _ _ last).0 in
    node_fits version t (table_kept (node_required version t) (optional_in version t) t (mapped_none _ (table_fault (node_keys version t) t) own)) clocked
    (each_kept (rate_fault_at i) rate_of (is_rate false) (λ n r f. rate_kept r (mapped_none _ (rate_fault r) f)) 0 (tables_at key.Rates t) rates)
    (each_kept (frame_fault_at version i) frame_of (is_frame_text version) (λ n r f. frame_kept version r (mapped_none _ (frame_fault version r) f)) 0 (tables_at key.Frame t) frames)

pub nodes_kept : (version n : ℕ) (ts : List Members) → first_some (map (λ r. node_fault_at version r.0 r.1) (enumerate_from n ts)) ≡ None → list_all is_clocked (map (node_text_of version) ts) ≡ true
    → list_all (is_node version) (map (node_text_of version) ts) ≡ true
nodes_kept version n [] h clocked = refl
nodes_kept version n (t ∷ ts) h clocked =
    let (here, more) = first_parts (node_fault_at version n t) (map (λ r. node_fault_at version r.0 r.1) (enumerate_from (n + 1) ts)) h in
    let (runs, others) = and_parts (is_clocked (node_text_of version t)) (list_all is_clocked (map (node_text_of version) ts)) clocked in
    rw (node_kept version n t here runs) (nodes_kept version (n + 1) ts more others)

pub disturbances_kept : (version : ℕ) (ts : List Members) → first_in (disturbance_fault_at version) ts ≡ None → list_all (is_disturbance (has_traffic version)) (map disturbance_of ts) ≡ true
disturbances_kept version ts h =
    each_kept (disturbance_fault_at version) disturbance_of (is_disturbance (has_traffic version)) (λ n t f. disturbance_kept version t (mapped_none _ (disturbance_fault version t) f)) 0 ts h
