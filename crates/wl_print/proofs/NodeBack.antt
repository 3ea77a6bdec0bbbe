-- Nodes and plans that were printed are read as they were.
use Rattle.std.proofs.Common.{◌≡◌, ◌∙◌, refl, sym, ap, subst, ℕ, ◌+◌, pos, Bool, true, false, not, ◌&&◌, ◌||◌, ◌==◌, nat_le, List, [], ◌∷◌, ◌++◌, map, codes, filter_map, Option, Some, None, option_map, is_some, if◌then◌else◌, arith, inl, inr}
use Rattle.std.proofs.Math.Bool.{and-false}
use Rattle.std.proofs.lemmas.Bool.{and_parts, cases_Bool, false≢true}
use Rattle.std.proofs.lemmas.Bool.Decides.{nat_tests}
use Rattle.std.specs.List.{enumerate_from, list_all}
use Rattle.toml.specs.Data.{Data, string, integer, array, Items, Members, no_members, as_table, get_member}
use Rattle.wl_setup.specs.declared.keys.Key.{Key}
use Rattle.wl_setup.specs.declared.keys.Key.TheVariants as key
use Rattle.wl_setup.specs.declared.keys.Kind.TheVariants as kind
use Rattle.wl_setup.specs.declared.plan_text.ClockText.{ClockText}
use Rattle.wl_setup.specs.declared.plan_text.ClockText.TheVariants as text
use Rattle.wl_setup.specs.declared.plan_text.FrameText.{FrameText}
use Rattle.wl_setup.specs.declared.plan_text.NodeText.{NodeText}
use Rattle.wl_setup.specs.declared.plan_text.QueueText.{QueueText}
use Rattle.wl_setup.specs.declared.plan_text.QueueText.TheVariants as queue
use Rattle.wl_setup.specs.declared.plan_text.RateText.{RateText}
use Rattle.wl_setup.specs.declared.plan_text.SegmentsText.{SegmentsText}
use Rattle.wl_setup.specs.declared.plan_text.SegmentsText.TheVariants as segments
use Rattle.wl_setup.specs.declared.table_path.PlacedFault.{PlacedFault}
use Rattle.wl_setup.specs.Faults.{first_some, has_clock, has_rates, has_tseg, is_by_bit_rate, is_fraction, is_of_table, is_value_of, names_none, node_keys, node_required, optional_in, table_fault}
use Rattle.wl_setup.specs.Keys.{key_text, node_optional, required_after_clock, required_by_clock, required_by_ppm, required_by_rate, required_by_rates, wide_node_optional}
use Rattle.wl_setup.specs.Kinds.{has_kind, is_name, is_ppm, list_of, name_at, number_at, queue_at, small_at, some_number_at, tables_at, tolerance_at, truth_at, value_at}
use Rattle.wl_setup.specs.Limits.{largest_number, largest_small, largest_tolerance}
use Rattle.wl_setup.specs.TablePaths.{first_in, frame_fault_at, node_fault_at, rate_fault_at}
use Rattle.wl_setup.specs.Texts.{clock_of, frame_of, node_text_of, rate_of, rates_of, segments_text_of}
use Rattle.wl_setup.specs.Version.{has_controllers, has_traffic, is_known_version}
use Rattle.wl_print.specs.Printable.{are_rates, are_segments, is_by_priority, is_clock_text, is_frame_text, is_number_of_key, is_rate, is_tolerance}
use Rattle.wl_print.specs.Written.{is_one, is_own}
use Rattle.wl_print.proofs.Entries.{AllAllowed, AllTaken, Allowed, AreProper, Entry, Taken, all_members, all_there, entries_of, found, no_fault, proper_entries, rows_proper, seen, tables_value, with_entry, with_rows_is, with_tables_is}
use Rattle.wl_print.proofs.PlanRows.{IsNode, den_of, frame_are_rows, frame_facts, frame_members, frame_rows, has_deviation, name_of, node_are_rows, node_members, node_rows, num_of, number_of, one_rate, own_clock, ppm_of, prop_of, ps1_of, ps2_of, quantum_of, queue_word, rate_are_rows, rate_members, rate_rows, rates_all, rates_apart, signed_of, tseg1_of, tseg2_of}
use Rattle.wl_print.proofs.Readback.{clock_by_deviation, clock_by_fraction, clock_by_ppm, datum, flag_allowed, flag_seen, frame_fine, frame_is, frame_read, number_allowed, number_kind, number_none, number_seen, ppm_seen, rate_back, small_seen, some_number_seen}
use Rattle.wl_print.proofs.Sorted.{is_proper, is_proper_items, kept, sorted, sorted_items}
use Rattle.wl_print.proofs.Tables.{all_tables, tables_in_order, with_rows, with_tables}

-- ---- arrays of tables

module _ {X : Type 0} (table_of : X → Members) where
  items_proper : (test : X → Bool) → ((x : X) → test x ≡ true → is_proper (table_of x) ≡ true) → (xs : List X) → list_all test xs ≡ true
      → is_proper_items (tables_in_order table_of xs) ≡ true
  items_proper test each [] all = refl
  items_proper test each (x ∷ xs) all =
      let (here, more) = and_parts (test x) (list_all test xs) all in
      rw (each x here) (items_proper test each xs more)

  pub entry_proper : (test : X → Bool) → ((x : X) → test x ≡ true → is_proper (table_of x) ≡ true) → (k : List ℕ) (xs : List X) (es : List Entry) → list_all test xs ≡ true
      → AreProper es → AreProper ((k, tables_value table_of xs) ∷ es)
  entry_proper test each k [] es all more = more
  entry_proper test each k (x ∷ xs) es all more = (items_proper test each (x ∷ xs) all, more)

  pub kept_tables : (x : X) (xs : List X) → kept (array (tables_in_order table_of (x ∷ xs))) ≡ array (sorted_items (tables_in_order table_of (x ∷ xs)))
  kept_tables x xs = rw (all_tables table_of xs) refl

  tables_back : (xs : List X) → filter_map as_table (list_of (sorted_items (tables_in_order table_of xs))) ≡ map (λ x. sorted (table_of x)) xs
  tables_back [] = refl
  tables_back (x ∷ xs) = ap (λ (ts : List Members). sorted (table_of x) ∷ ts) (tables_back xs)

  tables_by : (k : Key) (t : Members) (ds : Items) (ts : List Members) → value_at k t ≡ Some (array ds) → filter_map as_table (list_of ds) ≡ ts → tables_at k t ≡ ts
  tables_by k t ds ts is same = rw is same

  tables_none : (k : Key) (t : Members) → value_at k t ≡ None → tables_at k t ≡ []
  tables_none k t is = rw is refl

  pub tables_seen : (k : Key) (t : Members) (xs : List X) → value_at k t ≡ option_map kept (tables_value table_of xs) → tables_at k t ≡ map (λ x. sorted (table_of x)) xs
  tables_seen k t [] is = tables_none k t is
  tables_seen k t (x ∷ xs) is = tables_by k t (sorted_items (tables_in_order table_of (x ∷ xs))) _ (is ∙ ap Some (kept_tables x xs)) (tables_back (x ∷ xs))

  are_tables_kind : (xs : List X) → list_all (λ e. is_some (as_table e)) (list_of (sorted_items (tables_in_order table_of xs))) ≡ true
  are_tables_kind [] = refl
  are_tables_kind (x ∷ xs) = are_tables_kind xs

  pub tables_taken : (k : Key) → ((d : Data) → is_value_of k d ≡ has_kind kind.Tables d) → (t : Members) (x : X) (xs : List X) → value_at k t ≡ option_map kept (tables_value table_of (x ∷ xs)) → Taken t k
  tables_taken k kinded t x xs is =
      (array (sorted_items (tables_in_order table_of (x ∷ xs))), is ∙ ap Some (kept_tables x xs), kinded _ ∙ are_tables_kind (x ∷ xs))

  pub tables_allowed : (k : Key) → ((d : Data) → is_value_of k d ≡ has_kind kind.Tables d) → (t : Members) (xs : List X) → value_at k t ≡ option_map kept (tables_value table_of xs) → Allowed t k
  tables_allowed k kinded t [] is = inl is
  tables_allowed k kinded t (x ∷ xs) is = inr (tables_taken k kinded t x xs is)

  -- what is read of each table is what was printed
  pub map_back : {Y : Type 0} (read : Members → Y) (make : X → Y) (test : X → Bool) → ((x : X) → test x ≡ true → read (sorted (table_of x)) ≡ make x) → (xs : List X) → list_all test xs ≡ true
      → map read (map (λ x. sorted (table_of x)) xs) ≡ map make xs
  map_back read make test each [] all = refl
  map_back read make test each (x ∷ xs) all =
      let (here, more) = and_parts (test x) (list_all test xs) all in
      rw (each x here, map_back read make test each xs more) refl

  -- no table has a fault, whatever its number
  quiet_from : (fault : ℕ → Members → Option PlacedFault) (test : X → Bool) → ((n : ℕ) (x : X) → test x ≡ true → fault n (sorted (table_of x)) ≡ None) → (k : ℕ) (xs : List X)
      → list_all test xs ≡ true → first_some (map (λ r. fault r.0 r.1) (enumerate_from k (map (λ x. sorted (table_of x)) xs))) ≡ None
  quiet_from fault test each k [] all = refl
  quiet_from fault test each k (x ∷ xs) all =
      let (here, more) = and_parts (test x) (list_all test xs) all in
      rw (each k x here) (quiet_from fault test each (k + 1) xs more)

  pub quiet : (fault : ℕ → Members → Option PlacedFault) (test : X → Bool) → ((n : ℕ) (x : X) → test x ≡ true → fault n (sorted (table_of x)) ≡ None) → (xs : List X)
      → list_all test xs ≡ true → first_in fault (map (λ x. sorted (table_of x)) xs) ≡ None
  quiet fault test each xs all = quiet_from fault test each 0 xs all

pub map_same : {X : Type 0} (xs : List X) → map (λ x. x) xs ≡ xs
map_same [] = refl
map_same (x ∷ xs) = ap (λ ys. x ∷ ys) (map_same xs)

-- ---- rates and frames of a node

rate_proper : (r : RateText) → is_rate false r ≡ true → is_proper (rate_members r) ≡ true
rate_proper r h = ap is_proper (with_rows_is (rate_rows r) []) ∙ proper_entries (entries_of (rate_rows r)) refl (rows_proper (rate_rows r) [] (rate_are_rows false r h) tt)

frame_proper : (version : ℕ) (f : FrameText) → is_frame_text version f ≡ true → is_proper (frame_members f) ≡ true
frame_proper version f h =
    let facts = frame_facts version f h in
    ap is_proper (with_rows_is (frame_rows f) []) ∙ proper_entries (entries_of (frame_rows f)) refl (rows_proper (frame_rows f) [] (frame_are_rows version f facts) tt)

rate_read : (r : RateText) → is_rate false r ≡ true → rate_of (sorted (rate_members r)) ≡ r
rate_read r h = ap (λ (t : Members). rate_of (sorted t)) (with_rows_is (rate_rows r) []) ∙ (rate_back r.from r.clock h).0

rate_quiet : (i n : ℕ) (r : RateText) → is_rate false r ≡ true → rate_fault_at i n (sorted (rate_members r)) ≡ None
rate_quiet i n r h = ap (λ (t : Members). rate_fault_at i n (sorted t)) (with_rows_is (rate_rows r) []) ∙ rw (rate_back r.from r.clock h).1 refl

frame_read_as : (version : ℕ) (f : FrameText) → is_frame_text version f ≡ true → frame_of (sorted (frame_members f)) ≡ f
frame_read_as version f h =
    let facts = frame_facts version f h in
    ap (λ (t : Members). frame_of (sorted t)) (frame_is version f facts) ∙ frame_read version f facts

frame_quiet : (version i n : ℕ) (f : FrameText) → is_frame_text version f ≡ true → frame_fault_at version i n (sorted (frame_members f)) ≡ None
frame_quiet version i n f h =
    let facts = frame_facts version f h in
    ap (λ (t : Members). frame_fault_at version i n (sorted t)) (frame_is version f facts) ∙ rw (frame_fine version f facts) refl

-- ---- a node

abbrev pub node_entries : ℕ → NodeText → List Entry
node_entries version n =
    entries_of (node_rows version n) ++ (codes "rates", tables_value rate_members (rates_apart version n.rates)) ∷ (codes "frame", tables_value frame_members n.frame) ∷ []

pub node_is : (version : ℕ) (n : NodeText) → node_members version n ≡ all_members (node_entries version n)
node_is version n =
    ap (with_rows (node_rows version n))
    (with_tables_is rate_members (codes "rates") (rates_apart version n.rates) (with_tables frame_members (codes "frame") n.frame no_members)
    ∙ ap (with_entry (codes "rates") (tables_value rate_members (rates_apart version n.rates))) (with_tables_is frame_members (codes "frame") n.frame no_members))
    ∙ with_rows_is (node_rows version n) ((codes "rates", tables_value rate_members (rates_apart version n.rates)) ∷ (codes "frame", tables_value frame_members n.frame) ∷ [])

no_deviation : (v : ℕ) (b : Bool) → ((v == 1) || (((v == 3) || (v == 4)) && b)) ≡ false → ((v == 4) && b) ≡ false
no_deviation v b h = grind (arith, nat_tests)

-- rates that are tables of their own have no deviation beside a fraction
apart_all : (version : ℕ) (rates : List RateText) → are_rates version rates ≡ true → is_own version rates ≡ false → list_all (is_rate false) rates ≡ true
apart_all version rates h apart =
    ap (λ (b : Bool). list_all (is_rate b) rates) (sym (no_deviation version (is_one rates) apart)) ∙ rates_all version rates h

pub rates_apart_all : (version : ℕ) (rates : List RateText) → are_rates version rates ≡ true → list_all (is_rate false) (rates_apart version rates) ≡ true
rates_apart_all version rates h =
    elim (cases_Bool (is_own version rates)) [
      | inl own ↦ rw own refl
      | inr apart ↦ rw apart (apart_all version rates h apart)
    ]

pub node_proper : (version : ℕ) (n : NodeText) → IsNode version n → AreProper (node_entries version n)
node_proper version n h =
    rows_proper (node_rows version n) _ (node_are_rows version n h)
    (entry_proper rate_members (is_rate false) rate_proper (codes "rates") (rates_apart version n.rates) _ (rates_apart_all version n.rates h.rates)
    (entry_proper frame_members (is_frame_text version) (frame_proper version) (codes "frame") n.frame [] h.frames tt))

pub node_sees : (version : ℕ) (n : NodeText) → IsNode version n → (l : List ℕ) → get_member l (sorted (all_members (node_entries version n))) ≡ option_map kept (found l (node_entries version n))
node_sees version n h l = seen l (node_entries version n) refl (node_proper version n h)

own_not_two : (v : ℕ) (b : Bool) → ((v == 1) || (((v == 3) || (v == 4)) && b)) ≡ true → (v == 2) ≡ false
own_not_two v b h = grind (arith, nat_tests)

tables_known : (v : ℕ) (b : Bool) → is_known_version v ≡ true → ((v == 1) || (((v == 3) || (v == 4)) && b)) ≡ false → ((v == 2) || (has_traffic v && true)) ≡ true
tables_known v b known h = grind (arith, nat_tests)

some_tables : (rates : List RateText) → is_some (option_map kept (tables_value rate_members rates)) ≡ true → (r : RateText) × (rs : List RateText) × (rates ≡ r ∷ rs)
some_tables [] h = absurd (false≢true h)
some_tables (r ∷ rs) h = (r, rs, refl)

-- a node has tables of rates exactly if its clock keys aren't its own
pub rates_none : (version : ℕ) (t : Members) → (version == 2) ≡ false → value_at key.Rates t ≡ None → has_rates version t ≡ false
rates_none version t two none = rw (two, none) (and-false (has_traffic version))

rates_some : (version : ℕ) (b : Bool) (t : Members) → is_known_version version ≡ true → ((version == 1) || (((version == 3) || (version == 4)) && b)) ≡ false
    → is_some (value_at key.Rates t) ≡ true → has_rates version t ≡ true
rates_some version b t known apart some = ap (λ (c : Bool). (version == 2) || (has_traffic version && c)) some ∙ tables_known version b known apart

-- the clock that keys say
abbrev SeesClock : Members → Option ClockText → Type 0
SeesClock t c =
    (value_at key.Num t ≡ datum (number_of (num_of c))) × (value_at key.Den t ≡ datum (number_of (den_of c)))
    × (value_at key.Quantum t ≡ datum (number_of (quantum_of c))) × (value_at key.Ppm t ≡ datum (signed_of (ppm_of c)))

clock_back : (t : Members) (known : Bool) (c : ClockText) → is_clock_text known c ≡ true → SeesClock t (Some c) → clock_of t ≡ c
clock_back t known (text.Rate num den) h s =
    let (n, d) = and_parts (is_number_of_key num) (is_number_of_key den) h in
    clock_by_fraction t num den s.2 s.3 (number_seen key.Num t num s.0 n) (number_seen key.Den t den s.1 d)
clock_back t known (text.Ppm quantum ppm) h s =
    let (n, d) = and_parts (is_number_of_key quantum) (is_ppm ppm) h in
    clock_by_ppm t quantum ppm (ap (λ (o : Option Data). is_some o) s.2) (number_seen key.Quantum t quantum s.2 n) (ppm_seen key.Ppm t ppm s.3)
clock_back t known (text.Fraction num den ppm) h s =
    let more = (and_parts known (is_number_of_key num && (is_number_of_key den && is_ppm ppm)) h).1 in
    let (n, rest) = and_parts (is_number_of_key num) (is_number_of_key den && is_ppm ppm) more in
    let (d, e) = and_parts (is_number_of_key den) (is_ppm ppm) rest in
    clock_by_deviation t num den ppm s.2 (ap (λ (o : Option Data). is_some o) s.3) (number_seen key.Num t num s.0 n) (number_seen key.Den t den s.1 d) (ppm_seen key.Ppm t ppm s.3)

first_from : (version : ℕ) (r : RateText) → are_rates version (r ∷ []) ≡ true → is_own version (r ∷ []) ≡ true → r.from ≡ 0
first_from version r h own = grind (arith, nat_tests)

own_back : (version : ℕ) (rates : List RateText) (t : Members) → are_rates version rates ≡ true → is_own version rates ≡ true → SeesClock t (own_clock version rates)
    → record { from = 0; clock = clock_of t } ∷ [] ≡ rates
own_back version [] t h own s = absurd (false≢true h)
own_back version (r ∷ []) t h own s =
    let known = has_deviation version (r ∷ []) in
    let here = (and_parts (is_rate known r) true (and_parts _ _ h).0).0 in
    let clock = (and_parts (is_number_of_key r.from) (is_clock_text known r.clock) here).1 in
    let sees : SeesClock t (Some r.clock) = subst (λ (c : Option ClockText). SeesClock t c) (ap (λ (b : Bool). if b then Some r.clock else None) own) s in
    rw (clock_back t known r.clock clock sees, ← first_from version r h own) refl
own_back version (r ∷ q ∷ rs) t h own s = absurd (one_rate version r q rs h own)

rates_back : (version : ℕ) (rates : List RateText) (t : Members) → is_known_version version ≡ true → are_rates version rates ≡ true
    → value_at key.Rates t ≡ option_map kept (tables_value rate_members (rates_apart version rates)) → SeesClock t (own_clock version rates) → rates_of version t ≡ rates
rates_back version rates t known h tables s =
    elim (cases_Bool (is_own version rates)) [
      | inl own ↦
          let none : value_at key.Rates t ≡ None = tables ∙ rw own refl in
          let has = rates_none version t (own_not_two version (is_one rates) own) none in
          ap (λ (b : Bool). if b then map rate_of (tables_at key.Rates t) else record { from = 0; clock = clock_of t } ∷ []) has ∙ own_back version rates t h own s
      | inr apart ↦
          let all = apart_all version rates h apart in
          let is : value_at key.Rates t ≡ option_map kept (tables_value rate_members rates) = tables ∙ rw apart refl in
          let some : is_some (value_at key.Rates t) ≡ true = ap (λ (o : Option Data). is_some o) is ∙ some_of version rates h in
          let has = rates_some version (is_one rates) t known apart some in
          ap (λ (b : Bool). if b then map rate_of (tables_at key.Rates t) else record { from = 0; clock = clock_of t } ∷ []) has
          ∙ ap (map rate_of) (tables_seen rate_members key.Rates t rates is)
          ∙ map_back rate_members rate_of (λ r. r) (is_rate false) rate_read rates all ∙ map_same rates
    ]
  where
    some_of : (version : ℕ) (rates : List RateText) → are_rates version rates ≡ true → is_some (option_map kept (tables_value rate_members rates)) ≡ true
    some_of version [] h = absurd (false≢true h)
    some_of version (r ∷ rs) h = refl

-- the segments that keys say
abbrev SeesBit : Members → SegmentsText → Type 0
SeesBit t s =
    (value_at key.Prop t ≡ datum (number_of (prop_of s))) × (value_at key.Ps1 t ≡ datum (number_of (ps1_of s))) × (value_at key.Ps2 t ≡ datum (number_of (ps2_of s)))
    × (value_at key.Tseg1 t ≡ datum (number_of (tseg1_of s))) × (value_at key.Tseg2 t ≡ datum (number_of (tseg2_of s)))

abbrev is_tseg : SegmentsText → Bool
is_tseg (segments.Each prop ps1 ps2) = false
is_tseg (segments.Controller tseg1 tseg2) = true

tseg_none : (version : ℕ) (t : Members) → value_at key.Tseg1 t ≡ None → value_at key.Tseg2 t ≡ None → has_tseg version t ≡ false
tseg_none version t a b = rw (a, b) (and-false (has_controllers version))

tseg_some : (version : ℕ) (t : Members) → has_controllers version ≡ true → is_some (value_at key.Tseg1 t) ≡ true → has_tseg version t ≡ true
tseg_some version t known some = ap (λ (b : Bool). has_controllers version && (b || is_some (value_at key.Tseg2 t))) some ∙ rw known refl

bit_has : (version : ℕ) (t : Members) (s : SegmentsText) → are_segments (has_controllers version) s ≡ true → SeesBit t s → has_tseg version t ≡ is_tseg s
bit_has version t (segments.Each prop ps1 ps2) h s = tseg_none version t s.3 s.4
bit_has version t (segments.Controller tseg1 tseg2) h s = tseg_some version t (and_parts (has_controllers version) _ h).0 (ap (λ (o : Option Data). is_some o) s.3)

bit_by : (version : ℕ) (t : Members) (b : Bool) → has_tseg version t ≡ b
    → segments_text_of version t ≡ (if b then segments.Controller (number_at key.Tseg1 t) (number_at key.Tseg2 t) else segments.Each (number_at key.Prop t) (number_at key.Ps1 t) (number_at key.Ps2 t))
bit_by version t b is =
    ap (λ (c : Bool). if c then segments.Controller (number_at key.Tseg1 t) (number_at key.Tseg2 t) else segments.Each (number_at key.Prop t) (number_at key.Ps1 t) (number_at key.Ps2 t)) is

bit_back : (version : ℕ) (t : Members) (s : SegmentsText) → are_segments (has_controllers version) s ≡ true → SeesBit t s → segments_text_of version t ≡ s
bit_back version t (segments.Each prop ps1 ps2) h s =
    let (a, more) = and_parts (is_number_of_key prop) (is_number_of_key ps1 && is_number_of_key ps2) h in
    let (b, c) = and_parts (is_number_of_key ps1) (is_number_of_key ps2) more in
    bit_by version t false (bit_has version t (segments.Each prop ps1 ps2) h s) ∙ rw (number_seen key.Prop t prop s.0 a, number_seen key.Ps1 t ps1 s.1 b, number_seen key.Ps2 t ps2 s.2 c) refl
bit_back version t (segments.Controller tseg1 tseg2) h s =
    let more = (and_parts (has_controllers version) (is_number_of_key tseg1 && is_number_of_key tseg2) h).1 in
    let (a, b) = and_parts (is_number_of_key tseg1) (is_number_of_key tseg2) more in
    bit_by version t true (bit_has version t (segments.Controller tseg1 tseg2) h s) ∙ rw (number_seen key.Tseg1 t tseg1 s.3 a, number_seen key.Tseg2 t tseg2 s.4 b) refl

tolerance_read : (t : Members) (n : ℕ) → value_at key.Tolerance t ≡ Some (integer (pos n)) → nat_le n largest_tolerance ≡ true → tolerance_at key.Tolerance t ≡ Some n
tolerance_read t n is h = rw (is, h) refl

tolerance_back : (t : Members) (o : Option ℕ) → value_at key.Tolerance t ≡ datum (number_of o) → is_tolerance o ≡ true → tolerance_at key.Tolerance t ≡ o
tolerance_back t None is h = rw is refl
tolerance_back t (Some n) is h = tolerance_read t n is h

queue_back : (t : Members) (q : QueueText) → value_at key.Queue t ≡ datum (name_of (queue_word q)) → queue_at key.Queue t ≡ q
queue_back t queue.Fifo is = rw is refl
queue_back t queue.Priority is = rw is refl

name_back : (t : Members) (s : List ℕ) → value_at key.Name t ≡ Some (string s) → name_at key.Name t ≡ s
name_back t s is = rw is refl

pub node_read : (version : ℕ) (n : NodeText) → is_known_version version ≡ true → IsNode version n → node_text_of version (sorted (all_members (node_entries version n))) ≡ n
node_read version n known h =
    let t = sorted (all_members (node_entries version n)) in
    let sees = node_sees version n h in
    node_by version t n
    (name_back t n.name (sees (codes "name")), number_seen key.Offset t n.offset (sees (codes "offset")) h.offset)
    (rates_back version n.rates t known h.rates (sees (codes "rates")) (sees (codes "num"), sees (codes "den"), sees (codes "quantum"), sees (codes "ppm")))
    (bit_back version t n.segments h.bit (sees (codes "prop"), sees (codes "ps1"), sees (codes "ps2"), sees (codes "tseg1"), sees (codes "tseg2")))
    (number_seen key.Sjw t n.sjw (sees (codes "sjw")) h.sjw, small_seen key.X t n.x (sees (codes "x")) h.x)
    (number_seen key.Out t n.out_delay (sees (codes "out")) h.out, number_seen key.In t n.in_delay (sees (codes "in")) h.into)
    (ap (map frame_of) (tables_seen frame_members key.Frame t n.frame (sees (codes "frame")))
    ∙ map_back frame_members frame_of (λ f. f) (is_frame_text version) (frame_read_as version) n.frame h.frames ∙ map_same n.frame)
    (tolerance_back t n.tolerance (sees (codes "tolerance")) h.tolerance, flag_seen key.Listen t n.listens (sees (codes "listen")))
    (queue_back t n.queue (sees (codes "queue")), some_number_seen (has_controllers version) key.Until t n.until (sees (codes "until")) h.until)
  where
    node_by : (version : ℕ) (t : Members) (n : NodeText) → (name_at key.Name t ≡ n.name) × (number_at key.Offset t ≡ n.offset) → rates_of version t ≡ n.rates
        → segments_text_of version t ≡ n.segments → (number_at key.Sjw t ≡ n.sjw) × (small_at key.X t ≡ n.x) → (number_at key.Out t ≡ n.out_delay) × (number_at key.In t ≡ n.in_delay)
        → map frame_of (tables_at key.Frame t) ≡ n.frame → (tolerance_at key.Tolerance t ≡ n.tolerance) × (truth_at key.Listen t ≡ n.listens) → (queue_at key.Queue t ≡ n.queue) × (some_number_at key.Until t ≡ n.until) → node_text_of version t ≡ n
    node_by version t n a b c d e f g i = rw (a.0, a.1, b, c, d.0, d.1, e.0, e.1, f, g.0, g.1, i.0, i.1) refl

-- ---- a node's table has no fault

abbrev own_required : ClockText → Bool → List Key
own_required (text.Rate num den) b = required_by_rate b
own_required (text.Ppm quantum ppm) b = required_by_ppm b
own_required (text.Fraction num den ppm) b = required_by_rate b

-- a node's clock is written as a fraction, with a deviation or without
abbrev is_by_fraction : ClockText → Bool
is_by_fraction (text.Rate num den) = true
is_by_fraction (text.Ppm quantum ppm) = false
is_by_fraction (text.Fraction num den ppm) = true

abbrev pub optional_by : Bool → Bool → Bool → List Key
optional_by wide known fraction = if wide then wide_node_optional fraction else node_optional known

-- what a node lacks in an earlier version
abbrev LacksOld : Bool → NodeText → Type 0
LacksOld known n = (known ≡ false → n.listens ≡ false) × (n.queue ≡ queue.Fifo) × (n.until ≡ None)

abbrev Lacks : Bool → Bool → NodeText → Type 0
Lacks true known n = Unit {0}
Lacks false known n = LacksOld known n

there_own : (version : ℕ) (n : NodeText) (wide b : Bool) (r : RateText) (c : ClockText) (s : SegmentsText) → is_own version n.rates ≡ true → n.rates ≡ r ∷ [] → r.clock ≡ c → n.segments ≡ s
    → is_clock_text wide c ≡ true → Lacks wide b n → all_there (is_of_table key_text (own_required c (is_tseg s)) (optional_by wide b (is_by_fraction c))) (node_entries version n) ≡ true
there_own version n true b r (text.Rate num den) (segments.Each prop ps1 ps2) own er ec es fits f = rw (own, er, ec, es) refl
there_own version n true b r (text.Rate num den) (segments.Controller tseg1 tseg2) own er ec es fits f = rw (own, er, ec, es) refl
there_own version n true b r (text.Ppm quantum ppm) (segments.Each prop ps1 ps2) own er ec es fits f = rw (own, er, ec, es) refl
there_own version n true b r (text.Ppm quantum ppm) (segments.Controller tseg1 tseg2) own er ec es fits f = rw (own, er, ec, es) refl
there_own version n true b r (text.Fraction num den ppm) (segments.Each prop ps1 ps2) own er ec es fits f = rw (own, er, ec, es) refl
there_own version n true b r (text.Fraction num den ppm) (segments.Controller tseg1 tseg2) own er ec es fits f = rw (own, er, ec, es) refl
there_own version n false true r (text.Rate num den) (segments.Each prop ps1 ps2) own er ec es fits f = rw (own, er, ec, es, f.1, f.2) refl
there_own version n false true r (text.Rate num den) (segments.Controller tseg1 tseg2) own er ec es fits f = rw (own, er, ec, es, f.1, f.2) refl
there_own version n false true r (text.Ppm quantum ppm) (segments.Each prop ps1 ps2) own er ec es fits f = rw (own, er, ec, es, f.1, f.2) refl
there_own version n false true r (text.Ppm quantum ppm) (segments.Controller tseg1 tseg2) own er ec es fits f = rw (own, er, ec, es, f.1, f.2) refl
there_own version n false false r (text.Rate num den) (segments.Each prop ps1 ps2) own er ec es fits f = rw (own, er, ec, es, f.0 refl, f.1, f.2) refl
there_own version n false false r (text.Rate num den) (segments.Controller tseg1 tseg2) own er ec es fits f = rw (own, er, ec, es, f.0 refl, f.1, f.2) refl
there_own version n false false r (text.Ppm quantum ppm) (segments.Each prop ps1 ps2) own er ec es fits f = rw (own, er, ec, es, f.0 refl, f.1, f.2) refl
there_own version n false false r (text.Ppm quantum ppm) (segments.Controller tseg1 tseg2) own er ec es fits f = rw (own, er, ec, es, f.0 refl, f.1, f.2) refl
there_own version n false b r (text.Fraction num den ppm) s own er ec es fits f = absurd (false≢true fits)

there_tables : (version : ℕ) (n : NodeText) (wide b : Bool) (s : SegmentsText) → is_own version n.rates ≡ false → n.segments ≡ s
    → Lacks wide b n → all_there (is_of_table key_text (required_by_rates (is_tseg s)) (optional_by wide b false)) (node_entries version n) ≡ true
there_tables version n true b (segments.Each prop ps1 ps2) apart es f = rw (apart, es) refl
there_tables version n true b (segments.Controller tseg1 tseg2) apart es f = rw (apart, es) refl
there_tables version n false true (segments.Each prop ps1 ps2) apart es f = rw (apart, es, f.1, f.2) refl
there_tables version n false true (segments.Controller tseg1 tseg2) apart es f = rw (apart, es, f.1, f.2) refl
there_tables version n false false (segments.Each prop ps1 ps2) apart es f = rw (apart, es, f.0 refl, f.1, f.2) refl
there_tables version n false false (segments.Controller tseg1 tseg2) apart es f = rw (apart, es, f.0 refl, f.1, f.2) refl

-- a printed node names no controller, and its clock isn't written by its frequency
abbrev NoClock : Members → Type 0
NoClock t =
    (value_at key.Controller t ≡ None) × (value_at key.Clock t ≡ None) × (value_at key.Prescaler t ≡ None) × (value_at key.BitRate t ≡ None)

no_names : (version : ℕ) (t : Members) → NoClock t → names_none version t ≡ false
no_names version t c = rw c.0 (and-false (has_controllers version))

no_clock : (version : ℕ) (t : Members) → NoClock t → has_clock version t ≡ false
no_clock version t c = rw (c.1, c.2, c.3) (and-false (has_controllers version))

required_is : (version : ℕ) (t : Members) (a q b : Bool) → NoClock t → has_rates version t ≡ a → is_some (value_at key.Quantum t) ≡ q → has_tseg version t ≡ b
    → node_required version t ≡ (if a then required_by_rates b else if q then required_by_ppm b else required_by_rate b)
required_is version t a q b c ea eq eb =
    ap (λ (x : Bool). if x then key.Controller ∷ [] else if has_clock version t then required_by_clock (is_by_bit_rate t) (has_tseg version t) else if has_rates version t then required_by_rates (has_tseg version t) else if is_some (value_at key.Quantum t) then required_by_ppm (has_tseg version t) else required_by_rate (has_tseg version t)) (no_names version t c)
    ∙ ap (λ (x : Bool). if x then required_by_clock (is_by_bit_rate t) (has_tseg version t) else if has_rates version t then required_by_rates (has_tseg version t) else if is_some (value_at key.Quantum t) then required_by_ppm (has_tseg version t) else required_by_rate (has_tseg version t)) (no_clock version t c)
    ∙ ap (λ (x : Bool). if x then required_by_rates (has_tseg version t) else if is_some (value_at key.Quantum t) then required_by_ppm (has_tseg version t) else required_by_rate (has_tseg version t)) ea
    ∙ ap (λ (x : Bool). if a then required_by_rates (has_tseg version t) else if x then required_by_ppm (has_tseg version t) else required_by_rate (has_tseg version t)) eq
    ∙ ap (λ (x : Bool). if a then required_by_rates x else if q then required_by_ppm x else required_by_rate x) eb

optional_is : (version : ℕ) (t : Members) (wide a q : Bool) → NoClock t → has_controllers version ≡ wide → has_rates version t ≡ a → is_some (value_at key.Quantum t) ≡ q
    → optional_in version t ≡ optional_by wide (has_traffic version) (not (a || q))
optional_is version t wide a q c ew ea eq =
    ap (λ (x : Bool). if x then wide_node_optional (is_fraction version t) else node_optional (has_traffic version)) ew
    ∙ ap (λ (x : Bool). if wide then wide_node_optional (x || not (has_rates version t || is_some (value_at key.Quantum t))) else node_optional (has_traffic version)) (no_clock version t c)
    ∙ ap (λ (x : Bool). if wide then wide_node_optional (not (x || is_some (value_at key.Quantum t))) else node_optional (has_traffic version)) ea
    ∙ ap (λ (x : Bool). if wide then wide_node_optional (not (a || x)) else node_optional (has_traffic version)) eq

-- what the keys of a node's place and segments hold
abbrev SeesPlace : Members → NodeText → Type 0
SeesPlace t n =
    (value_at key.Sjw t ≡ Some (integer (pos n.sjw))) × (value_at key.X t ≡ Some (integer (pos n.x))) × (value_at key.Out t ≡ Some (integer (pos n.out_delay)))
    × (value_at key.In t ≡ Some (integer (pos n.in_delay)))

after_clock_taken : (version : ℕ) (t : Members) (n : NodeText) (s : SegmentsText) → IsNode version n → are_segments (has_controllers version) s ≡ true → SeesBit t s → SeesPlace t n
    → AllTaken t (required_after_clock (is_tseg s))
after_clock_taken version t n (segments.Each prop ps1 ps2) h fits s p =
    let (a, more) = and_parts (is_number_of_key prop) (is_number_of_key ps1 && is_number_of_key ps2) fits in
    let (b, c) = and_parts (is_number_of_key ps1) (is_number_of_key ps2) more in (
      (integer (pos prop), s.0, number_kind largest_number prop a),
      (
        (integer (pos ps1), s.1, number_kind largest_number ps1 b),
        (
          (integer (pos ps2), s.2, number_kind largest_number ps2 c),
          (
            (integer (pos n.sjw), p.0, number_kind largest_number n.sjw h.sjw),
            (
              (integer (pos n.x), p.1, number_kind largest_small n.x h.x),
              ((integer (pos n.out_delay), p.2, number_kind largest_number n.out_delay h.out), ((integer (pos n.in_delay), p.3, number_kind largest_number n.in_delay h.into), tt)),
            ),
          ),
        ),
      ),
    )
after_clock_taken version t n (segments.Controller tseg1 tseg2) h fits s p =
    let more = (and_parts (has_controllers version) (is_number_of_key tseg1 && is_number_of_key tseg2) fits).1 in
    let (a, b) = and_parts (is_number_of_key tseg1) (is_number_of_key tseg2) more in (
      (integer (pos tseg1), s.3, number_kind largest_number tseg1 a),
      (
        (integer (pos tseg2), s.4, number_kind largest_number tseg2 b),
        (
          (integer (pos n.sjw), p.0, number_kind largest_number n.sjw h.sjw),
          (
            (integer (pos n.x), p.1, number_kind largest_small n.x h.x),
            ((integer (pos n.out_delay), p.2, number_kind largest_number n.out_delay h.out), ((integer (pos n.in_delay), p.3, number_kind largest_number n.in_delay h.into), tt)),
          ),
        ),
      ),
    )

name_taken : (t : Members) (s : List ℕ) → value_at key.Name t ≡ Some (string s) → is_name s ≡ true → Taken t key.Name
name_taken t s is h = (string s, is, h)

offset_taken : (t : Members) (m : ℕ) → value_at key.Offset t ≡ Some (integer (pos m)) → is_number_of_key m ≡ true → Taken t key.Offset
offset_taken t m is h = (integer (pos m), is, number_kind largest_number m h)

tolerance_allowed : (t : Members) (o : Option ℕ) → value_at key.Tolerance t ≡ datum (number_of o) → is_tolerance o ≡ true → Allowed t key.Tolerance
tolerance_allowed t None is h = inl is
tolerance_allowed t (Some m) is h = inr (integer (pos m), is, number_kind largest_tolerance m h)

queue_allowed : (t : Members) (q : QueueText) → value_at key.Queue t ≡ datum (name_of (queue_word q)) → Allowed t key.Queue
queue_allowed t queue.Fifo is = inl is
queue_allowed t queue.Priority is = inr (string (codes "priority"), is, refl)

-- a deviation is allowed where it isn't required
ppm_allowed : (t : Members) (known : Bool) (c : ClockText) → is_clock_text known c ≡ true → value_at key.Ppm t ≡ datum (signed_of (ppm_of (Some c))) → Allowed t key.Ppm
ppm_allowed t known (text.Rate num den) h is = inl is
ppm_allowed t known (text.Ppm quantum ppm) h is = inr (integer ppm, is, (and_parts (is_number_of_key quantum) (is_ppm ppm) h).1)
ppm_allowed t known (text.Fraction num den ppm) h is =
    let more = (and_parts known (is_number_of_key num && (is_number_of_key den && is_ppm ppm)) h).1 in
    let rest = (and_parts (is_number_of_key num) (is_number_of_key den && is_ppm ppm) more).1 in
    inr (integer ppm, is, (and_parts (is_number_of_key den) (is_ppm ppm) rest).1)

module _ (version : ℕ) (n : NodeText) (h : IsNode version n) where
  abbrev optional_t : Members
  optional_t = sorted (all_members (node_entries version n))

  frames_allowed : Allowed optional_t key.Frame
  frames_allowed = tables_allowed frame_members key.Frame (λ d. refl) optional_t n.frame (node_sees version n h (codes "frame"))

  deviates_allowed : Allowed optional_t key.Tolerance
  deviates_allowed = tolerance_allowed optional_t n.tolerance (node_sees version n h (codes "tolerance")) h.tolerance

  listen_allowed : Allowed optional_t key.Listen
  listen_allowed = flag_allowed key.Listen refl optional_t n.listens (node_sees version n h (codes "listen"))

  order_allowed : Allowed optional_t key.Queue
  order_allowed = queue_allowed optional_t n.queue (node_sees version n h (codes "queue"))

  until_allowed : Allowed optional_t key.Until
  until_allowed = number_allowed (has_controllers version) key.Until (λ d. refl) optional_t n.until (node_sees version n h (codes "until")) h.until

  absent : (k : Key) → value_at k optional_t ≡ None → Allowed optional_t k
  absent k none = inl none

  wide_allowed : (fraction : Bool) → (fraction ≡ true → Allowed optional_t key.Ppm) → AllAllowed optional_t (wide_node_optional fraction)
  wide_allowed true ppm = (
    frames_allowed,
    (
      deviates_allowed,
      (
        listen_allowed,
        (
          ppm refl,
          (
            order_allowed,
            (
              until_allowed,
              (
                absent key.Controller (node_sees version n h (codes "controller")),
                (absent key.OfKind (node_sees version n h (codes "kind")), (absent key.BitRate (node_sees version n h (codes "bitrate")), tt)),
              ),
            ),
          ),
        ),
      ),
    ),
  )
  wide_allowed false ppm = (
    frames_allowed,
    (
      deviates_allowed,
      (
        listen_allowed,
        (
          order_allowed,
          (
            until_allowed,
            (absent key.Controller (node_sees version n h (codes "controller")), (absent key.OfKind (node_sees version n h (codes "kind")), tt)),
          ),
        ),
      ),
    ),
  )

  node_allowed : (wide b fraction : Bool) → (fraction ≡ true → Allowed optional_t key.Ppm) → AllAllowed optional_t (optional_by wide b fraction)
  node_allowed true b fraction ppm = wide_allowed fraction ppm
  node_allowed false true fraction ppm = (frames_allowed, (deviates_allowed, (listen_allowed, tt)))
  node_allowed false false fraction ppm = (frames_allowed, (deviates_allowed, tt))

listens_known : (b c : Bool) → (not c || b) ≡ true → b ≡ false → c ≡ false
listens_known b false h old = refl
listens_known false true h old = absurd (false≢true h)
listens_known true true h old = absurd (false≢true (sym old))

fifo_known : (q : QueueText) (b : Bool) → (not (is_by_priority q) || b) ≡ true → b ≡ false → q ≡ queue.Fifo
fifo_known queue.Fifo b h old = refl
fifo_known queue.Priority false h old = absurd (false≢true h)
fifo_known queue.Priority true h old = absurd (false≢true (sym old))

node_lacks : (version : ℕ) (n : NodeText) (wide : Bool) → IsNode version n → has_controllers version ≡ wide → Lacks wide (has_traffic version) n
node_lacks version n true h is = tt
node_lacks version n false h is =
    (listens_known (has_traffic version) n.listens h.listens, fifo_known n.queue (has_controllers version) h.queue is, number_none (has_controllers version) n.until h.until is)

-- a node's table, by the keys that it needs
fine_with : (version : ℕ) (n : NodeText) (required optional : List Key) → node_required version (sorted (all_members (node_entries version n))) ≡ required
    → optional_in version (sorted (all_members (node_entries version n))) ≡ optional → AllTaken (sorted (all_members (node_entries version n))) required
    → AllAllowed (sorted (all_members (node_entries version n))) optional → all_there (is_of_table key_text required optional) (node_entries version n) ≡ true
    → table_fault (node_keys version (sorted (all_members (node_entries version n)))) (sorted (all_members (node_entries version n))) ≡ None
fine_with version n required optional needs may taken allowed there =
    let t = sorted (all_members (node_entries version n)) in
    ap (λ (ks : List Key). table_fault (record { required = ks; optional = optional_in version t }) t) needs
    ∙ ap (λ (ks : List Key). table_fault (record { required = required; optional = ks }) t) may
    ∙ no_fault required optional (node_entries version n) taken allowed there

clock_taken : (t : Members) (known : Bool) (c : ClockText) (rest : List Key) → is_clock_text known c ≡ true → SeesClock t (Some c) → AllTaken t rest → (b : Bool) → rest ≡ required_after_clock b → (name : Taken t key.Name) (offset : Taken t key.Offset)
    → AllTaken t (own_required c b)
clock_taken t known (text.Rate num den) rest h s more b is name offset =
    let (n, d) = and_parts (is_number_of_key num) (is_number_of_key den) h in
    (name, (offset, ((integer (pos num), s.0, number_kind largest_number num n), ((integer (pos den), s.1, number_kind largest_number den d), subst (λ (ks : List Key). AllTaken t ks) is more))))
clock_taken t known (text.Ppm quantum ppm) rest h s more b is name offset =
    let (n, d) = and_parts (is_number_of_key quantum) (is_ppm ppm) h in
    (name, (offset, ((integer (pos quantum), s.2, number_kind largest_number quantum n), ((integer ppm, s.3, d), subst (λ (ks : List Key). AllTaken t ks) is more))))
clock_taken t known (text.Fraction num den ppm) rest h s more b is name offset =
    let fits = (and_parts known (is_number_of_key num && (is_number_of_key den && is_ppm ppm)) h).1 in
    let (n, others) = and_parts (is_number_of_key num) (is_number_of_key den && is_ppm ppm) fits in
    let d = (and_parts (is_number_of_key den) (is_ppm ppm) others).0 in
    (name, (offset, ((integer (pos num), s.0, number_kind largest_number num n), ((integer (pos den), s.1, number_kind largest_number den d), subst (λ (ks : List Key). AllTaken t ks) is more))))

own_is : (version : ℕ) (t : Members) (c : ClockText) (b : Bool) → NoClock t → has_rates version t ≡ false → has_tseg version t ≡ b → SeesClock t (Some c) → node_required version t ≡ own_required c b
own_is version t (text.Rate num den) b none rates tseg s = required_is version t false false b none rates (ap (λ (o : Option Data). is_some o) s.2) tseg
own_is version t (text.Ppm quantum ppm) b none rates tseg s = required_is version t false true b none rates (ap (λ (o : Option Data). is_some o) s.2) tseg
own_is version t (text.Fraction num den ppm) b none rates tseg s = required_is version t false false b none rates (ap (λ (o : Option Data). is_some o) s.2) tseg

own_may : (version : ℕ) (t : Members) (c : ClockText) (wide : Bool) → NoClock t → has_controllers version ≡ wide → has_rates version t ≡ false → SeesClock t (Some c)
    → optional_in version t ≡ optional_by wide (has_traffic version) (is_by_fraction c)
own_may version t (text.Rate num den) wide none ew rates s = optional_is version t wide false false none ew rates (ap (λ (o : Option Data). is_some o) s.2)
own_may version t (text.Ppm quantum ppm) wide none ew rates s = optional_is version t wide false true none ew rates (ap (λ (o : Option Data). is_some o) s.2)
own_may version t (text.Fraction num den ppm) wide none ew rates s = optional_is version t wide false false none ew rates (ap (λ (o : Option Data). is_some o) s.2)

-- a deviation beside a fraction is only in the version of controllers
fits_wide : (b c : Bool) (t : ClockText) → is_clock_text (b && c) t ≡ true → is_clock_text b t ≡ true
fits_wide b c (text.Rate num den) h = h
fits_wide b c (text.Ppm quantum ppm) h = h
fits_wide true c (text.Fraction num den ppm) h = (and_parts c (is_number_of_key num && (is_number_of_key den && is_ppm ppm)) h).1
fits_wide false c (text.Fraction num den ppm) h = absurd (false≢true h)

node_no_clock : (version : ℕ) (n : NodeText) → IsNode version n → NoClock (sorted (all_members (node_entries version n)))
node_no_clock version n h =
    (node_sees version n h (codes "controller"), node_sees version n h (codes "clock"), node_sees version n h (codes "prescaler"), node_sees version n h (codes "bitrate"))

fine_own : (version : ℕ) (n : NodeText) (rates : List RateText) → IsNode version n → n.rates ≡ rates → is_own version n.rates ≡ true → are_rates version rates ≡ true
    → table_fault (node_keys version (sorted (all_members (node_entries version n)))) (sorted (all_members (node_entries version n))) ≡ None
fine_own version n [] h er own good = absurd (false≢true good)
fine_own version n (r ∷ q ∷ rs) h er own good = absurd (one_rate version r q rs good (subst (λ (xs : List RateText). is_own version xs ≡ true) er own))
fine_own version n (r ∷ []) h er own good =
    let t = sorted (all_members (node_entries version n)) in
    let sees = node_sees version n h in
    let wide = has_controllers version in
    let known = has_deviation version (r ∷ []) in
    let here = (and_parts (is_rate known r) true (and_parts _ _ good).0).0 in
    let clock = fits_wide wide (is_one (r ∷ [])) r.clock (and_parts (is_number_of_key r.from) (is_clock_text known r.clock) here).1 in
    let mine : own_clock version n.rates ≡ Some r.clock = rw (own, er) refl in
    let s : SeesClock t (Some r.clock) = subst (λ (c : Option ClockText). SeesClock t c) mine (sees (codes "num"), sees (codes "den"), sees (codes "quantum"), sees (codes "ppm")) in
    let bit : SeesBit t n.segments = (sees (codes "prop"), sees (codes "ps1"), sees (codes "ps2"), sees (codes "tseg1"), sees (codes "tseg2")) in
    let place : SeesPlace t n = (sees (codes "sjw"), sees (codes "x"), sees (codes "out"), sees (codes "in")) in
    let none : value_at key.Rates t ≡ None = sees (codes "rates") ∙ rw own refl in
    let rates = rates_none version t (own_not_two version (is_one n.rates) own) none in
    let tseg = bit_has version t n.segments h.bit bit in
    let after = after_clock_taken version t n n.segments h h.bit bit place in
    let apart = node_no_clock version n h in
    fine_with version n (own_required r.clock (is_tseg n.segments)) (optional_by wide (has_traffic version) (is_by_fraction r.clock))
    (own_is version t r.clock (is_tseg n.segments) apart rates tseg s) (own_may version t r.clock wide apart refl rates s)
    (clock_taken t wide r.clock (required_after_clock (is_tseg n.segments)) clock s after (is_tseg n.segments) refl (name_taken t n.name (sees (codes "name")) h.name) (offset_taken t n.offset (sees (codes "offset")) h.offset))
    (node_allowed version n h wide (has_traffic version) (is_by_fraction r.clock) (λ _. ppm_allowed t wide r.clock clock s.3))
    (there_own version n wide (has_traffic version) r r.clock n.segments own er refl refl clock (node_lacks version n wide h refl))

fine_tables : (version : ℕ) (n : NodeText) (rates : List RateText) → is_known_version version ≡ true → IsNode version n → n.rates ≡ rates → is_own version n.rates ≡ false → are_rates version rates ≡ true
    → table_fault (node_keys version (sorted (all_members (node_entries version n)))) (sorted (all_members (node_entries version n))) ≡ None
fine_tables version n [] known h er apart good = absurd (false≢true good)
fine_tables version n (r ∷ rs) known h er apart good =
    let t = sorted (all_members (node_entries version n)) in
    let sees = node_sees version n h in
    let wide = has_controllers version in
    let bit : SeesBit t n.segments = (sees (codes "prop"), sees (codes "ps1"), sees (codes "ps2"), sees (codes "tseg1"), sees (codes "tseg2")) in
    let place : SeesPlace t n = (sees (codes "sjw"), sees (codes "x"), sees (codes "out"), sees (codes "in")) in
    let is : value_at key.Rates t ≡ option_map kept (tables_value rate_members (r ∷ rs)) = sees (codes "rates") ∙ rw (apart, er) refl in
    let has = rates_some version (is_one n.rates) t known apart (ap (λ (o : Option Data). is_some o) is) in
    let tseg = bit_has version t n.segments h.bit bit in
    let after = after_clock_taken version t n n.segments h h.bit bit place in
    let none = node_no_clock version n h in
    fine_with version n (required_by_rates (is_tseg n.segments)) (optional_by wide (has_traffic version) false)
    (required_is version t true _ (is_tseg n.segments) none has refl tseg) (optional_is version t wide true _ none refl has refl)
    (name_taken t n.name (sees (codes "name")) h.name, (offset_taken t n.offset (sees (codes "offset")) h.offset, (tables_taken rate_members key.Rates (λ d. refl) t r rs is, after)))
    (node_allowed version n h wide (has_traffic version) false (λ is. absurd (false≢true is)))
    (there_tables version n wide (has_traffic version) n.segments apart refl (node_lacks version n wide h refl))

node_fine : (version : ℕ) (n : NodeText) → is_known_version version ≡ true → IsNode version n → table_fault (node_keys version (sorted (all_members (node_entries version n)))) (sorted (all_members (node_entries version n))) ≡ None
node_fine version n known h =
    elim (cases_Bool (is_own version n.rates)) [
      | inl own ↦ fine_own version n n.rates h refl own h.rates
      | inr apart ↦ fine_tables version n n.rates known h refl apart h.rates
    ]

pub node_quiet : (version i : ℕ) (n : NodeText) → is_known_version version ≡ true → IsNode version n → node_fault_at version i (sorted (all_members (node_entries version n))) ≡ None
node_quiet version i n known h =
    let t = sorted (all_members (node_entries version n)) in
    let sees = node_sees version n h in
    let rates = ap (first_in (rate_fault_at i)) (tables_seen rate_members key.Rates t (rates_apart version n.rates) (sees (codes "rates")))
    ∙ quiet rate_members (rate_fault_at i) (is_rate false) (rate_quiet i) (rates_apart version n.rates) (rates_apart_all version n.rates h.rates) in
    let frames = ap (first_in (frame_fault_at version i)) (tables_seen frame_members key.Frame t n.frame (sees (codes "frame")))
    ∙ quiet frame_members (frame_fault_at version i) (is_frame_text version) (frame_quiet version i) n.frame h.frames in
    three version i t (node_fine version n known h) rates frames
  where
    three : (version i : ℕ) (t : Members) → table_fault (node_keys version t) t ≡ None → first_in (rate_fault_at i) (tables_at key.Rates t) ≡ None
        → first_in (frame_fault_at version i) (tables_at key.Frame t) ≡ None → node_fault_at version i t ≡ None
    three version i t a b c = rw (a, b, c) refl
