-- A printed plan is its own plain form: no text is at the key of a measure, no clock is written by its frequency, and no node names a controller.
use Rattle.std.proofs.Common.{◌≡◌, ◌∙◌, refl, sym, ap, subst, ℕ, ℤ, Bool, true, false, List, [], ◌∷◌, map, codes, Option, Some, None, option_map}
use Rattle.std.proofs.lemmas.Bool.{and_parts}
use Rattle.std.specs.List.{list_all, list_any}
use Rattle.toml.specs.Data.{Data, string, integer, float, boolean, datetime, array, table, Members, get_member}
use Rattle.wl_plain.specs.declared.frame.Beat.{Beat}
use Rattle.wl_plain.specs.declared.measure.Row.{Row}
use Rattle.wl_plain.specs.declared.measure.Row.TheVariants.{Top, Node, Rate, Frame, Disturbance}
use Rattle.wl_plain.specs.declared.measure.Units.{Units}
use Rattle.wl_plain.specs.Asking.{asks_data, asks_node, asks_node_of, asks_row, asks_some, asks_tick, needs_tick}
use Rattle.wl_plain.specs.Clocks.{of_kind, with_quantum}
use Rattle.wl_plain.specs.Noise.{with_noise}
use Rattle.wl_plain.specs.Documents.{controllers_in, plain_document, plain_with, with_controllers, with_nodes}
use Rattle.wl_plain.specs.Measures.{measure_at_key, plain_row, plain_row_of, units_of}
use Rattle.wl_plain.specs.Nodes.{beat_at_node, plain_frame, plain_frame_of, plain_node, plain_node_of, with_clock, with_controller, with_every, with_frames, with_ready}
use Rattle.wl_plain.specs.Tables.{array_at, data_of, remade_at}
use Rattle.wl_setup.specs.declared.plan_text.DisturbanceText.{DisturbanceText}
use Rattle.wl_setup.specs.declared.plan_text.FrameText.{FrameText}
use Rattle.wl_setup.specs.declared.plan_text.NodeText.{NodeText}
use Rattle.wl_setup.specs.declared.plan_text.PlanText.{PlanText}
use Rattle.wl_setup.specs.declared.plan_text.RateText.{RateText}
use Rattle.wl_setup.specs.Version.{has_traffic}
use Rattle.wl_print.specs.Printable.{is_disturbance, is_frame_text, is_node, is_rate}
use Rattle.wl_print.proofs.Entries.{Entry, all_members, entries_of, tables_value, with_rows_is}
use Rattle.wl_print.proofs.NodeBack.{kept_tables, node_entries, node_is, node_sees, rates_apart_all}
use Rattle.wl_print.proofs.Ordered.{each_member, is_ordered, is_plain_value, remade_array, remade_none, row_asks_none, row_same}
use Rattle.wl_print.proofs.PlanRows.{IsFrame, IsNode, IsPlan, bytes_of, den_of, disturbance_members, disturbance_rows, flag_of, frame_facts, frame_members, measure_of, name_of, node_facts, node_members, num_of, number_of, own_clock, place_of, ppm_of, prop_of, ps1_of, ps2_of, quantum_of, queue_word, rate_members, rate_rows, rates_apart, signed_of, tseg1_of, tseg2_of}
use Rattle.wl_print.proofs.Readback.{frame_entries, frame_is, frame_sees}
use Rattle.wl_print.proofs.Sorted.{each_sorted, kept, sorted, sorted_data, sorted_in_order, sorted_items}
use Rattle.wl_print.proofs.Tables.{Row as PrintedRow, tables_in_order}

-- ---- entries

abbrev pub IsPlain : Row → List ℕ → Option Data → Type 0
IsPlain row k None = Unit {0}
IsPlain row k (Some d) = is_plain_value row k d ≡ true

abbrev pub AllPlain : Row → List Entry → Type 0
AllPlain row [] = Unit {0}
AllPlain row ((k, o) ∷ es) = IsPlain row k o × AllPlain row es

each_entry : (row : Row) (es : List Entry) → AllPlain row es → each_member (is_plain_value row) (all_members es) ≡ true
each_entry row [] plain = refl
each_entry row ((k, None) ∷ es) plain = each_entry row es plain.1
each_entry row ((k, Some d) ∷ es) plain = rw plain.0 (each_entry row es plain.1)

keeps_plain : (row : Row) (k : List ℕ) (d : Data) → is_plain_value row k d ≡ true → is_plain_value row k (sorted_data d) ≡ true
keeps_plain row k (string s) h = h
keeps_plain row k (integer z) h = h
keeps_plain row k (float x) h = h
keeps_plain row k (boolean b) h = h
keeps_plain row k (datetime t) h = h
keeps_plain row k (array ds) h = h
keeps_plain row k (table ms) h = h

pub table_plain : (row : Row) (es : List Entry) → AllPlain row es → each_member (is_plain_value row) (sorted (all_members es)) ≡ true
table_plain row es plain = each_sorted (is_plain_value row) (keeps_plain row) (all_members es) (each_entry row es plain)

table_in_order : (es : List Entry) → is_ordered (sorted (all_members es)) ≡ true
table_in_order es = sorted_in_order (all_members es)

abbrev of_value : Option (List ℕ × Data) → Option Data
of_value v = option_map (λ w. w.1) v

number_plain : (row : Row) (k : List ℕ) (o : Option ℕ) → needs_tick row k ≡ false → IsPlain row k (of_value (number_of o))
number_plain row k None h = tt
number_plain row k (Some n) h = rw h refl

signed_plain : (row : Row) (k : List ℕ) (o : Option ℤ) → needs_tick row k ≡ false → IsPlain row k (of_value (signed_of o))
signed_plain row k None h = tt
signed_plain row k (Some z) h = rw h refl

flag_plain : (row : Row) (k : List ℕ) (b : Bool) → needs_tick row k ≡ false → IsPlain row k (of_value (flag_of b))
flag_plain row k true h = rw h refl
flag_plain row k false h = tt

bytes_plain : (row : Row) (k bs : List ℕ) → needs_tick row k ≡ false → IsPlain row k (of_value (bytes_of bs))
bytes_plain row k [] h = tt
bytes_plain row k (b ∷ bs) h = rw h refl

name_plain : (row : Row) (k : List ℕ) (o : Option (List ℕ)) → measure_at_key row k ≡ None → needs_tick row k ≡ false → IsPlain row k (of_value (name_of o))
name_plain row k None none h = tt
name_plain row k (Some s) none h = rw (none, h) refl

pub measure_plain : (row : Row) (k unit : List ℕ) (o : Option ℕ) → measure_at_key row k ≡ None → needs_tick row k ≡ false → IsPlain row k (of_value (measure_of unit o))
measure_plain row k unit None none h = tt
measure_plain row k unit (Some n) none h = rw (none, h) refl

-- ---- arrays of tables

module _ {X : Type 0} (table_of : X → Members) where
  pub tables_plain : (row : Row) (k : List ℕ) (xs : List X) → needs_tick row k ≡ false → IsPlain row k (tables_value table_of xs)
  tables_plain row k [] h = tt
  tables_plain row k (x ∷ xs) h = rw h refl

  abbrev Stays : (Data → Data) → X → Type 0
  Stays make x = make (table (sorted (table_of x))) ≡ table (sorted (table_of x))

  each_stays : (make : Data → Data) (test : X → Bool) → ((x : X) → test x ≡ true → Stays make x) → (xs : List X) → list_all test xs ≡ true
      → map make (data_of (sorted_items (tables_in_order table_of xs))) ≡ data_of (sorted_items (tables_in_order table_of xs))
  each_stays make test each [] all = refl
  each_stays make test each (x ∷ xs) all =
      let (here, more) = and_parts (test x) (list_all test xs) all in
      rw (each x here) (ap (λ (ds : List Data). table (sorted (table_of x)) ∷ ds) (each_stays make test each xs more))

  tables_remade : (make : Data → Data) (test : X → Bool) → ((x : X) → test x ≡ true → Stays make x) → (k : List ℕ) (t : Members) (xs : List X) → is_ordered t ≡ true
      → get_member k t ≡ option_map kept (tables_value table_of xs) → list_all test xs ≡ true → remade_at make k t ≡ t
  tables_remade make test each k t [] h is all = remade_none make k t is
  tables_remade make test each k t (x ∷ xs) h is all =
      remade_array make k t (sorted_items (tables_in_order table_of (x ∷ xs))) h (is ∙ ap Some (kept_tables table_of x xs)) (each_stays make test each (x ∷ xs) all)

  none_asks : (asks : Data → Bool) (test : X → Bool) → ((x : X) → test x ≡ true → asks (table (sorted (table_of x))) ≡ false) → (xs : List X) → list_all test xs ≡ true
      → list_any asks (data_of (sorted_items (tables_in_order table_of xs))) ≡ false
  none_asks asks test each [] all = refl
  none_asks asks test each (x ∷ xs) all =
      let (here, more) = and_parts (test x) (list_all test xs) all in
      rw (each x here) (none_asks asks test each xs more)

  tables_ask_none : (asks : Data → Bool) (test : X → Bool) → ((x : X) → test x ≡ true → asks (table (sorted (table_of x))) ≡ false) → (k : List ℕ) (t : Members) (xs : List X)
      → get_member k t ≡ option_map kept (tables_value table_of xs) → list_all test xs ≡ true → asks_some asks (array_at k t) ≡ false
  tables_ask_none asks test each k t [] is all = rw is refl
  tables_ask_none asks test each k t (x ∷ xs) is all = rw (is ∙ ap Some (kept_tables table_of x xs)) (none_asks asks test each (x ∷ xs) all)

-- ---- frames, rates and disturbances

frame_plain : (version : ℕ) (f : FrameText) (h : IsFrame version f) → AllPlain Frame (frame_entries version f h)
frame_plain version f h = (
  refl,
  (
    refl,
    (
      refl,
      (
        number_plain Frame (codes "every") f.every refl,
        (
          number_plain Frame (codes "count") f.count refl,
          (
            number_plain Frame (codes "deadline") f.deadline refl,
            (
              number_plain Frame (codes "jitter") f.jitter refl,
              (
                flag_plain Frame (codes "extended") f.extended refl,
                (flag_plain Frame (codes "remote") f.remote refl, (bytes_plain Frame (codes "bytes") f.bytes refl, tt)),
              ),
            ),
          ),
        ),
      ),
    ),
  ),
)

abbrev frame_in_order : (version : ℕ) (f : FrameText) → IsFrame version f → Members
frame_in_order version f h = sorted (all_members (frame_entries version f h))

frame_same : (u : Units) (beat : Option Beat) (version : ℕ) (f : FrameText) (h : IsFrame version f) → plain_frame u beat (frame_in_order version f h) ≡ frame_in_order version f h
unfolding plain_frame with_every with_ready
frame_same u beat version f h =
    let t = frame_in_order version f h in
    ap (λ (x : Members). with_ready beat (with_every beat x)) (row_same u Frame t (table_in_order (frame_entries version f h)) (table_plain Frame (frame_entries version f h) (frame_plain version f h)))
    ∙ rw (frame_sees version f h (codes "cycle"), frame_sees version f h (codes "at")) refl

frame_stays : (u : Units) (beat : Option Beat) (version : ℕ) (f : FrameText) → is_frame_text version f ≡ true → Stays frame_members (plain_frame_of u beat) f
frame_stays u beat version f is =
    let h = frame_facts version f is in
    subst (λ (m : Members). plain_frame_of u beat (table (sorted m)) ≡ table (sorted m)) (sym (frame_is version f h)) (ap table (frame_same u beat version f h))

frame_asks_none : (version : ℕ) (f : FrameText) → is_frame_text version f ≡ true → asks_data Frame (table (sorted (frame_members f))) ≡ false
frame_asks_none version f is =
    let h = frame_facts version f is in
    ap (λ (m : Members). asks_row Frame (sorted m)) (frame_is version f h) ∙ row_asks_none Frame (frame_in_order version f h) (table_plain Frame (frame_entries version f h) (frame_plain version f h))

-- rows of numbers and names alone
leaf_stays : (u : Units) (row : Row) (rows : List PrintedRow) (m : Members) → m ≡ all_members (entries_of rows) → AllPlain row (entries_of rows)
    → plain_row_of u row (table (sorted m)) ≡ table (sorted m)
leaf_stays u row rows m is plain =
    subst (λ (m : Members). plain_row_of u row (table (sorted m)) ≡ table (sorted m)) (sym is)
    (ap table (row_same u row (sorted (all_members (entries_of rows))) (table_in_order (entries_of rows)) (table_plain row (entries_of rows) plain)))

leaf_asks_none : (row : Row) (rows : List PrintedRow) (m : Members) → m ≡ all_members (entries_of rows) → AllPlain row (entries_of rows) → asks_data row (table (sorted m)) ≡ false
leaf_asks_none row rows m is plain =
    ap (λ (m : Members). asks_row row (sorted m)) is ∙ row_asks_none row (sorted (all_members (entries_of rows))) (table_plain row (entries_of rows) plain)

rate_plain : (r : RateText) → AllPlain Rate (entries_of (rate_rows r))
rate_plain r = (
  refl,
  (
    number_plain Rate (codes "num") (num_of (Some r.clock)) refl,
    (
      number_plain Rate (codes "den") (den_of (Some r.clock)) refl,
      (number_plain Rate (codes "quantum") (quantum_of (Some r.clock)) refl, (signed_plain Rate (codes "ppm") (ppm_of (Some r.clock)) refl, tt)),
    ),
  ),
)

rate_stays : (u : Units) (r : RateText) → is_rate false r ≡ true → Stays rate_members (plain_row_of u Rate) r
rate_stays u r is = leaf_stays u Rate (rate_rows r) (rate_members r) (with_rows_is (rate_rows r) []) (rate_plain r)

rate_asks_none : (r : RateText) → is_rate false r ≡ true → asks_data Rate (table (sorted (rate_members r))) ≡ false
rate_asks_none r is = leaf_asks_none Rate (rate_rows r) (rate_members r) (with_rows_is (rate_rows r) []) (rate_plain r)

disturbance_plain : (d : DisturbanceText) → AllPlain Disturbance (entries_of (disturbance_rows d))
disturbance_plain d =
    (number_plain Disturbance (codes "x") (place_of d.node d.x) refl, (name_plain Disturbance (codes "node") d.node refl refl, (refl, (refl, tt))))

disturbance_stays : (u : Units) (known : Bool) (d : DisturbanceText) → is_disturbance known d ≡ true → Stays disturbance_members (plain_row_of u Disturbance) d
disturbance_stays u known d is =
    leaf_stays u Disturbance (disturbance_rows d) (disturbance_members d) (with_rows_is (disturbance_rows d) []) (disturbance_plain d)

disturbance_asks_none : (known : Bool) (d : DisturbanceText) → is_disturbance known d ≡ true → asks_data Disturbance (table (sorted (disturbance_members d))) ≡ false
disturbance_asks_none known d is =
    leaf_asks_none Disturbance (disturbance_rows d) (disturbance_members d) (with_rows_is (disturbance_rows d) []) (disturbance_plain d)

-- ---- a node

-- the entries of a node from its jump width on
abbrev node_end : ℕ → NodeText → List Entry
node_end version n =
    (codes "sjw", of_value (number_of (Some n.sjw))) ∷ (codes "x", of_value (number_of (Some n.x))) ∷ (codes "out", of_value (number_of (Some n.out_delay)))
    ∷ (codes "in", of_value (number_of (Some n.in_delay))) ∷ (codes "tolerance", of_value (number_of n.tolerance)) ∷ (codes "listen", of_value (flag_of n.listens))
    ∷ (codes "queue", of_value (name_of (queue_word n.queue))) ∷ (codes "until", of_value (number_of n.until))
    ∷ (codes "rates", tables_value rate_members (rates_apart version n.rates)) ∷ (codes "frame", tables_value frame_members n.frame) ∷ []

node_end_plain : (version : ℕ) (n : NodeText) → AllPlain Node (node_end version n)
node_end_plain version n = (
  refl,
  (
    refl,
    (
      refl,
      (
        refl,
        (
          number_plain Node (codes "tolerance") n.tolerance refl,
          (
            flag_plain Node (codes "listen") n.listens refl,
            (
              name_plain Node (codes "queue") (queue_word n.queue) refl refl,
              (
                number_plain Node (codes "until") n.until refl,
                (tables_plain rate_members Node (codes "rates") (rates_apart version n.rates) refl, (tables_plain frame_members Node (codes "frame") n.frame refl, tt)),
              ),
            ),
          ),
        ),
      ),
    ),
  ),
)

node_plain : (version : ℕ) (n : NodeText) → AllPlain Node (node_entries version n)
node_plain version n =
    let c = own_clock version n.rates in
    let s = n.segments in (
      refl,
      (
        refl,
        (
          number_plain Node (codes "num") (num_of c) refl,
          (
            number_plain Node (codes "den") (den_of c) refl,
            (
              number_plain Node (codes "quantum") (quantum_of c) refl,
              (
                signed_plain Node (codes "ppm") (ppm_of c) refl,
                (
                  number_plain Node (codes "prop") (prop_of s) refl,
                  (
                    number_plain Node (codes "ps1") (ps1_of s) refl,
                    (
                      number_plain Node (codes "ps2") (ps2_of s) refl,
                      (number_plain Node (codes "tseg1") (tseg1_of s) refl, (number_plain Node (codes "tseg2") (tseg2_of s) refl, node_end_plain version n)),
                    ),
                  ),
                ),
              ),
            ),
          ),
        ),
      ),
    )

abbrev node_in_order : ℕ → NodeText → Members
node_in_order version n = sorted (all_members (node_entries version n))

module _ (version : ℕ) (n : NodeText) (h : IsNode version n) where
  abbrev node_t : Members
  node_t = node_in_order version n

  node_t_in_order : is_ordered node_t ≡ true
  node_t_in_order = table_in_order (node_entries version n)

  node_t_plain : each_member (is_plain_value Node) node_t ≡ true
  node_t_plain = table_plain Node (node_entries version n) (node_plain version n)

  controller_same : (u : Units) (controllers : Members) → with_controller u controllers node_t ≡ node_t
  unfolding with_controller
  controller_same u controllers =
      let none : get_member (codes "controller") node_t ≡ None = node_sees version n h (codes "controller") in
      rw none (row_same u Node node_t node_t_in_order node_t_plain)

  kind_same : (u : Units) → of_kind u node_t ≡ node_t
  unfolding of_kind
  kind_same u = rw (node_sees version n h (codes "kind")) refl

  quantum_same : (u : Units) → with_quantum u node_t ≡ node_t
  unfolding with_quantum
  quantum_same u = rw (node_sees version n h (codes "clock")) refl

  clock_same : (u : Units) → with_clock u node_t ≡ node_t
  unfolding with_clock
  clock_same u =
      ap (λ (x : Members). with_quantum u (of_kind u x))
      (tables_remade rate_members (plain_row_of u Rate) (is_rate false) (rate_stays u) (codes "rates") node_t (rates_apart version n.rates) node_t_in_order (node_sees version n h (codes "rates")) (rates_apart_all version n.rates h.rates))
      ∙ ap (with_quantum u) (kind_same u) ∙ quantum_same u

  frames_same : (u : Units) → with_frames u node_t ≡ node_t
  unfolding with_frames
  frames_same u =
      tables_remade frame_members (plain_frame_of u (beat_at_node node_t)) (is_frame_text version) (frame_stays u (beat_at_node node_t) version) (codes "frame") node_t n.frame node_t_in_order (node_sees version n h (codes "frame")) h.frames

  node_same : (u : Units) (controllers : Members) → plain_node u controllers node_t ≡ node_t
  unfolding plain_node
  node_same u controllers =
      ap (λ (x : Members). with_frames u (with_clock u x)) (controller_same u controllers) ∙ ap (with_frames u) (clock_same u) ∙ frames_same u

  node_t_asks_none : asks_node node_t ≡ false
  node_t_asks_none =
      rw (
        row_asks_none Node node_t node_t_plain,
        tables_ask_none rate_members (asks_data Rate) (is_rate false) rate_asks_none (codes "rates") node_t (rates_apart version n.rates) (node_sees version n h (codes "rates")) (rates_apart_all version n.rates h.rates),
        tables_ask_none frame_members (asks_data Frame) (is_frame_text version) (frame_asks_none version) (codes "frame") node_t n.frame (node_sees version n h (codes "frame")) h.frames,
      ) refl

pub node_stays : (u : Units) (controllers : Members) (version : ℕ) (n : NodeText) → is_node version n ≡ true → Stays (node_members version) (plain_node_of u controllers) n
node_stays u controllers version n is =
    subst (λ (m : Members). plain_node_of u controllers (table (sorted m)) ≡ table (sorted m)) (sym (node_is version n)) (ap table (node_same version n (node_facts version n is) u controllers))

pub node_asks_none : (version : ℕ) (n : NodeText) → is_node version n ≡ true → asks_node_of (table (sorted (node_members version n))) ≡ false
node_asks_none version n is = ap (λ (m : Members). asks_node (sorted m)) (node_is version n) ∙ node_t_asks_none version n (node_facts version n is)

-- ---- the top table

module _ (p : PlanText) (h : IsPlan p) (t : Members) (ordered : is_ordered t ≡ true) (plain : each_member (is_plain_value Top) t ≡ true)
    (none : get_member (codes "controller") t ≡ None) (silent : get_member (codes "noise") t ≡ None) (nodes : get_member (codes "node") t ≡ option_map kept (tables_value (node_members p.version) p.node))
    (disturbances : get_member (codes "disturbance") t ≡ option_map kept (tables_value disturbance_members p.disturbance)) where
  controllers_same : (u : Units) → with_controllers u t ≡ t
  unfolding with_controllers
  controllers_same u = rw none refl

  nodes_same : (u : Units) → with_nodes u t ≡ t
  unfolding with_nodes
  nodes_same u =
      tables_remade (node_members p.version) (plain_node_of u (controllers_in t)) (is_node p.version) (node_stays u (controllers_in t) p.version) (codes "node") t p.node ordered nodes h.nodes

  noise_same : (u : Units) → with_noise u t ≡ t
  unfolding with_noise
  noise_same u = rw silent refl

  rows_same : (u : Units) → remade_at (plain_row_of u Disturbance) (codes "disturbance") (with_nodes u (with_controllers u (plain_row u Top t))) ≡ t
  rows_same u =
      ap (λ (x : Members). remade_at (plain_row_of u Disturbance) (codes "disturbance") (with_nodes u (with_controllers u x))) (row_same u Top t ordered plain)
      ∙ ap (λ (x : Members). remade_at (plain_row_of u Disturbance) (codes "disturbance") (with_nodes u x)) (controllers_same u)
      ∙ ap (λ (x : Members). remade_at (plain_row_of u Disturbance) (codes "disturbance") x) (nodes_same u)
      ∙ tables_remade disturbance_members (plain_row_of u Disturbance) (is_disturbance (has_traffic p.version)) (disturbance_stays u (has_traffic p.version)) (codes "disturbance") t p.disturbance ordered disturbances h.disturbances

  top_same : (u : Units) → plain_with u t ≡ t
  unfolding plain_with
  top_same u = ap (with_noise u) (rows_same u) ∙ noise_same u

  pub document_same : plain_document t ≡ t
  document_same = top_same (units_of t)

  pub asks_no_tick : asks_tick t ≡ false
  unfolding asks_tick controllers_in
  asks_no_tick =
      rw (
        row_asks_none Top t plain,
        none,
        tables_ask_none (node_members p.version) asks_node_of (is_node p.version) (node_asks_none p.version) (codes "node") t p.node nodes h.nodes,
        tables_ask_none disturbance_members (asks_data Disturbance) (is_disturbance (has_traffic p.version)) (disturbance_asks_none (has_traffic p.version)) (codes "disturbance") t p.disturbance disturbances h.disturbances,
      ) refl
