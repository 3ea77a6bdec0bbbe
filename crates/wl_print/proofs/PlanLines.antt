-- The lines of a plan's rows and tables are what is printed.
use Rattle.std.proofs.Common.{◌≡◌, ◌∙◌, refl, sym, ap, subst, ℕ, Bool, true, false, List, [], ◌∷◌, ◌++◌, codes, flat_map, Option, Some, None, inl, inr, arith, append_assoc, append-nil}
use Rattle.std.proofs.lemmas.Bool.{and_parts, false≢true, cases_Bool}
use Rattle.std.specs.Fmt.{digits}
use Rattle.std.specs.List.{list_all}
use Rattle.toml_writer.specs.Text.{key_text}
use Rattle.toml.specs.Data.{Members, no_members}
use Rattle.toml.specs.Tables.{Expression, array_table}
use Rattle.toml.specs.Text.{expressions, pairs, sections}
use Rattle.wl_setup.specs.declared.plan_text.PlanText.{PlanText}
use Rattle.wl_setup.specs.declared.plan_text.NodeText.{NodeText}
use Rattle.wl_setup.specs.declared.plan_text.RateText.{RateText}
use Rattle.wl_setup.specs.declared.plan_text.FrameText.{FrameText}
use Rattle.wl_setup.specs.declared.plan_text.DisturbanceText.{DisturbanceText}
use Rattle.wl_setup.specs.declared.plan_text.ClockText.{ClockText}
use Rattle.wl_setup.specs.declared.plan_text.ClockText.TheVariants as text
use Rattle.wl_setup.specs.declared.plan_text.QueueText.{QueueText}
use Rattle.wl_setup.specs.declared.plan_text.QueueText.TheVariants as queue
use Rattle.wl_setup.specs.declared.plan_text.SegmentsText.{SegmentsText}
use Rattle.wl_setup.specs.declared.plan_text.SegmentsText.TheVariants as segments
use Rattle.wl_setup.specs.Version.{has_traffic}
use Rattle.wl_print.specs.Printable.{are_rates, is_disturbance, is_frame_text, is_node, is_printable, is_rate}
use Rattle.wl_print.specs.Written.{clock_lines, data_line, disturbance_lines, flag_line, frame_keys, frame_lines, from_line, header_line, interval_lines, is_own, lines_of_segments, measure_line, name_lines, node_keys, node_lines, number_line, own_clock_lines, place_lines, plan_words, queue_line, rate_clock_lines, rate_lines, rate_tables, segment_lines, spot_line, sync_word, top_lines}
use Rattle.wl_print.proofs.Lines.{AreLines, IsLine, header_turn, join_lines}
use Rattle.wl_print.proofs.Tables.{AreRows, Row, pairs_rows, pairs_tables, row_line, sections_rows, sections_tables, table_lines, value_line, with_rows, with_tables}
use Rattle.wl_print.proofs.PlanRows.{IsFrame, bit_rows, bytes_of, clock_rows, disturbance_are_rows, disturbance_members, disturbance_rows, flag_of, frame_are_rows, frame_facts, frame_members, frame_rows, has_deviation, hex_of, measure_of, more_rows, name_of, name_rows, node_are_rows, node_facts, node_members, node_rows, number_of, one_rate, own_clock, place_of, place_rows, plan_facts, plan_members, queue_word, rate_are_rows, rate_members, rate_rows, rates_all, rates_apart, rows_after_bit, rows_after_clock, rows_after_name, top_are_rows, top_rows}

-- ---- the lines of rows are what is printed

abbrev text_of : List Row → List ℕ
text_of rows = flat_map row_line rows

text_append : (xs ys : List Row) → text_of (xs ++ ys) ≡ text_of xs ++ text_of ys
text_append [] ys = refl
text_append (x ∷ xs) ys = rw (text_append xs ys) (sym (append_assoc (row_line x) (text_of xs) (text_of ys)))

clock_text : (c : ClockText) → text_of (clock_rows (Some c)) ≡ clock_lines c
unfolding key_text clock_lines
clock_text (text.Rate num den) = simp (append_assoc, append-nil) refl
clock_text (text.Ppm quantum ppm) = simp (append_assoc, append-nil) refl
clock_text (text.Fraction num den ppm) = simp (append_assoc, append-nil) refl

bit_text : (s : SegmentsText) (sjw : ℕ) → text_of (bit_rows s sjw) ≡ lines_of_segments s sjw
unfolding key_text
bit_text (segments.Each prop ps1 ps2) sjw = simp (append_assoc, append-nil) refl
bit_text (segments.Controller tseg1 tseg2) sjw = simp (append_assoc, append-nil) refl

place_text : (n : NodeText) → text_of (place_rows n) ≡ place_lines n
unfolding key_text place_lines
place_text n = simp (append_assoc, append-nil) refl

name_text : (n : NodeText) → text_of (name_rows n) ≡ name_lines n
unfolding key_text name_lines
name_text n = simp (append_assoc, append-nil) refl

tolerance_text : (o : Option ℕ) → value_line (codes "tolerance") (number_of o) ≡ number_line (codes "tolerance") o
unfolding key_text number_line
tolerance_text None = refl
tolerance_text (Some n) = refl

every_text : (o : Option ℕ) → value_line (codes "every") (number_of o) ≡ number_line (codes "every") o
unfolding key_text number_line
every_text None = refl
every_text (Some n) = refl

count_text : (o : Option ℕ) → value_line (codes "count") (number_of o) ≡ number_line (codes "count") o
unfolding key_text number_line
count_text None = refl
count_text (Some n) = refl

deadline_text : (o : Option ℕ) → value_line (codes "deadline") (number_of o) ≡ number_line (codes "deadline") o
unfolding key_text number_line
deadline_text None = refl
deadline_text (Some n) = refl

jitter_text : (o : Option ℕ) → value_line (codes "jitter") (number_of o) ≡ number_line (codes "jitter") o
unfolding key_text number_line
jitter_text None = refl
jitter_text (Some n) = refl

until_text : (o : Option ℕ) → value_line (codes "until") (number_of o) ≡ number_line (codes "until") o
unfolding key_text number_line
until_text None = refl
until_text (Some n) = refl

queue_text : (q : QueueText) → value_line (codes "queue") (name_of (queue_word q)) ≡ queue_line q
unfolding key_text queue_line
queue_text queue.Fifo = refl
queue_text queue.Priority = refl

tick_text : (o : Option ℕ) → value_line (codes "tick") (measure_of (codes "fs") o) ≡ measure_line (codes "tick") (codes "fs") o
unfolding key_text measure_line
tick_text None = refl
tick_text (Some n) = simp append_assoc refl

unit_text : (o : Option ℕ) → value_line (codes "unit") (measure_of (codes "um") o) ≡ measure_line (codes "unit") (codes "um") o
unfolding key_text measure_line
unit_text None = refl
unit_text (Some n) = simp append_assoc refl

listen_text : (b : Bool) → value_line (codes "listen") (flag_of b) ≡ flag_line (codes "listen") b
unfolding key_text flag_line
listen_text true = refl
listen_text false = refl

extended_text : (b : Bool) → value_line (codes "extended") (flag_of b) ≡ flag_line (codes "extended") b
unfolding key_text flag_line
extended_text true = refl
extended_text false = refl

remote_text : (b : Bool) → value_line (codes "remote") (flag_of b) ≡ flag_line (codes "remote") b
unfolding key_text flag_line
remote_text true = refl
remote_text false = refl

data_text : (bs : List ℕ) → value_line (codes "bytes") (bytes_of bs) ≡ data_line bs
unfolding key_text data_line
data_text [] = refl
data_text (b ∷ bs) = simp append_assoc refl

abbrev more_lines : NodeText → List ℕ
more_lines n =
    number_line (codes "tolerance") n.tolerance ++ (flag_line (codes "listen") n.listens ++ (queue_line n.queue ++ number_line (codes "until") n.until))

more_text : (n : NodeText) → text_of (more_rows n) ≡ more_lines n
more_text n =
    rw (tolerance_text n.tolerance, listen_text n.listens, queue_text n.queue, until_text n.until, append-nil (number_line (codes "until") n.until)) refl

one_clock : (version : ℕ) (r : RateText) (rs : List RateText) → are_rates version (r ∷ rs) ≡ true → is_own version (r ∷ rs) ≡ true
    → clock_lines r.clock ≡ flat_map rate_clock_lines (r ∷ rs)
one_clock version r [] h own = sym (append-nil (clock_lines r.clock))
one_clock version r (s ∷ rs) h own = absurd (one_rate version r s rs h own)

own_text : (version : ℕ) (rates : List RateText) → are_rates version rates ≡ true → text_of (clock_rows (own_clock version rates)) ≡ own_clock_lines version rates
own_text version [] h = absurd (false≢true h)
own_text version (r ∷ rs) h =
    elim (cases_Bool (is_own version (r ∷ rs))) [
      | inl own ↦ rw own (clock_text r.clock ∙ one_clock version r rs h own)
      | inr apart ↦ rw apart refl
    ]

id_front : (n : ℕ) (rest : List ℕ) → value_line (codes "id") (hex_of n) ++ rest ≡ codes "id = 0x" ++ (digits 16 false n ++ (codes "\n" ++ rest))
unfolding key_text
id_front n rest = ap (λ (t : List ℕ). codes "id = 0x" ++ t) (append_assoc (digits 16 false n) (codes "\n") rest)

frame_front : (f : FrameText) (rest : List ℕ)
    → value_line (codes "id") (hex_of f.id) ++ (value_line (codes "dlc") (number_of (Some f.dlc)) ++ (value_line (codes "ready") (number_of (Some f.ready)) ++ rest))
    ≡ frame_keys f ++ rest
unfolding key_text frame_keys
frame_front f rest = id_front f.id _ ∙ second
  where
    second : codes "id = 0x" ++ (digits 16 false f.id ++ (codes "\n" ++ (value_line (codes "dlc") (number_of (Some f.dlc)) ++ (value_line (codes "ready") (number_of (Some f.ready)) ++ rest))))
        ≡ frame_keys f ++ rest
    second = simp append_assoc refl

abbrev frame_end : FrameText → List ℕ
frame_end f =
    number_line (codes "every") f.every ++ (number_line (codes "count") f.count
    ++ (number_line (codes "deadline") f.deadline ++ (number_line (codes "jitter") f.jitter
    ++ (flag_line (codes "extended") f.extended ++ (flag_line (codes "remote") f.remote ++ data_line f.bytes)))))

frame_back : (f : FrameText)
    → value_line (codes "every") (number_of f.every) ++ (value_line (codes "count") (number_of f.count)
    ++ (value_line (codes "deadline") (number_of f.deadline) ++ (value_line (codes "jitter") (number_of f.jitter)
    ++ (value_line (codes "extended") (flag_of f.extended) ++ (value_line (codes "remote") (flag_of f.remote) ++ (value_line (codes "bytes") (bytes_of f.bytes) ++ []))))))
    ≡ frame_end f
frame_back f =
    rw (
      every_text f.every,
      count_text f.count,
      deadline_text f.deadline,
      jitter_text f.jitter,
      extended_text f.extended,
      remote_text f.remote,
      data_text f.bytes,
      append-nil (data_line f.bytes),
    ) refl

frame_text : (f : FrameText) → text_of (frame_rows f) ≡ frame_keys f ++ frame_end f
frame_text f = frame_front f _ ∙ ap (λ (t : List ℕ). frame_keys f ++ t) (frame_back f)

from_text : (n : ℕ) → value_line (codes "from") (number_of (Some n)) ≡ from_line n
unfolding key_text from_line
from_text n = refl

rate_text : (r : RateText) → text_of (rate_rows r) ≡ from_line r.from ++ clock_lines r.clock
rate_text r = ap (λ (t : List ℕ). t ++ text_of (clock_rows (Some r.clock))) (from_text r.from) ∙ ap (λ (t : List ℕ). from_line r.from ++ t) (clock_text r.clock)

spot_text : (node : Option (List ℕ)) (x : ℕ) → value_line (codes "x") (number_of (place_of node x)) ++ value_line (codes "node") (name_of node) ≡ spot_line node x
unfolding key_text spot_line
spot_text None x = append-nil _
spot_text (Some name) x = simp append_assoc refl

disturbance_text : (d : DisturbanceText) → text_of (disturbance_rows d) ≡ spot_line d.node d.x ++ interval_lines d
unfolding key_text interval_lines
disturbance_text d =
    rw (← spot_text d.node d.x) (simp (append_assoc, append-nil) refl)

abbrev top_whole : PlanText → List ℕ
top_whole p = top_lines p ++ (measure_line (codes "tick") (codes "fs") p.tick ++ measure_line (codes "unit") (codes "um") p.unit)

first_top : (p : PlanText) (rest : List ℕ)
    → value_line (codes "version") (number_of (Some p.version)) ++ (value_line (codes "end") (number_of (Some p.end))
    ++ (value_line (codes "per") (number_of (Some p.per)) ++ (value_line (codes "sync") (name_of (Some (sync_word p.sync))) ++ rest)))
    ≡ top_lines p ++ rest
unfolding key_text top_lines
first_top p rest = simp append_assoc refl

top_text : (p : PlanText) → text_of (top_rows p) ≡ top_whole p
top_text p =
    first_top p _
    ∙ ap (λ (t : List ℕ). top_lines p ++ t) (rw (tick_text p.tick, unit_text p.unit, append-nil (measure_line (codes "unit") (codes "um") p.unit)) refl)

-- ---- the lines of tables

header_of_node : IsLine (([], codes "node"), array_table) (header_line (codes "node"))
unfolding key_text header_line
header_of_node = header_turn ([], codes "node") _ refl (omega arith)

header_of_rates : IsLine ((codes "node" ∷ [], codes "rates"), array_table) (header_line (codes "node.rates"))
unfolding key_text header_line
header_of_rates = header_turn (codes "node" ∷ [], codes "rates") _ refl (omega arith)

header_of_frame : IsLine ((codes "node" ∷ [], codes "frame"), array_table) (header_line (codes "node.frame"))
unfolding key_text header_line
header_of_frame = header_turn (codes "node" ∷ [], codes "frame") _ refl (omega arith)

header_of_disturbance : IsLine (([], codes "disturbance"), array_table) (header_line (codes "disturbance"))
unfolding key_text header_line
header_of_disturbance = header_turn ([], codes "disturbance") _ refl (omega arith)

-- a table of rows alone
leaf_lines : (path : List (List ℕ)) (k : List ℕ) (rows : List Row) (header text : List ℕ) → IsLine ((path, k), array_table) header → AreRows rows → text_of rows ≡ text
    → AreLines (((path, k), array_table) ∷ (pairs (with_rows rows no_members) ++ sections (path ++ k ∷ []) (with_rows rows no_members))) (header ++ text)
leaf_lines path k rows header text head h is =
    let own : AreLines (pairs (with_rows rows no_members)) (text_of rows ++ []) = pairs_rows rows no_members [] h refl in
    let none = sections_rows rows no_members (path ++ k ∷ []) h in (
      header,
      text,
      refl,
      head,
      subst (λ (t : List ℕ). AreLines (pairs (with_rows rows no_members) ++ sections (path ++ k ∷ []) (with_rows rows no_members)) t) (append-nil (text_of rows) ∙ is)
          (subst (λ (es : List Expression). AreLines (pairs (with_rows rows no_members) ++ es) (text_of rows ++ [])) (sym none)
          (subst (λ (es : List Expression). AreLines es (text_of rows ++ [])) (sym (append-nil (pairs (with_rows rows no_members)))) own)),
    )

frame_whole : (f : FrameText) → header_line (codes "node.frame") ++ (frame_keys f ++ frame_end f) ≡ frame_lines f
frame_whole f = simp append_assoc refl

rate_whole : (r : RateText) → header_line (codes "node.rates") ++ (from_line r.from ++ clock_lines r.clock) ≡ rate_lines r
rate_whole r = simp append_assoc refl

disturbance_whole : (d : DisturbanceText) → header_line (codes "disturbance") ++ (spot_line d.node d.x ++ interval_lines d) ≡ disturbance_lines d
disturbance_whole d = simp append_assoc refl

node_whole : (version : ℕ) (n : NodeText) → header_line (codes "node") ++ (node_keys version n ++ (rate_tables version n.rates ++ flat_map frame_lines n.frame)) ≡ node_lines version n
node_whole version n = simp append_assoc refl

plan_whole : (p : PlanText) → top_whole p ++ (flat_map (node_lines p.version) p.node ++ flat_map disturbance_lines p.disturbance) ≡ plan_words p
plan_whole p = simp append_assoc refl

frame_table : (version : ℕ) (f : FrameText) → IsFrame version f → AreLines (table_lines frame_members (codes "node" ∷ []) (codes "frame") f) (frame_lines f)
frame_table version f h =
    subst (λ (t : List ℕ). AreLines (table_lines frame_members (codes "node" ∷ []) (codes "frame") f) t) (frame_whole f)
    (leaf_lines (codes "node" ∷ []) (codes "frame") (frame_rows f) (header_line (codes "node.frame")) (frame_keys f ++ frame_end f) header_of_frame (frame_are_rows version f h) (frame_text f))

rate_table : (known : Bool) (r : RateText) → is_rate known r ≡ true → AreLines (table_lines rate_members (codes "node" ∷ []) (codes "rates") r) (rate_lines r)
rate_table known r h =
    subst (λ (t : List ℕ). AreLines (table_lines rate_members (codes "node" ∷ []) (codes "rates") r) t) (rate_whole r)
    (leaf_lines (codes "node" ∷ []) (codes "rates") (rate_rows r) (header_line (codes "node.rates")) (from_line r.from ++ clock_lines r.clock) header_of_rates (rate_are_rows known r h) (rate_text r))

disturbance_table : (known : Bool) (d : DisturbanceText) → is_disturbance known d ≡ true → AreLines (table_lines disturbance_members [] (codes "disturbance") d) (disturbance_lines d)
disturbance_table known d h =
    subst (λ (t : List ℕ). AreLines (table_lines disturbance_members [] (codes "disturbance") d) t) (disturbance_whole d)
    (leaf_lines [] (codes "disturbance") (disturbance_rows d) (header_line (codes "disturbance")) (spot_line d.node d.x ++ interval_lines d) header_of_disturbance (disturbance_are_rows known d h) (disturbance_text d))

-- tables one after another
each_table : {X : Type 0} (es : X → List Expression) (t : X → List ℕ) (test : X → Bool) → ((x : X) → test x ≡ true → AreLines (es x) (t x)) → (xs : List X) → list_all test xs ≡ true
    → AreLines (flat_map es xs) (flat_map t xs)
each_table es t test each [] all = refl
each_table es t test each (x ∷ xs) all =
    let (here, more) = and_parts (test x) (list_all test xs) all in
    join_lines (es x) (flat_map es xs) (t x) (flat_map t xs) (each x here) (each_table es t test each xs more)

rates_lines : (version : ℕ) (rates : List RateText) → are_rates version rates ≡ true
    → AreLines (flat_map (table_lines rate_members (codes "node" ∷ []) (codes "rates")) (rates_apart version rates)) (rate_tables version rates)
rates_lines version rates h =
    elim (cases_Bool (is_own version rates)) [
      | inl own ↦ rw own refl
      | inr apart ↦ rw apart (each_table (table_lines rate_members (codes "node" ∷ []) (codes "rates")) rate_lines (is_rate (has_deviation version rates)) (rate_table (has_deviation version rates)) rates (rates_all version rates h))
    ]

after_bit : (n : NodeText) → text_of (rows_after_bit n) ≡ place_lines n ++ more_lines n
after_bit n =
    text_append (place_rows n) (more_rows n) ∙ ap (λ (t : List ℕ). t ++ text_of (more_rows n)) (place_text n) ∙ ap (λ (t : List ℕ). place_lines n ++ t) (more_text n)

after_clock : (n : NodeText) → text_of (rows_after_clock n)
    ≡ lines_of_segments n.segments n.sjw ++ (place_lines n ++ more_lines n)
after_clock n =
    text_append (bit_rows n.segments n.sjw) (rows_after_bit n)
    ∙ ap (λ (t : List ℕ). t ++ text_of (rows_after_bit n)) (bit_text n.segments n.sjw)
    ∙ ap (λ (t : List ℕ). lines_of_segments n.segments n.sjw ++ t) (after_bit n)

after_name : (version : ℕ) (n : NodeText) → are_rates version n.rates ≡ true → text_of (rows_after_name version n)
    ≡ own_clock_lines version n.rates ++ (lines_of_segments n.segments n.sjw ++ (place_lines n ++ more_lines n))
after_name version n h =
    text_append (clock_rows (own_clock version n.rates)) (rows_after_clock n)
    ∙ ap (λ (t : List ℕ). t ++ text_of (rows_after_clock n)) (own_text version n.rates h)
    ∙ ap (λ (t : List ℕ). own_clock_lines version n.rates ++ t) (after_clock n)

keys_whole : (version : ℕ) (n : NodeText)
    → name_lines n ++ (own_clock_lines version n.rates ++ (lines_of_segments n.segments n.sjw ++ (place_lines n ++ more_lines n)))
    ≡ node_keys version n
unfolding node_keys segment_lines
keys_whole version n = simp append_assoc refl

node_text : (version : ℕ) (n : NodeText) → are_rates version n.rates ≡ true → text_of (node_rows version n) ≡ node_keys version n
node_text version n h =
    text_append (name_rows n) (rows_after_name version n)
    ∙ ap (λ (t : List ℕ). t ++ text_of (rows_after_name version n)) (name_text n)
    ∙ ap (λ (t : List ℕ). name_lines n ++ t) (after_name version n h)
    ∙ keys_whole version n

-- rows, then two arrays of tables
body_lines : {X Y : Type 0} (path : List (List ℕ)) (rows : List Row) (first : X → Members) (k : List ℕ) (xs : List X) (second : Y → Members) (l : List ℕ) (ys : List Y) (t u v : List ℕ)
    → AreRows rows → text_of rows ≡ t → AreLines (flat_map (table_lines first path k) xs) u → AreLines (flat_map (table_lines second path l) ys) v
    → AreLines (pairs (with_rows rows (with_tables first k xs (with_tables second l ys no_members)))
    ++ sections path (with_rows rows (with_tables first k xs (with_tables second l ys no_members)))) (t ++ (u ++ v))
body_lines path rows first k xs second l ys t u v h is one two =
    let inner = with_tables second l ys no_members in
    let rest = with_tables first k xs inner in
    let none : pairs rest ≡ [] = pairs_tables first k xs inner ∙ pairs_tables second l ys no_members in
    let own : AreLines (pairs (with_rows rows rest)) (text_of rows ++ []) = pairs_rows rows rest [] h (subst (λ (es : List Expression). AreLines es []) (sym none) refl) in
    let deep : sections path (with_rows rows rest) ≡ flat_map (table_lines first path k) xs ++ flat_map (table_lines second path l) ys =
    sections_rows rows rest path h ∙ sections_tables first path k xs inner ∙ ap (λ (es : List Expression). flat_map (table_lines first path k) xs ++ es) (sections_tables second path l ys no_members ∙ append-nil _) in
    join_lines (pairs (with_rows rows rest)) (sections path (with_rows rows rest)) t (u ++ v)
    (subst (λ (x : List ℕ). AreLines (pairs (with_rows rows rest)) x) (append-nil (text_of rows) ∙ is) own)
    (subst (λ (es : List Expression). AreLines es (u ++ v)) (sym deep) (join_lines _ _ u v one two))

node_table : (version : ℕ) (n : NodeText) → is_node version n ≡ true → AreLines (table_lines (node_members version) [] (codes "node") n) (node_lines version n)
node_table version n is =
    let h = node_facts version n is in
    let body = body_lines (codes "node" ∷ []) (node_rows version n) rate_members (codes "rates") (rates_apart version n.rates) frame_members (codes "frame") n.frame
    (node_keys version n) (rate_tables version n.rates) (flat_map frame_lines n.frame)
    (node_are_rows version n h) (node_text version n h.rates) (rates_lines version n.rates h.rates)
    (each_table (table_lines frame_members (codes "node" ∷ []) (codes "frame")) frame_lines (is_frame_text version) (λ f ok. frame_table version f (frame_facts version f ok)) n.frame h.frames) in
    (header_line (codes "node"), node_keys version n ++ (rate_tables version n.rates ++ flat_map frame_lines n.frame), sym (node_whole version n), header_of_node, body)

-- a plan is printed as the lines of its document
pub plan_lines : (p : PlanText) → is_printable p ≡ true → AreLines (expressions (plan_members p)) (plan_words p)
plan_lines p is =
    let h = plan_facts p is in
    subst (λ (t : List ℕ). AreLines (expressions (plan_members p)) t) (plan_whole p)
    (body_lines [] (top_rows p) (node_members p.version) (codes "node") p.node disturbance_members (codes "disturbance") p.disturbance
    (top_whole p) (flat_map (node_lines p.version) p.node) (flat_map disturbance_lines p.disturbance)
    (top_are_rows p h) (top_text p)
    (each_table (table_lines (node_members p.version) [] (codes "node")) (node_lines p.version) (is_node p.version) (node_table p.version) p.node h.nodes)
    (each_table (table_lines disturbance_members [] (codes "disturbance")) disturbance_lines (is_disturbance (has_traffic p.version)) (disturbance_table (has_traffic p.version)) p.disturbance h.disturbances))
