-- The rows of a plan's tables, and that their lines are what is printed.
use Rattle.std.proofs.Common.{◌≡◌, refl, ℕ, suc, ◌^◌, ◌<◌, ℤ, pos, negsuc, FitsSigned, w64, Bool, true, false, not, ◌&&◌, ◌||◌, ◌==◌, nat_le, List, [], ◌∷◌, ◌++◌, codes, length, Option, Some, None, is_some, is_none, decimal, if◌then◌else◌, inl, inr, arith, leb-true}
use Rattle.std.proofs.lemmas.Bool.{and_parts, false≢true, cases_Bool}
use Rattle.std.proofs.lemmas.Bool.Decides.{nat_tests}
use Rattle.std.specs.Fmt.{digits, signed_decimal}
use Rattle.std.proofs.lemmas.Fmt.{decimal_is_IsNumeral}
use Rattle.std.specs.List.{list_all}
use Rattle.std.specs.Str.Parse.{AllDigits}
use Rattle.toml.specs.Data.{Data, string, integer, boolean, array, Members, no_members}
use Rattle.wl_segments.specs.declared.SyncRules.{SyncRules}
use Rattle.wl_segments.specs.declared.SyncRules.TheVariants as sync
use Rattle.wl_setup.specs.declared.plan_text.PlanText.{PlanText}
use Rattle.wl_setup.specs.declared.plan_text.NodeText.{NodeText}
use Rattle.wl_setup.specs.declared.plan_text.RateText.{RateText}
use Rattle.wl_setup.specs.declared.plan_text.FrameText.{FrameText}
use Rattle.wl_setup.specs.declared.plan_text.DisturbanceText.{DisturbanceText}
use Rattle.wl_setup.specs.declared.plan_text.ClockText.{ClockText}
use Rattle.wl_setup.specs.declared.plan_text.ClockText.TheVariants as text
use Rattle.wl_setup.specs.declared.plan_text.QueueText.{QueueText}
use Rattle.wl_setup.specs.declared.plan_text.QueueText.TheVariants as queue
use Rattle.wl_setup.specs.declared.plan_text.SegmentsText.{SegmentsText}
use Rattle.wl_setup.specs.declared.plan_text.SegmentsText.TheVariants as segments
use Rattle.wl_setup.specs.Kinds.{is_name, is_name_letter, is_ppm}
use Rattle.wl_setup.specs.Limits.{largest_byte, largest_number, largest_number-is, largest_ppm, largest_ppm-is, largest_small, largest_small-is, largest_tolerance, longest_name}
use Rattle.wl_setup.specs.Names.{has_repeat, names_of}
use Rattle.wl_setup.specs.Version.{has_controllers, has_traffic, is_known_version}
use Rattle.wl_units.specs.declared.scale.TheConstants.{LONGEST_TICK, LONGEST_UNIT}
use Rattle.wl_print.specs.Printable.{are_rates, are_segments, has_nodes, is_by_priority, is_clock_text, is_disturbance, is_frame_text, is_node, is_number_if, is_number_of_key, is_positive, is_printable, is_rate, is_scale_if, is_small_number, is_spot, is_tolerance}
use Rattle.wl_print.specs.Written.{is_one, is_own, sync_word}
use Rattle.wl_print.proofs.Bytes.{AllBytes, byte_items}
use Rattle.wl_print.proofs.Tables.{AreRows, IsRow, Row, bytes_pair, bytes_text, hex_pair, name_pair, number_pair, signed_pair, true_pair, with_rows, with_tables}

-- ---- values

abbrev pub Value : Type 0
Value = Option (List ℕ × Data)

abbrev pub number_of : Option ℕ → Value
number_of None = None
number_of (Some n) = Some (decimal n, integer (pos n))

abbrev pub signed_of : Option ℤ → Value
signed_of None = None
signed_of (Some z) = Some (signed_decimal z, integer z)

abbrev pub hex_of : ℕ → Value
hex_of n = Some (codes "0x" ++ digits 16 false n, integer (pos n))

abbrev pub name_of : Option (List ℕ) → Value
name_of None = None
name_of (Some s) = Some (34 ∷ (s ++ 34 ∷ []), string s)

-- a number with its unit, as a text
abbrev pub measure_of : List ℕ → Option ℕ → Value
measure_of unit None = None
measure_of unit (Some n) = name_of (Some (decimal n ++ unit))

abbrev pub flag_of : Bool → Value
flag_of false = None
flag_of true = Some (codes "true", boolean true)

abbrev pub bytes_of : List ℕ → Value
bytes_of [] = None
bytes_of (b ∷ bs) = Some (bytes_text b bs, array (byte_items (b ∷ bs)))

-- ---- rows

abbrev pub num_of : Option ClockText → Option ℕ
num_of (Some (text.Rate num den)) = Some num
num_of (Some (text.Ppm quantum ppm)) = None
num_of (Some (text.Fraction num den ppm)) = Some num
num_of None = None

abbrev pub den_of : Option ClockText → Option ℕ
den_of (Some (text.Rate num den)) = Some den
den_of (Some (text.Ppm quantum ppm)) = None
den_of (Some (text.Fraction num den ppm)) = Some den
den_of None = None

abbrev pub quantum_of : Option ClockText → Option ℕ
quantum_of (Some (text.Rate num den)) = None
quantum_of (Some (text.Ppm quantum ppm)) = Some quantum
quantum_of (Some (text.Fraction num den ppm)) = None
quantum_of None = None

abbrev pub ppm_of : Option ClockText → Option ℤ
ppm_of (Some (text.Rate num den)) = None
ppm_of (Some (text.Ppm quantum ppm)) = Some ppm
ppm_of (Some (text.Fraction num den ppm)) = Some ppm
ppm_of None = None

abbrev pub clock_rows : Option ClockText → List Row
clock_rows c =
    (codes "num", number_of (num_of c)) ∷ (codes "den", number_of (den_of c)) ∷ (codes "quantum", number_of (quantum_of c))
    ∷ (codes "ppm", signed_of (ppm_of c)) ∷ []

abbrev pub prop_of : SegmentsText → Option ℕ
prop_of (segments.Each prop ps1 ps2) = Some prop
prop_of (segments.Controller tseg1 tseg2) = None

abbrev pub ps1_of : SegmentsText → Option ℕ
ps1_of (segments.Each prop ps1 ps2) = Some ps1
ps1_of (segments.Controller tseg1 tseg2) = None

abbrev pub ps2_of : SegmentsText → Option ℕ
ps2_of (segments.Each prop ps1 ps2) = Some ps2
ps2_of (segments.Controller tseg1 tseg2) = None

abbrev pub tseg1_of : SegmentsText → Option ℕ
tseg1_of (segments.Each prop ps1 ps2) = None
tseg1_of (segments.Controller tseg1 tseg2) = Some tseg1

abbrev pub tseg2_of : SegmentsText → Option ℕ
tseg2_of (segments.Each prop ps1 ps2) = None
tseg2_of (segments.Controller tseg1 tseg2) = Some tseg2

abbrev pub bit_rows : SegmentsText → ℕ → List Row
bit_rows s sjw =
    (codes "prop", number_of (prop_of s)) ∷ (codes "ps1", number_of (ps1_of s)) ∷ (codes "ps2", number_of (ps2_of s))
    ∷ (codes "tseg1", number_of (tseg1_of s)) ∷ (codes "tseg2", number_of (tseg2_of s)) ∷ (codes "sjw", number_of (Some sjw)) ∷ []

abbrev pub place_rows : NodeText → List Row
place_rows n = (codes "x", number_of (Some n.x)) ∷ (codes "out", number_of (Some n.out_delay)) ∷ (codes "in", number_of (Some n.in_delay)) ∷ []

-- the word of a queue that isn't first in, first out
abbrev pub queue_word : QueueText → Option (List ℕ)
queue_word queue.Fifo = None
queue_word queue.Priority = Some (codes "priority")

abbrev pub more_rows : NodeText → List Row
more_rows n =
    (codes "tolerance", number_of n.tolerance) ∷ (codes "listen", flag_of n.listens) ∷ (codes "queue", name_of (queue_word n.queue))
    ∷ (codes "until", number_of n.until) ∷ []

abbrev pub name_rows : NodeText → List Row
name_rows n = (codes "name", name_of (Some n.name)) ∷ (codes "offset", number_of (Some n.offset)) ∷ []

-- the clock of a node whose keys are its own
abbrev pub first_clock : List RateText → Option ClockText
first_clock [] = None
first_clock (r ∷ rs) = Some r.clock

abbrev pub own_clock : ℕ → List RateText → Option ClockText
own_clock version rates = if is_own version rates then first_clock rates else None

abbrev pub rates_apart : ℕ → List RateText → List RateText
rates_apart version rates = if is_own version rates then [] else rates

abbrev pub node_rows : ℕ → NodeText → List Row
node_rows version n =
    name_rows n ++ (clock_rows (own_clock version n.rates) ++ (bit_rows n.segments n.sjw ++ (place_rows n ++ more_rows n)))

abbrev pub rate_rows : RateText → List Row
rate_rows r = (codes "from", number_of (Some r.from)) ∷ clock_rows (Some r.clock)

abbrev pub frame_rows : FrameText → List Row
frame_rows f =
    (codes "id", hex_of f.id) ∷ (codes "dlc", number_of (Some f.dlc)) ∷ (codes "ready", number_of (Some f.ready))
    ∷ (codes "every", number_of f.every) ∷ (codes "count", number_of f.count) ∷ (codes "deadline", number_of f.deadline)
    ∷ (codes "jitter", number_of f.jitter) ∷ (codes "extended", flag_of f.extended) ∷ (codes "remote", flag_of f.remote) ∷ (codes "bytes", bytes_of f.bytes) ∷ []

abbrev pub place_of : Option (List ℕ) → ℕ → Option ℕ
place_of None x = Some x
place_of (Some name) x = None

abbrev pub disturbance_rows : DisturbanceText → List Row
disturbance_rows d =
    (codes "x", number_of (place_of d.node d.x)) ∷ (codes "node", name_of d.node) ∷ (codes "from", number_of (Some d.from))
    ∷ (codes "to", number_of (Some d.to)) ∷ []

abbrev pub top_rows : PlanText → List Row
top_rows p =
    (codes "version", number_of (Some p.version)) ∷ (codes "end", number_of (Some p.end)) ∷ (codes "per", number_of (Some p.per))
    ∷ (codes "sync", name_of (Some (sync_word p.sync))) ∷ (codes "tick", measure_of (codes "fs") p.tick)
    ∷ (codes "unit", measure_of (codes "um") p.unit) ∷ []

-- ---- tables

abbrev pub rate_members : RateText → Members
rate_members r = with_rows (rate_rows r) no_members

abbrev pub frame_members : FrameText → Members
frame_members f = with_rows (frame_rows f) no_members

abbrev pub disturbance_members : DisturbanceText → Members
disturbance_members d = with_rows (disturbance_rows d) no_members

abbrev pub node_members : ℕ → NodeText → Members
node_members version n =
    with_rows (node_rows version n)
    (with_tables rate_members (codes "rates") (rates_apart version n.rates) (with_tables frame_members (codes "frame") n.frame no_members))

abbrev pub plan_members : PlanText → Members
plan_members p =
    with_rows (top_rows p)
    (with_tables (node_members p.version) (codes "node") p.node (with_tables disturbance_members (codes "disturbance") p.disturbance no_members))

abbrev pub rows_after_bit : NodeText → List Row
rows_after_bit n = place_rows n ++ more_rows n

abbrev pub rows_after_clock : NodeText → List Row
rows_after_clock n = bit_rows n.segments n.sjw ++ rows_after_bit n

abbrev pub rows_after_name : ℕ → NodeText → List Row
rows_after_name version n = clock_rows (own_clock version n.rates) ++ rows_after_clock n

-- ---- bounds

number_bound : (n : ℕ) → is_number_of_key n ≡ true → n < 2 ^ 63
number_bound n h = omega (arith, leb-true n largest_number h, largest_number-is)

small_bound : (n : ℕ) → is_small_number n ≡ true → n < 2 ^ 63
small_bound n h = omega (arith, leb-true n largest_small h, largest_small-is)

ppm_bound : (z : ℤ) → is_ppm z ≡ true → FitsSigned w64 z
ppm_bound (pos n) h = omega (arith, leb-true n largest_ppm h, largest_ppm-is)
ppm_bound (negsuc n) h = omega (arith, leb-true (suc n) largest_ppm h, largest_ppm-is)

byte_bounds : (bs : List ℕ) → list_all (λ b. nat_le b largest_byte) bs ≡ true → AllBytes bs
byte_bounds [] h = tt
byte_bounds (b ∷ bs) h =
    let (here, more) = and_parts (nat_le b largest_byte) (list_all (λ b. nat_le b largest_byte) bs) h in
    (omega (arith, leb-true b largest_byte here), byte_bounds bs more)

some_row : (o : Option ℕ) → ((n : ℕ) → o ≡ Some n → n < 2 ^ 63) → IsRow (number_of o)
some_row None h = tt
some_row (Some n) h = number_pair n (h n refl)

flag_row : (b : Bool) → IsRow (flag_of b)
flag_row false = tt
flag_row true = true_pair

bytes_row : (bs : List ℕ) → AllBytes bs → IsRow (bytes_of bs)
bytes_row [] h = tt
bytes_row (b ∷ bs) h = bytes_pair b bs h

number_row : (known : Bool) (o : Option ℕ) → is_number_if known o ≡ true → IsRow (number_of o)
number_row known None h = tt
number_row known (Some n) h = number_pair n (number_bound n (and_parts known (is_number_of_key n) h).1)

-- a number in decimal digits and a unit have the letters of a name
digit_letters : (ds rest : List ℕ) → AllDigits 10 ds → list_all is_name_letter rest ≡ true → list_all is_name_letter (ds ++ rest) ≡ true
digit_letters [] rest all more = more
digit_letters (c ∷ cs) rest all more =
    let here : is_name_letter c ≡ true = grind (arith, nat_tests) in
    rw here (digit_letters cs rest all.1 more)

measure_row : (known : Bool) (longest : ℕ) (unit : List ℕ) (o : Option ℕ) → longest < 2 ^ 63 → list_all is_name_letter unit ≡ true → is_scale_if known longest o ≡ true
    → IsRow (measure_of unit o)
measure_row known longest unit None few letters h = tt
measure_row known longest unit (Some n) few letters h =
    let range = (and_parts known (nat_le 1 n && nat_le n longest) h).1 in
    let most = leb-true n longest (and_parts (nat_le 1 n) (nat_le n longest) range).1 in
    name_pair (decimal n ++ unit) (digit_letters (decimal n) unit (decimal_is_IsNumeral n (omega (arith, most))).0.1 letters)

queue_row : (q : QueueText) → IsRow (name_of (queue_word q))
queue_row queue.Fifo = tt
queue_row queue.Priority = name_pair (codes "priority") refl

clock_are_rows : (known : Bool) (c : ClockText) → is_clock_text known c ≡ true → AreRows (clock_rows (Some c))
clock_are_rows known (text.Fraction num den ppm) h =
    let (k, more) = and_parts known (is_number_of_key num && (is_number_of_key den && is_ppm ppm)) h in
    let (a, rest) = and_parts (is_number_of_key num) (is_number_of_key den && is_ppm ppm) more in
    let (b, d) = and_parts (is_number_of_key den) (is_ppm ppm) rest in
    (number_pair num (number_bound num a), (number_pair den (number_bound den b), (tt, (signed_pair ppm (ppm_bound ppm d), tt))))
clock_are_rows known (text.Rate num den) h =
    let (a, b) = and_parts (is_number_of_key num) (is_number_of_key den) h in
    (number_pair num (number_bound num a), (number_pair den (number_bound den b), (tt, (tt, tt))))
clock_are_rows known (text.Ppm quantum ppm) h =
    let (a, b) = and_parts (is_number_of_key quantum) (is_ppm ppm) h in
    (tt, (tt, (number_pair quantum (number_bound quantum a), (signed_pair ppm (ppm_bound ppm b), tt))))

no_clock_rows : AreRows (clock_rows None)
no_clock_rows = (tt, (tt, (tt, (tt, tt))))

join_rows : (xs ys : List Row) → AreRows xs → AreRows ys → AreRows (xs ++ ys)
join_rows [] ys h more = more
join_rows ((k, v) ∷ xs) ys h more = (h.0, join_rows xs ys h.1 more)

bit_are_rows : (known : Bool) (s : SegmentsText) (sjw : ℕ) → are_segments known s ≡ true → is_number_of_key sjw ≡ true → AreRows (bit_rows s sjw)
bit_are_rows known (segments.Each prop ps1 ps2) sjw h w =
    let (a, more) = and_parts (is_number_of_key prop) (is_number_of_key ps1 && is_number_of_key ps2) h in
    let (b, c) = and_parts (is_number_of_key ps1) (is_number_of_key ps2) more in
    (number_pair prop (number_bound prop a), (number_pair ps1 (number_bound ps1 b), (number_pair ps2 (number_bound ps2 c), (tt, (tt, (number_pair sjw (number_bound sjw w), tt))))))
bit_are_rows known (segments.Controller tseg1 tseg2) sjw h w =
    let (k, more) = and_parts known (is_number_of_key tseg1 && is_number_of_key tseg2) h in
    let (a, b) = and_parts (is_number_of_key tseg1) (is_number_of_key tseg2) more in
    (tt, (tt, (tt, (number_pair tseg1 (number_bound tseg1 a), (number_pair tseg2 (number_bound tseg2 b), (number_pair sjw (number_bound sjw w), tt))))))

positive_row : (known : Bool) (o : Option ℕ) → is_positive known o ≡ true → IsRow (number_of o)
positive_row known None h = tt
positive_row known (Some n) h =
    let (k, more) = and_parts known (nat_le 1 n && is_number_of_key n) h in
    number_pair n (number_bound n (and_parts (nat_le 1 n) (is_number_of_key n) more).1)

tolerance_row : (o : Option ℕ) → is_tolerance o ≡ true → IsRow (number_of o)
tolerance_row None h = tt
tolerance_row (Some n) h = number_pair n (omega (arith, leb-true n largest_tolerance h))

name_letters : (s : List ℕ) → is_name s ≡ true → list_all is_name_letter s ≡ true
name_letters s h =
    (and_parts (nat_le 1 (length s) && nat_le (length s) longest_name) (list_all is_name_letter s) h).1

-- ---- what a printable table keeps to

pub record IsFrame (version : ℕ) (f : FrameText) : Type 0 where
  pub id : is_small_number f.id ≡ true
  pub dlc : is_small_number f.dlc ≡ true
  pub bytes : list_all (λ b. nat_le b largest_byte) f.bytes ≡ true
  pub ready : is_number_of_key f.ready ≡ true
  pub every : is_positive (has_traffic version) f.every ≡ true
  pub count : is_positive (has_traffic version) f.count ≡ true
  pub counted : (is_none f.count || is_some f.every) ≡ true
  pub deadline : is_number_if (has_controllers version) f.deadline ≡ true
  pub jitter : is_number_if (has_controllers version) f.jitter ≡ true

pub frame_facts : (version : ℕ) (f : FrameText) → is_frame_text version f ≡ true → IsFrame version f
frame_facts version f h =
    let (id, h1) = and_parts _ _ h in
    let (dlc, h2) = and_parts _ _ h1 in
    let (bytes, h3) = and_parts _ _ h2 in
    let (ready, h4) = and_parts _ _ h3 in
    let (every, h5) = and_parts _ _ h4 in
    let (count, h6) = and_parts _ _ h5 in
    let (counted, h7) = and_parts _ _ h6 in
    let (deadline, jitter) = and_parts _ _ h7 in
    record {
      id = id;
      dlc = dlc;
      bytes = bytes;
      ready = ready;
      every = every;
      count = count;
      counted = counted;
      deadline = deadline;
      jitter = jitter;
    }

pub record IsNode (version : ℕ) (n : NodeText) : Type 0 where
  pub name : is_name n.name ≡ true
  pub offset : is_number_of_key n.offset ≡ true
  pub rates : are_rates version n.rates ≡ true
  pub bit : are_segments (has_controllers version) n.segments ≡ true
  pub sjw : is_number_of_key n.sjw ≡ true
  pub x : is_small_number n.x ≡ true
  pub out : is_number_of_key n.out_delay ≡ true
  pub into : is_number_of_key n.in_delay ≡ true
  pub tolerance : is_tolerance n.tolerance ≡ true
  pub listens : (not n.listens || has_traffic version) ≡ true
  pub queue : (not (is_by_priority n.queue) || has_controllers version) ≡ true
  pub until : is_number_if (has_controllers version) n.until ≡ true
  pub frames : list_all (is_frame_text version) n.frame ≡ true

pub node_facts : (version : ℕ) (n : NodeText) → is_node version n ≡ true → IsNode version n
node_facts version n h =
    let (name, h1) = and_parts _ _ h in
    let (offset, h2) = and_parts _ _ h1 in
    let (rates, h3) = and_parts _ _ h2 in
    let (bit, h4) = and_parts _ _ h3 in
    let (sjw, h5) = and_parts _ _ h4 in
    let (x, h6) = and_parts _ _ h5 in
    let (out, h7) = and_parts _ _ h6 in
    let (into, h8) = and_parts _ _ h7 in
    let (tolerance, h9) = and_parts _ _ h8 in
    let (listens, h10) = and_parts _ _ h9 in
    let (order, h11) = and_parts _ _ h10 in
    let (until, frames) = and_parts _ _ h11 in
    record {
      name = name;
      offset = offset;
      rates = rates;
      bit = bit;
      sjw = sjw;
      x = x;
      out = out;
      into = into;
      tolerance = tolerance;
      listens = listens;
      queue = order;
      until = until;
      frames = frames;
    }

pub frame_are_rows : (version : ℕ) (f : FrameText) → IsFrame version f → AreRows (frame_rows f)
frame_are_rows version f h = (
  hex_pair f.id (small_bound f.id h.id),
  (
    number_pair f.dlc (small_bound f.dlc h.dlc),
    (
      number_pair f.ready (number_bound f.ready h.ready),
      (
        positive_row (has_traffic version) f.every h.every,
        (
          positive_row (has_traffic version) f.count h.count,
          (
            number_row (has_controllers version) f.deadline h.deadline,
            (
              number_row (has_controllers version) f.jitter h.jitter,
              (flag_row f.extended, (flag_row f.remote, (bytes_row f.bytes (byte_bounds f.bytes h.bytes), tt))),
            ),
          ),
        ),
      ),
    ),
  ),
)

pub rate_are_rows : (known : Bool) (r : RateText) → is_rate known r ≡ true → AreRows (rate_rows r)
rate_are_rows known r h =
    let (from, clock) = and_parts (is_number_of_key r.from) (is_clock_text known r.clock) h in
    (number_pair r.from (number_bound r.from from), clock_are_rows known r.clock clock)

-- whether a rate may have a deviation beside a fraction
abbrev pub has_deviation : ℕ → List RateText → Bool
has_deviation version rates = has_controllers version && is_one rates

spot_are_rows : (known : Bool) (d : DisturbanceText) (node : Option (List ℕ)) (x : ℕ) → is_spot known node x ≡ true → IsRow (number_of (place_of node x)) × IsRow (name_of node)
spot_are_rows known d None x h = (number_pair x (small_bound x h), tt)
spot_are_rows known d (Some name) x h =
    let (k, more) = and_parts known (is_name name && (x == 0)) h in
    (tt, name_pair name (name_letters name (and_parts _ _ more).0))

pub disturbance_are_rows : (known : Bool) (d : DisturbanceText) → is_disturbance known d ≡ true → AreRows (disturbance_rows d)
disturbance_are_rows known d h =
    let (spot, more) = and_parts _ _ h in
    let (from, to) = and_parts _ _ more in
    let rows = spot_are_rows known d d.node d.x spot in
    (rows.0, (rows.1, (number_pair d.from (number_bound d.from from), (number_pair d.to (number_bound d.to to), tt))))

rates_first : (version : ℕ) (r : RateText) (rs : List RateText) → are_rates version (r ∷ rs) ≡ true → list_all (is_rate (has_deviation version (r ∷ rs))) (r ∷ rs) ≡ true
rates_first version r rs h = (and_parts _ _ h).0

-- rates that are keys of the node are one
pub one_rate : (version : ℕ) (r s : RateText) (rs : List RateText) → are_rates version (r ∷ s ∷ rs) ≡ true → is_own version (r ∷ s ∷ rs) ≡ true → ⊥
one_rate version r s rs h own = grind (arith, nat_tests)

pub rates_all : (version : ℕ) (rates : List RateText) → are_rates version rates ≡ true → list_all (is_rate (has_deviation version rates)) rates ≡ true
rates_all version [] h = refl
rates_all version (r ∷ rs) h = rates_first version r rs h

own_are_rows : (version : ℕ) (rates : List RateText) → are_rates version rates ≡ true → AreRows (clock_rows (own_clock version rates))
own_are_rows version [] h = absurd (false≢true h)
own_are_rows version (r ∷ rs) h =
    let first = (and_parts _ _ (rates_first version r rs h)).0 in
    elim (cases_Bool (is_own version (r ∷ rs))) [
      | inl own ↦ rw own (clock_are_rows (has_deviation version (r ∷ rs)) r.clock (and_parts (is_number_of_key r.from) (is_clock_text (has_deviation version (r ∷ rs)) r.clock) first).1)
      | inr apart ↦ rw apart no_clock_rows
    ]

pub node_are_rows : (version : ℕ) (n : NodeText) → IsNode version n → AreRows (node_rows version n)
node_are_rows version n h =
    join_rows (name_rows n) (rows_after_name version n) (name_pair n.name (name_letters n.name h.name), (number_pair n.offset (number_bound n.offset h.offset), tt))
    (join_rows (clock_rows (own_clock version n.rates)) (rows_after_clock n) (own_are_rows version n.rates h.rates)
    (join_rows (bit_rows n.segments n.sjw) (rows_after_bit n) (bit_are_rows (has_controllers version) n.segments n.sjw h.bit h.sjw)
    (join_rows (place_rows n) (more_rows n)
    (number_pair n.x (small_bound n.x h.x), (number_pair n.out_delay (number_bound n.out_delay h.out), (number_pair n.in_delay (number_bound n.in_delay h.into), tt)))
    (tolerance_row n.tolerance h.tolerance, (flag_row n.listens, (queue_row n.queue, (number_row (has_controllers version) n.until h.until, tt)))))))

word_letters : (s : SyncRules) → list_all is_name_letter (sync_word s) ≡ true
word_letters sync.After = refl
word_letters sync.Book = refl

pub record IsPlan (p : PlanText) : Type 0 where
  pub version : is_known_version p.version ≡ true
  pub end : is_number_of_key p.end ≡ true
  pub per : is_number_of_key p.per ≡ true
  pub some : has_nodes p.node ≡ true
  pub nodes : list_all (is_node p.version) p.node ≡ true
  pub disturbances : list_all (is_disturbance (has_traffic p.version)) p.disturbance ≡ true
  pub names : not (has_repeat (names_of p)) ≡ true
  pub tick : is_scale_if (has_controllers p.version) LONGEST_TICK p.tick ≡ true
  pub unit : is_scale_if (has_controllers p.version) LONGEST_UNIT p.unit ≡ true

pub plan_facts : (p : PlanText) → is_printable p ≡ true → IsPlan p
plan_facts p h =
    let (version, h1) = and_parts _ _ h in
    let (end, h2) = and_parts _ _ h1 in
    let (per, h3) = and_parts _ _ h2 in
    let (some, h4) = and_parts _ _ h3 in
    let (nodes, h5) = and_parts _ _ h4 in
    let (disturbances, h6) = and_parts _ _ h5 in
    let (names, h7) = and_parts _ _ h6 in
    let (tick, unit) = and_parts _ _ h7 in
    record {
      version = version;
      end = end;
      per = per;
      some = some;
      nodes = nodes;
      disturbances = disturbances;
      names = names;
      tick = tick;
      unit = unit;
    }

version_bound : (v : ℕ) → is_known_version v ≡ true → v < 2 ^ 63
version_bound v h = grind (arith, nat_tests)

pub top_are_rows : (p : PlanText) → IsPlan p → AreRows (top_rows p)
top_are_rows p h = (
  number_pair p.version (version_bound p.version h.version),
  (
    number_pair p.end (number_bound p.end h.end),
    (
      number_pair p.per (number_bound p.per h.per),
      (
        name_pair (sync_word p.sync) (word_letters p.sync),
        (
          measure_row (has_controllers p.version) LONGEST_TICK (codes "fs") p.tick (omega arith) refl h.tick,
          (measure_row (has_controllers p.version) LONGEST_UNIT (codes "um") p.unit (omega arith) refl h.unit, tt),
        ),
      ),
    ),
  ),
)
