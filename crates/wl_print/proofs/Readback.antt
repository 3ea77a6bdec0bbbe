-- Tables that were printed are read as they were.
use Rattle.std.proofs.Common.{◌≡◌, ◌∙◌, refl, sym, ap, ℕ, ℤ, pos, Bool, true, false, ◌&&◌, ◌||◌, ◌==◌, nat_le, List, [], ◌∷◌, codes, filter_map, Option, Some, None, option_map, is_some, is_none, if◌then◌else◌, arith, inl, inr}
use Rattle.std.proofs.Math.Bool.{and-false}
use Rattle.std.proofs.lemmas.Bool.{and_parts, cases_Bool, false≢true}
use Rattle.std.proofs.lemmas.Bool.Decides.{nat_tests}
use Rattle.std.specs.List.{list_all}
use Rattle.toml.specs.Data.{Data, string, integer, boolean, array, Members, get_member}
use Rattle.wl_setup.specs.declared.keys.Key.{Key}
use Rattle.wl_setup.specs.declared.keys.Key.TheVariants as key
use Rattle.wl_setup.specs.declared.keys.Kind.TheVariants as kind
use Rattle.wl_setup.specs.declared.plan_text.FrameText.{FrameText}
use Rattle.wl_setup.specs.declared.plan_text.RateText.{RateText}
use Rattle.wl_setup.specs.declared.plan_text.DisturbanceText.{DisturbanceText}
use Rattle.wl_setup.specs.declared.plan_text.ClockText.{ClockText}
use Rattle.wl_setup.specs.declared.plan_text.ClockText.TheVariants as text
use Rattle.wl_setup.specs.Faults.{is_of_table, is_value_of, frame_keys, rate_fault, table_fault}
use Rattle.wl_setup.specs.Keys.{TableKeys, disturbance_required, frame_optional, frame_required, key_text, rate_keys_by_fraction, rate_keys_by_ppm, wide_frame_optional}
use Rattle.wl_setup.specs.Kinds.{byte_in, bytes_at, has_kind, is_name, is_ppm, list_of, number_at, number_in, positive_at, ppm_at, small_at, some_name_at, some_number_at, truth_at, value_at}
use Rattle.wl_setup.specs.Limits.{largest_byte, largest_number, largest_small}
use Rattle.wl_setup.specs.Texts.{clock_of, disturbance_of, frame_of, rate_of}
use Rattle.wl_setup.specs.Version.{has_controllers, has_traffic}
use Rattle.wl_print.specs.Printable.{is_clock_text, is_disturbance, is_number_if, is_number_of_key, is_positive, is_rate, is_small_number}
use Rattle.wl_print.proofs.Bytes.{byte_items}
use Rattle.wl_print.proofs.Entries.{AllAllowed, AllTaken, Allowed, Entry, Taken, all_members, all_there, entries_of, found, no_fault, rows_proper, seen, with_rows_is}
use Rattle.wl_print.proofs.PlanRows.{IsFrame, bytes_of, disturbance_are_rows, disturbance_rows, flag_of, frame_are_rows, frame_members, frame_rows, number_of, rate_are_rows, rate_rows}
use Rattle.wl_print.proofs.Sorted.{kept, sorted}

-- ---- values that are seen

abbrev pub datum : Option (List ℕ × Data) → Option Data
datum v = option_map kept (option_map (λ v. v.1) v)

pub number_seen : (k : Key) (t : Members) (n : ℕ) → value_at k t ≡ Some (integer (pos n)) → is_number_of_key n ≡ true → number_at k t ≡ n
number_seen k t n is h = rw (is, h) refl

pub small_seen : (k : Key) (t : Members) (n : ℕ) → value_at k t ≡ Some (integer (pos n)) → is_small_number n ≡ true → small_at k t ≡ n
small_seen k t n is h = rw (is, h) refl

positive_read : (k : Key) (t : Members) (n : ℕ) → value_at k t ≡ Some (integer (pos n)) → (nat_le 1 n && is_number_of_key n) ≡ true → positive_at k t ≡ Some n
positive_read k t n is h =
    let (some, few) = and_parts (nat_le 1 n) (is_number_of_key n) h in
    rw (is, few, some) refl

pub positive_seen : (known : Bool) (k : Key) (t : Members) (o : Option ℕ) → value_at k t ≡ datum (number_of o) → is_positive known o ≡ true → positive_at k t ≡ o
positive_seen known k t None is h = rw is refl
positive_seen known k t (Some n) is h = positive_read k t n is (and_parts known (nat_le 1 n && is_number_of_key n) h).1

number_read : (k : Key) (t : Members) (n : ℕ) → value_at k t ≡ Some (integer (pos n)) → is_number_of_key n ≡ true → some_number_at k t ≡ Some n
number_read k t n is h = rw (is, h) refl

-- a number that may be absent
pub some_number_seen : (known : Bool) (k : Key) (t : Members) (o : Option ℕ) → value_at k t ≡ datum (number_of o) → is_number_if known o ≡ true → some_number_at k t ≡ o
some_number_seen known k t None is h = rw is refl
some_number_seen known k t (Some n) is h = number_read k t n is (and_parts known (is_number_of_key n) h).1

pub flag_seen : (k : Key) (t : Members) (b : Bool) → value_at k t ≡ datum (flag_of b) → truth_at k t ≡ b
flag_seen k t true is = rw is refl
flag_seen k t false is = rw is refl

bytes_back : (bs : List ℕ) → list_all (λ b. nat_le b largest_byte) bs ≡ true → filter_map byte_in (list_of (byte_items bs)) ≡ bs
bytes_back [] h = refl
bytes_back (b ∷ bs) h =
    let (here, more) = and_parts (nat_le b largest_byte) (list_all (λ b. nat_le b largest_byte) bs) h in
    rw here (ap (λ (t : List ℕ). b ∷ t) (bytes_back bs more))

pub bytes_seen : (k : Key) (t : Members) (bs : List ℕ) → value_at k t ≡ datum (bytes_of bs) → list_all (λ b. nat_le b largest_byte) bs ≡ true → bytes_at k t ≡ bs
bytes_seen k t [] is h = rw is refl
bytes_seen k t (b ∷ bs) is h = rw is (bytes_back (b ∷ bs) h)

are_byte_values : (bs : List ℕ) → list_all (λ b. nat_le b largest_byte) bs ≡ true → list_all (λ e. is_some (byte_in e)) (list_of (byte_items bs)) ≡ true
are_byte_values [] h = refl
are_byte_values (b ∷ bs) h =
    let (here, more) = and_parts (nat_le b largest_byte) (list_all (λ b. nat_le b largest_byte) bs) h in
    rw here (are_byte_values bs more)

-- a number is of its kind
pub number_kind : (most n : ℕ) → nat_le n most ≡ true → is_some (number_in most (integer (pos n))) ≡ true
number_kind most n h = rw h refl

positive_kind : (n : ℕ) → (nat_le 1 n && is_number_of_key n) ≡ true → has_kind kind.Positive (integer (pos n)) ≡ true
positive_kind n h =
    let (some, few) = and_parts (nat_le 1 n) (is_number_of_key n) h in
    rw (few, some) refl

positive_some : (known : Bool) (n : ℕ) → is_positive known (Some n) ≡ true → (nat_le 1 n && is_number_of_key n) ≡ true
positive_some known n h = (and_parts known (nat_le 1 n && is_number_of_key n) h).1

pub positive_none : (known : Bool) (o : Option ℕ) → is_positive known o ≡ true → known ≡ false → o ≡ None
positive_none known None h old = refl
positive_none false (Some n) h old = absurd (false≢true h)
positive_none true (Some n) h old = absurd (false≢true (sym old))

pub number_none : (known : Bool) (o : Option ℕ) → is_number_if known o ≡ true → known ≡ false → o ≡ None
number_none known None h old = refl
number_none false (Some n) h old = absurd (false≢true h)
number_none true (Some n) h old = absurd (false≢true (sym old))

pub number_allowed : (known : Bool) (k : Key) → ((d : Data) → is_value_of k d ≡ has_kind kind.Number d) → (t : Members) (o : Option ℕ) → value_at k t ≡ datum (number_of o)
    → is_number_if known o ≡ true → Allowed t k
number_allowed known k kinded t None is h = inl is
number_allowed known k kinded t (Some n) is h =
    inr (integer (pos n), is, kinded (integer (pos n)) ∙ number_kind largest_number n (and_parts known (is_number_of_key n) h).1)

pub positive_taken : (known : Bool) (k : Key) → ((d : Data) → is_value_of k d ≡ has_kind kind.Positive d) → (t : Members) (o : Option ℕ) → value_at k t ≡ datum (number_of o)
    → is_positive known o ≡ true → is_some o ≡ true → Taken t k
positive_taken known k kinded t None is h some = absurd (false≢true some)
positive_taken known k kinded t (Some n) is h some = (integer (pos n), is, kinded (integer (pos n)) ∙ positive_kind n (positive_some known n h))

pub positive_allowed : (known : Bool) (k : Key) → ((d : Data) → is_value_of k d ≡ has_kind kind.Positive d) → (t : Members) (o : Option ℕ) → value_at k t ≡ datum (number_of o)
    → is_positive known o ≡ true → Allowed t k
positive_allowed known k kinded t None is h = inl is
positive_allowed known k kinded t (Some n) is h = inr (integer (pos n), is, kinded (integer (pos n)) ∙ positive_kind n (positive_some known n h))

pub flag_allowed : (k : Key) → is_value_of k (boolean true) ≡ true → (t : Members) (b : Bool) → value_at k t ≡ datum (flag_of b) → Allowed t k
flag_allowed k fits t false is = inl is
flag_allowed k fits t true is = inr (boolean true, is, fits)

pub bytes_allowed : (k : Key) → ((d : Data) → is_value_of k d ≡ has_kind kind.Bytes d) → (t : Members) (bs : List ℕ) → value_at k t ≡ datum (bytes_of bs)
    → list_all (λ b. nat_le b largest_byte) bs ≡ true → Allowed t k
bytes_allowed k kinded t [] is h = inl is
bytes_allowed k kinded t (b ∷ bs) is h = inr (array (byte_items (b ∷ bs)), is, kinded (array (byte_items (b ∷ bs))) ∙ are_byte_values (b ∷ bs) h)

some_datum : (o : Option ℕ) → is_some (datum (number_of o)) ≡ is_some o
some_datum None = refl
some_datum (Some n) = refl

counted_here : (count every : Option ℕ) → (is_none count || is_some every) ≡ true → is_some count ≡ true → is_some every ≡ true
counted_here None every h some = absurd (false≢true some)
counted_here (Some n) every h some = h

-- ---- a frame

module _ (version : ℕ) (f : FrameText) (h : IsFrame version f) where
  abbrev pub frame_entries : List Entry
  frame_entries = entries_of (frame_rows f)

  pub frame_is : frame_members f ≡ all_members frame_entries
  frame_is = with_rows_is (frame_rows f) []

  abbrev pub frame_table : Members
  frame_table = sorted (all_members frame_entries)

  pub frame_sees : (l : List ℕ) → get_member l frame_table ≡ option_map kept (found l frame_entries)
  frame_sees l = seen l frame_entries refl (rows_proper (frame_rows f) [] (frame_are_rows version f h) tt)

  pub frame_read : frame_of frame_table ≡ f
  frame_read =
      rw (
        small_seen key.Id frame_table f.id (frame_sees (codes "id")) h.id,
        small_seen key.Dlc frame_table f.dlc (frame_sees (codes "dlc")) h.dlc,
        flag_seen key.Remote frame_table f.remote (frame_sees (codes "remote")),
        bytes_seen key.Bytes frame_table f.bytes (frame_sees (codes "bytes")) h.bytes,
        number_seen key.Ready frame_table f.ready (frame_sees (codes "ready")) h.ready,
        flag_seen key.Extended frame_table f.extended (frame_sees (codes "extended")),
        positive_seen (has_traffic version) key.Every frame_table f.every (frame_sees (codes "every")) h.every,
        positive_seen (has_traffic version) key.Count frame_table f.count (frame_sees (codes "count")) h.count,
        some_number_seen (has_controllers version) key.Deadline frame_table f.deadline (frame_sees (codes "deadline")) h.deadline,
        some_number_seen (has_controllers version) key.Jitter frame_table f.jitter (frame_sees (codes "jitter")) h.jitter,
      ) refl

  frame_counted : is_some f.count ≡ true → is_some f.every ≡ true
  frame_counted some = counted_here f.count f.every h.counted some

  frame_taken : (c : Bool) → (c ≡ true → is_some f.every ≡ true) → AllTaken frame_table (frame_required c)
  frame_taken false again = (
    (integer (pos f.id), frame_sees (codes "id"), number_kind largest_small f.id h.id),
    ((integer (pos f.dlc), frame_sees (codes "dlc"), number_kind largest_small f.dlc h.dlc), tt),
  )
  frame_taken true again = (
    (integer (pos f.id), frame_sees (codes "id"), number_kind largest_small f.id h.id),
    (
      (integer (pos f.dlc), frame_sees (codes "dlc"), number_kind largest_small f.dlc h.dlc),
      (positive_taken (has_traffic version) key.Every (λ d. refl) frame_table f.every (frame_sees (codes "every")) h.every (again refl), tt),
    ),
  )

  frame_allowed : (b : Bool) → AllAllowed frame_table (frame_optional b)
  frame_allowed false = (
    flag_allowed key.Remote refl frame_table f.remote (frame_sees (codes "remote")),
    (
      bytes_allowed key.Bytes (λ d. refl) frame_table f.bytes (frame_sees (codes "bytes")) h.bytes,
      (
        inr (integer (pos f.ready), frame_sees (codes "ready"), number_kind largest_number f.ready h.ready),
        (flag_allowed key.Extended refl frame_table f.extended (frame_sees (codes "extended")), tt),
      ),
    ),
  )
  frame_allowed true = (
    flag_allowed key.Remote refl frame_table f.remote (frame_sees (codes "remote")),
    (
      bytes_allowed key.Bytes (λ d. refl) frame_table f.bytes (frame_sees (codes "bytes")) h.bytes,
      (
        inr (integer (pos f.ready), frame_sees (codes "ready"), number_kind largest_number f.ready h.ready),
        (
          flag_allowed key.Extended refl frame_table f.extended (frame_sees (codes "extended")),
          (
            positive_allowed (has_traffic version) key.Every (λ d. refl) frame_table f.every (frame_sees (codes "every")) h.every,
            (positive_allowed (has_traffic version) key.Count (λ d. refl) frame_table f.count (frame_sees (codes "count")) h.count, tt),
          ),
        ),
      ),
    ),
  )

  frame_allowed_end : AllAllowed frame_table (key.Cycle ∷ key.At ∷ key.Deadline ∷ key.Jitter ∷ [])
  frame_allowed_end = (
    inl (frame_sees (codes "cycle")),
    (
      inl (frame_sees (codes "at")),
      (
        number_allowed (has_controllers version) key.Deadline (λ d. refl) frame_table f.deadline (frame_sees (codes "deadline")) h.deadline,
        (number_allowed (has_controllers version) key.Jitter (λ d. refl) frame_table f.jitter (frame_sees (codes "jitter")) h.jitter, tt),
      ),
    ),
  )

  -- in the version of controllers
  frame_allowed_wide : AllAllowed frame_table wide_frame_optional
  frame_allowed_wide = (
    flag_allowed key.Remote refl frame_table f.remote (frame_sees (codes "remote")),
    (
      bytes_allowed key.Bytes (λ d. refl) frame_table f.bytes (frame_sees (codes "bytes")) h.bytes,
      (
        inr (integer (pos f.ready), frame_sees (codes "ready"), number_kind largest_number f.ready h.ready),
        (
          flag_allowed key.Extended refl frame_table f.extended (frame_sees (codes "extended")),
          (
            positive_allowed (has_traffic version) key.Every (λ d. refl) frame_table f.every (frame_sees (codes "every")) h.every,
            (positive_allowed (has_traffic version) key.Count (λ d. refl) frame_table f.count (frame_sees (codes "count")) h.count, frame_allowed_end),
          ),
        ),
      ),
    ),
  )

  frame_there : (b c : Bool) → (b ≡ false → f.every ≡ None) → (b ≡ false → f.count ≡ None) → f.deadline ≡ None → f.jitter ≡ None
      → all_there (is_of_table key_text (frame_required c) (frame_optional b)) frame_entries ≡ true
  frame_there true true every count deadline jitter = rw (deadline, jitter) refl
  frame_there true false every count deadline jitter = rw (deadline, jitter) refl
  frame_there false true every count deadline jitter = rw (count refl, deadline, jitter) refl
  frame_there false false every count deadline jitter = rw (every refl, count refl, deadline, jitter) refl

  frame_there_wide : (c : Bool) → all_there (is_of_table key_text (frame_required c) wide_frame_optional) frame_entries ≡ true
  frame_there_wide true = refl
  frame_there_wide false = refl

  abbrev frame_counts : Bool
  frame_counts = has_traffic version && is_some (value_at key.Count frame_table)

  abbrev frame_keys_by : Bool → TableKeys
  frame_keys_by wide = record { required = frame_required frame_counts; optional = if wide then wide_frame_optional else frame_optional (has_traffic version) }

  pub frame_fine : table_fault (frame_keys version frame_table) frame_table ≡ None
  frame_fine =
      let taken = frame_taken frame_counts (λ is. frame_counted (sym (some_datum f.count) ∙ ap (λ (o : Option Data). is_some o) (sym (frame_sees (codes "count"))) ∙ (and_parts (has_traffic version) (is_some (value_at key.Count frame_table)) is).1)) in
      elim (cases_Bool (has_controllers version)) [
        | inl wide ↦
            ap (λ (b : Bool). table_fault (frame_keys_by b) frame_table) wide
            ∙ no_fault (frame_required frame_counts) wide_frame_optional frame_entries taken frame_allowed_wide (frame_there_wide frame_counts)
        | inr narrow ↦
            ap (λ (b : Bool). table_fault (frame_keys_by b) frame_table) narrow
            ∙ no_fault (frame_required frame_counts) (frame_optional (has_traffic version)) frame_entries taken (frame_allowed (has_traffic version))
            (frame_there (has_traffic version) frame_counts (λ old. positive_none (has_traffic version) f.every h.every old) (λ old. positive_none (has_traffic version) f.count h.count old)
            (number_none (has_controllers version) f.deadline h.deadline narrow) (number_none (has_controllers version) f.jitter h.jitter narrow))
      ]

-- ---- a rate

pub ppm_seen : (k : Key) (t : Members) (z : ℤ) → value_at k t ≡ Some (integer z) → ppm_at k t ≡ z
ppm_seen k t z is = rw is refl

module _ (from : ℕ) (c : ClockText) where
  abbrev pub one_rate : RateText
  one_rate = record { from = from; clock = c }

  abbrev pub rate_entries : List Entry
  rate_entries = entries_of (rate_rows one_rate)

  abbrev pub rate_table : Members
  rate_table = sorted (all_members rate_entries)

  pub rate_sees : is_rate false one_rate ≡ true → (l : List ℕ) → get_member l rate_table ≡ option_map kept (found l rate_entries)
  rate_sees h l = seen l rate_entries refl (rows_proper (rate_rows one_rate) [] (rate_are_rows false one_rate h) tt)

pub clock_by_fraction : (t : Members) (num den : ℕ) → value_at key.Quantum t ≡ None → value_at key.Ppm t ≡ None → number_at key.Num t ≡ num → number_at key.Den t ≡ den
    → clock_of t ≡ text.Rate num den
clock_by_fraction t num den none even n d = rw (none, even, n, d) refl

pub clock_by_deviation : (t : Members) (num den : ℕ) (ppm : ℤ) → value_at key.Quantum t ≡ None → is_some (value_at key.Ppm t) ≡ true → number_at key.Num t ≡ num
    → number_at key.Den t ≡ den → ppm_at key.Ppm t ≡ ppm → clock_of t ≡ text.Fraction num den ppm
clock_by_deviation t num den ppm none some n d p =
    ap (λ (o : Option Data). if is_some o then text.Ppm (number_at key.Quantum t) (ppm_at key.Ppm t) else if is_some (value_at key.Ppm t) then text.Fraction (number_at key.Num t) (number_at key.Den t) (ppm_at key.Ppm t) else text.Rate (number_at key.Num t) (number_at key.Den t)) none
    ∙ ap (λ (b : Bool). if b then text.Fraction (number_at key.Num t) (number_at key.Den t) (ppm_at key.Ppm t) else text.Rate (number_at key.Num t) (number_at key.Den t)) some
    ∙ rw (n, d, p) refl

pub clock_by_ppm : (t : Members) (quantum : ℕ) (ppm : ℤ) → is_some (value_at key.Quantum t) ≡ true → number_at key.Quantum t ≡ quantum → ppm_at key.Ppm t ≡ ppm
    → clock_of t ≡ text.Ppm quantum ppm
clock_by_ppm t quantum ppm some q p =
    ap (λ (b : Bool). if b then text.Ppm (number_at key.Quantum t) (ppm_at key.Ppm t) else if is_some (value_at key.Ppm t) then text.Fraction (number_at key.Num t) (number_at key.Den t) (ppm_at key.Ppm t) else text.Rate (number_at key.Num t) (number_at key.Den t)) some
    ∙ rw (q, p) refl

rate_by_fraction : (t : Members) (from num den : ℕ) → value_at key.Quantum t ≡ None → value_at key.Ppm t ≡ None → number_at key.From t ≡ from → number_at key.Num t ≡ num → number_at key.Den t ≡ den
    → rate_of t ≡ one_rate from (text.Rate num den)
rate_by_fraction t from num den none even f n d = ap (λ (k : ℕ). record { from = k; clock = clock_of t }) f ∙ ap (one_rate from) (clock_by_fraction t num den none even n d)

rate_by_ppm : (t : Members) (from quantum : ℕ) (ppm : ℤ) → is_some (value_at key.Quantum t) ≡ true → number_at key.From t ≡ from → number_at key.Quantum t ≡ quantum
    → ppm_at key.Ppm t ≡ ppm → rate_of t ≡ one_rate from (text.Ppm quantum ppm)
rate_by_ppm t from quantum ppm some f q p = ap (λ (k : ℕ). record { from = k; clock = clock_of t }) f ∙ ap (one_rate from) (clock_by_ppm t quantum ppm some q p)

fraction_fine : (t : Members) → value_at key.Quantum t ≡ None → table_fault rate_keys_by_fraction t ≡ None → rate_fault t ≡ None
fraction_fine t none fine = rw none fine

ppm_fine : (t : Members) → is_some (value_at key.Quantum t) ≡ true → table_fault rate_keys_by_ppm t ≡ None → rate_fault t ≡ None
ppm_fine t some fine = ap (λ (b : Bool). table_fault (if b then rate_keys_by_ppm else rate_keys_by_fraction) t) some ∙ fine

pub rate_back : (from : ℕ) (c : ClockText) → is_rate false (one_rate from c) ≡ true → (rate_of (rate_table from c) ≡ one_rate from c) × (rate_fault (rate_table from c) ≡ None)
rate_back from (text.Rate num den) h =
    let c = text.Rate num den in
    let t = rate_table from c in
    let (a, clock) = and_parts (is_number_of_key from) (is_clock_text false c) h in
    let (n, d) = and_parts (is_number_of_key num) (is_number_of_key den) clock in
    let sees = rate_sees from c h in
    let none : value_at key.Quantum t ≡ None = sees (codes "quantum") in
    let fine = no_fault (key.From ∷ key.Num ∷ key.Den ∷ []) [] (rate_entries from c) (
      (integer (pos from), sees (codes "from"), number_kind largest_number from a),
      ((integer (pos num), sees (codes "num"), number_kind largest_number num n), ((integer (pos den), sees (codes "den"), number_kind largest_number den d), tt)),
    ) tt refl in (
      rate_by_fraction t from num den none (sees (codes "ppm")) (number_seen key.From t from (sees (codes "from")) a) (number_seen key.Num t num (sees (codes "num")) n) (number_seen key.Den t den (sees (codes "den")) d),
      fraction_fine t none fine,
    )
rate_back from (text.Ppm quantum ppm) h =
    let c = text.Ppm quantum ppm in
    let t = rate_table from c in
    let (a, clock) = and_parts (is_number_of_key from) (is_clock_text false c) h in
    let (n, d) = and_parts (is_number_of_key quantum) (is_ppm ppm) clock in
    let sees = rate_sees from c h in
    let some : value_at key.Quantum t ≡ Some (integer (pos quantum)) = sees (codes "quantum") in
    let fine = no_fault (key.From ∷ key.Quantum ∷ key.Ppm ∷ []) [] (rate_entries from c) (
      (integer (pos from), sees (codes "from"), number_kind largest_number from a),
      ((integer (pos quantum), some, number_kind largest_number quantum n), ((integer ppm, sees (codes "ppm"), d), tt)),
    ) tt refl in (
      rate_by_ppm t from quantum ppm (ap (λ (o : Option Data). is_some o) some) (number_seen key.From t from (sees (codes "from")) a) (number_seen key.Quantum t quantum some n) (ppm_seen key.Ppm t ppm (sees (codes "ppm"))),
      ppm_fine t (ap (λ (o : Option Data). is_some o) some) fine,
    )
rate_back from (text.Fraction num den ppm) h =
    absurd (false≢true (and_parts (is_number_of_key from) (is_clock_text false (text.Fraction num den ppm)) h).1)

-- ---- a disturbance

module _ (node : Option (List ℕ)) (x from to : ℕ) where
  abbrev pub one_disturbance : DisturbanceText
  one_disturbance = record { node = node; x = x; from = from; to = to }

  abbrev pub disturbance_entries : List Entry
  disturbance_entries = entries_of (disturbance_rows one_disturbance)

  abbrev pub disturbance_table : Members
  disturbance_table = sorted (all_members disturbance_entries)

  pub disturbance_sees : (known : Bool) → is_disturbance known one_disturbance ≡ true → (l : List ℕ) → get_member l disturbance_table ≡ option_map kept (found l disturbance_entries)
  disturbance_sees known h l = seen l disturbance_entries refl (rows_proper (disturbance_rows one_disturbance) [] (disturbance_are_rows known one_disturbance h) tt)

abbrev pub DisturbanceBack : Bool → Option (List ℕ) → ℕ → ℕ → ℕ → Type 0
DisturbanceBack known node x from to =
    let t = disturbance_table node x from to in
    (disturbance_of t ≡ one_disturbance node x from to)
    × (table_fault (record { required = disturbance_required (known && is_some (value_at key.AtNode t)); optional = [] }) t ≡ None)

disturbance_by : (t : Members) (at : Option (List ℕ)) (x from to : ℕ) → some_name_at key.AtNode t ≡ at → small_at key.X t ≡ x → number_at key.From t ≡ from → number_at key.To t ≡ to
    → disturbance_of t ≡ one_disturbance at x from to
disturbance_by t at x from to a b c d = rw (a, b, c, d) refl

some_name_none : (k : Key) (t : Members) → value_at k t ≡ None → some_name_at k t ≡ None
some_name_none k t is = rw is refl

some_name_seen : (k : Key) (t : Members) (s : List ℕ) → value_at k t ≡ Some (string s) → some_name_at k t ≡ Some s
some_name_seen k t s is = rw is refl

small_none : (k : Key) (t : Members) → value_at k t ≡ None → small_at k t ≡ 0
small_none k t is = rw is refl

spot_fine : (known b : Bool) (t : Members) → (known && is_some (value_at key.AtNode t)) ≡ b → table_fault (record { required = disturbance_required b; optional = [] }) t ≡ None
    → table_fault (record { required = disturbance_required (known && is_some (value_at key.AtNode t)); optional = [] }) t ≡ None
spot_fine known b t is fine = ap (λ (c : Bool). table_fault (record { required = disturbance_required c; optional = [] }) t) is ∙ fine

pub disturbance_back : (known : Bool) (node : Option (List ℕ)) (x from to : ℕ) → is_disturbance known (one_disturbance node x from to) ≡ true → DisturbanceBack known node x from to
disturbance_back known None x from to h =
    let t = disturbance_table None x from to in
    let (spot, more) = and_parts (is_small_number x) (is_number_of_key from && is_number_of_key to) h in
    let (a, b) = and_parts (is_number_of_key from) (is_number_of_key to) more in
    let sees = disturbance_sees None x from to known h in
    let none : value_at key.AtNode t ≡ None = sees (codes "node") in
    let fine = no_fault (key.X ∷ key.From ∷ key.To ∷ []) [] (disturbance_entries None x from to)
    ((integer (pos x), sees (codes "x"), number_kind largest_small x spot), ((integer (pos from), sees (codes "from"), number_kind largest_number from a), ((integer (pos to), sees (codes "to"), number_kind largest_number to b), tt))) tt refl in (
      disturbance_by t None x from to (some_name_none key.AtNode t none) (small_seen key.X t x (sees (codes "x")) spot) (number_seen key.From t from (sees (codes "from")) a) (number_seen key.To t to (sees (codes "to")) b),
      spot_fine known false t (ap (λ (o : Option Data). known && is_some o) none ∙ and-false known) fine,
    )
disturbance_back false (Some name) x from to h = absurd (false≢true h)
disturbance_back true (Some name) x from to h =
    let t = disturbance_table (Some name) x from to in
    let (spot, more) = and_parts (is_name name && (x == 0)) (is_number_of_key from && is_number_of_key to) h in
    let (named, zero_test) = and_parts (is_name name) (x == 0) spot in
    let (a, b) = and_parts (is_number_of_key from) (is_number_of_key to) more in
    let zero : x ≡ 0 = grind (arith, nat_tests) in
    let sees = disturbance_sees (Some name) x from to true h in
    let some : value_at key.AtNode t ≡ Some (string name) = sees (codes "node") in
    let none : value_at key.X t ≡ None = sees (codes "x") in
    let fine = no_fault (key.AtNode ∷ key.From ∷ key.To ∷ []) [] (disturbance_entries (Some name) x from to)
    ((string name, some, named), ((integer (pos from), sees (codes "from"), number_kind largest_number from a), ((integer (pos to), sees (codes "to"), number_kind largest_number to b), tt))) tt refl in (
      disturbance_by t (Some name) x from to (some_name_seen key.AtNode t name some) (small_none key.X t none ∙ sym zero) (number_seen key.From t from (sees (codes "from")) a) (number_seen key.To t to (sees (codes "to")) b),
      spot_fine true true t (ap (λ (o : Option Data). is_some o) some) fine,
    )
