-- Reading by places is the grammar.
use Rattle.std.proofs.Common.{◌≡◌, ℕ, zero, suc, ◌+◌, ◌-◌, ◌*◌, ◌/◌, ◌%◌, ◌<◌, ◌≤◌, ◌∙◌, List, [], ◌∷◌, ◌++◌, length, Bool, true, false, refl, sym, ap, subst, cond, arith, map, take, drop, length-append, append_assoc, get_or, set, replicate, eq-eqb, eqb-true, ◌↔◌, ◌≢◌, inl, inr}
use Rattle.std.specs.List.{flat_map}
use Rattle.std.specs.Prelude.{◌==◌, ◌&&◌, nat_le}
use Rattle.std.proofs.Math.Nat.{mod-lt, mod-add-div'}
use Rattle.std.proofs.Math.Seq.{take-add}
use Rattle.std.proofs.lemmas.Nat.{div-mul-add, mod-mul-add}
use Rattle.std.proofs.lemmas.List.{length-map, length-drop, drop-drop, take_at, drop_at, take_all, drop_all, take-append-drop, nil_from_length, set_at, get_or_default}
use Rattle.std.proofs.lemmas.Bool.{cases_lt, le-leb, lt-leb, le-ltb, leb-true, eqb-false, and_right}
use Rattle.wl_level.specs.declared.Level.{Level}
use Rattle.wl_level.specs.declared.Level.TheVariants.{Dominant, Recessive}
use Rattle.wl_level.specs.Places.{at}
use Rattle.wl_frame.specs.Crc.{bit_of_level, level_of_bit, number_of, crc_bits, crc_of}
use Rattle.wl_frame.specs.Header.{Free, Field, Name, sent_free, one_bit, fields_of, width_of, header_of, header_bits, part_bits, field_bits, value_in, is_extended}
use Rattle.wl_frame.specs.Header.Name.{SubstituteRemoteRequest, RemoteRequest, Reserved1, Reserved0, DataLengthCode}
use Rattle.wl_frame.specs.Grammar.{Content, IsContent, number_bits, number_from, bits_before_crc, with_crc, bits_of, IsFrame, byte_count, layout_of, layout_by, covered_length, is_whole, is_crc_right, bytes_from, content_of, content_by, id_by, is_front, bits_left, is_arbitration, greatest_id, IsReadAs}
use Rattle.wl_frame.specs.Limits.{most_bits_before_crc, most_frame_bits, most_header_bits}
use Rattle.wl_frame.specs.Padded.{eight_bytes}
use Rattle.wl_frame.proofs.Spelled.{bit_level, map_bit_level, map_level_bit, length_number_bits, length_crc, number_injective}
use Rattle.wl_frame.proofs.Fields.{number_front, number_small, number_regrouped, number_length, number_read, number_spells, one_bit_back, one_bit_small, bit_back, no_bit, bit_read, values_from, Fit, length_spelled, fields_spelled, fields_spell}

-- the bytes that were spelled after a front
bytes_spelled : (front tail : List Level) (bytes : List ℕ) → ((k : ℕ) → get_or bytes k 0 < 256)
    → bytes_from (front ++ (flat_map (number_bits 8) bytes ++ tail)) (length front) (length bytes) ≡ bytes
bytes_spelled front tail [] h = refl
bytes_spelled front tail (b ∷ bs) h =
    ap (λ n. n ∷ bytes_from (front ++ ((number_bits 8 b ++ flat_map (number_bits 8) bs) ++ tail)) (length front + 8) (length bs))
    (number_read front (flat_map (number_bits 8) bs) tail 8 b (h 0))
    ∙ ap (λ ls. b ∷ bytes_from ls (length front + 8) (length bs)) (number_regrouped front (flat_map (number_bits 8) bs) tail 8 b)
    ∙ ap (λ n. b ∷ bytes_from ((front ++ number_bits 8 b) ++ (flat_map (number_bits 8) bs ++ tail)) n (length bs))
    (sym (number_length front (flat_map (number_bits 8) bs) tail 8 b))
    ∙ ap (λ ns. b ∷ ns) (bytes_spelled (front ++ number_bits 8 b) tail bs (λ k. h (suc k)))

length_bytes : (bytes : List ℕ) → length (flat_map (number_bits 8) bytes) ≡ 8 * length bytes
length_bytes [] = refl
length_bytes (b ∷ bs) =
    length-append (number_bits 8 b) (flat_map (number_bits 8) bs) ∙ omega (arith, length_number_bits 8 b, length_bytes bs)

-- The header of a frame of either format.

abbrev values_by : Bool → Content → Free → List ℕ
values_by extended c free = map (λ f. f.value c free) (fields_of extended)

front_id : (id : ℕ) → id ≤ 536870911 → id / 262144 < 2048
front_id id h = omega (arith, mod-add-div' id 262144)

-- the numbers of a header fit its fields
values_fit : (extended : Bool) (c : Content) (free : Free) → c.id ≤ greatest_id extended → c.dlc ≤ 15 → Fit (fields_of extended) (values_by extended c free)
values_fit false c free id dlc =
    (omega arith, (omega arith, (one_bit_small c.remote, (omega arith, (one_bit_small (bit_of_level free.r0), (omega arith, refl))))))
values_fit true c free id dlc = (
  omega arith,
  (
    front_id c.id id,
    (
      one_bit_small (bit_of_level free.srr),
      (
        omega arith,
        (
          mod-lt c.id {m = 262144} (omega arith),
          (
            one_bit_small c.remote,
            (one_bit_small (bit_of_level free.r1), (one_bit_small (bit_of_level free.r0), (omega arith, refl))),
          ),
        ),
      ),
    ),
  ),
)

-- what is read from the numbers in the fields
record IsHeader (extended : Bool) (c : Content) (ls : List Level) : Type 0 where
  format : is_extended ls ≡ extended
  id : id_by extended ls ≡ c.id
  remote : (value_in RemoteRequest extended ls == 1) ≡ c.remote
  dlc : value_in DataLengthCode extended ls ≡ c.dlc

header_read : (extended : Bool) (c : Content) (free : Free) (ls : List Level) → values_from 0 (fields_of extended) ls ≡ values_by extended c free → IsHeader extended c ls
header_read false c free ls e = record {
  format = ap (λ ns. get_or ns 3 0 == 1) e;
  id = ap (λ ns. get_or ns 1 0) e;
  remote = ap (λ ns. get_or ns 2 0 == 1) e ∙ one_bit_back c.remote;
  dlc = ap (λ ns. get_or ns 5 0) e;
}
header_read true c free ls e = record {
  format = ap (λ ns. get_or ns 3 0 == 1) e;
  id = ap (λ ns. get_or ns 1 0 * 262144 + get_or ns 4 0) e ∙ (let whole : c.id / 262144 * 262144 + c.id % 262144 ≡ c.id = omega (arith, mod-add-div' c.id 262144) in whole);
  remote = ap (λ ns. get_or ns 5 0 == 1) e ∙ one_bit_back c.remote;
  dlc = ap (λ ns. get_or ns 8 0) e;
}

-- A frame is read as what it carries.

abbrev crc_levels : List Level → List Level
crc_levels ls = map level_of_bit (crc_bits ls)

length_crc_levels : (ls : List Level) → length (crc_levels ls) ≡ 15
length_crc_levels ls = length-map (crc_bits ls) level_of_bit ∙ length_crc ls

module _ (c : Content) (free : Free) (is : IsContent c) where
  abbrev frame_head : List Level
  frame_head = header_bits c free

  abbrev frame_bits : List Level
  frame_bits = with_crc (bits_before_crc c free)

  frame_fits : Fit (fields_of c.extended) (values_by c.extended c free)
  frame_fits = values_fit c.extended c free is.id is.dlc

  head_length : length frame_head ≡ width_of (fields_of c.extended)
  head_length = length_spelled (fields_of c.extended) (values_by c.extended c free) frame_fits

  frame_grouped : frame_bits ≡ frame_head ++ (flat_map (number_bits 8) c.bytes ++ crc_levels (bits_before_crc c free))
  frame_grouped = append_assoc frame_head (flat_map (number_bits 8) c.bytes) (crc_levels (bits_before_crc c free))

  read_header : IsHeader c.extended c frame_bits
  read_header =
      header_read c.extended c free frame_bits
      (ap (values_from 0 (fields_of c.extended)) frame_grouped
      ∙ fields_spelled [] (flat_map (number_bits 8) c.bytes ++ crc_levels (bits_before_crc c free)) (fields_of c.extended) (values_by c.extended c free) frame_fits)

  read_count : (layout_by c.extended frame_bits).bytes ≡ length c.bytes
  read_count =
      ap (λ r. byte_count r (value_in DataLengthCode c.extended frame_bits)) read_header.remote
      ∙ ap (byte_count c.remote) read_header.dlc ∙ sym is.count

  covered_is : length (bits_before_crc c free) ≡ width_of (fields_of c.extended) + 8 * length c.bytes
  covered_is =
      length-append frame_head (flat_map (number_bits 8) c.bytes)
      ∙ omega (arith, head_length, length_bytes c.bytes)

  read_covered : covered_length frame_bits ≡ length (bits_before_crc c free)
  read_covered =
      ap (λ x. (layout_by x frame_bits).header + 8 * (layout_by x frame_bits).bytes) read_header.format
      ∙ ap (λ n. width_of (fields_of c.extended) + 8 * n) read_count
      ∙ sym covered_is

  read_bytes : bytes_from frame_bits (width_of (fields_of c.extended)) (layout_by c.extended frame_bits).bytes ≡ c.bytes
  read_bytes =
      ap (bytes_from frame_bits (width_of (fields_of c.extended))) read_count
      ∙ ap (λ n. bytes_from frame_bits n (length c.bytes)) (sym head_length)
      ∙ ap (λ ls. bytes_from ls (length frame_head) (length c.bytes)) frame_grouped
      ∙ bytes_spelled frame_head (crc_levels (bits_before_crc c free)) c.bytes is.bytes

  read_content : content_of frame_bits ≡ c
  read_content =
      ap (λ x. content_by x frame_bits) read_header.format
      ∙ (λ i. record { extended = c.extended; id = read_header.id i; remote = read_header.remote i; dlc = read_header.dlc i; bytes = read_bytes i })

  read_whole : is_whole frame_bits ≡ true
  read_whole =
      eq-eqb (length frame_bits) (covered_length frame_bits + 15)
      (length-append (bits_before_crc c free) (crc_levels (bits_before_crc c free)) ∙ omega (arith, read_covered, length_crc_levels (bits_before_crc c free)))

  read_crc : is_crc_right frame_bits ≡ true
  read_crc =
      eq-eqb (crc_of (take (covered_length frame_bits) frame_bits)) (number_from frame_bits (covered_length frame_bits) 15) (front_crc ∙ sym tail_crc)
    where
      front_crc : crc_of (take (covered_length frame_bits) frame_bits) ≡ crc_of (bits_before_crc c free)
      front_crc = ap crc_of (take_at (bits_before_crc c free) (crc_levels (bits_before_crc c free)) (covered_length frame_bits) (sym read_covered))

      tail_crc : number_from frame_bits (covered_length frame_bits) 15 ≡ crc_of (bits_before_crc c free)
      tail_crc =
          ap (λ ls. number_of (map bit_of_level (take 15 ls))) (drop_at (bits_before_crc c free) (crc_levels (bits_before_crc c free)) (covered_length frame_bits) (sym read_covered))
          ∙ ap (λ ls. number_of (map bit_of_level ls)) (take_all 15 (crc_levels (bits_before_crc c free)) (omega (arith, length_crc_levels (bits_before_crc c free))))
          ∙ ap number_of (map_bit_level (crc_bits (bits_before_crc c free)))

-- What is read in a whole list spells it.

length_bytes_at : (ls : List Level) (from n : ℕ) → length (bytes_from ls from n) ≡ n
length_bytes_at ls from zero = refl
length_bytes_at ls from (suc n) = ap suc (length_bytes_at ls (from + 8) n)

bytes_small : (ls : List Level) (from n k : ℕ) → get_or (bytes_from ls from n) k 0 < 256
bytes_small ls from zero k = omega arith
bytes_small ls from (suc n) zero = number_small ls from 8
bytes_small ls from (suc n) (suc k) = bytes_small ls (from + 8) n k

id_small : (extended : Bool) (ls : List Level) → id_by extended ls ≤ greatest_id extended
id_small false ls = omega (arith, number_small ls 1 11)
id_small true ls = omega (arith, number_small ls 1 11, number_small ls 14 18)

dlc_small : (extended : Bool) (ls : List Level) → value_in DataLengthCode extended ls ≤ 15
dlc_small false ls = omega (arith, number_small ls 15 4)
dlc_small true ls = omega (arith, number_small ls 35 4)

pub content_is : (ls : List Level) → IsContent (content_of ls)
content_is ls = record {
  id = id_small (is_extended ls) ls;
  dlc = dlc_small (is_extended ls) ls;
  count = length_bytes_at ls (layout_of ls).header (layout_of ls).bytes;
  bytes = bytes_small ls (layout_of ls).header (layout_of ls).bytes;
}

bytes_spell : (ls : List Level) (from n : ℕ) → from + 8 * n ≤ length ls → flat_map (number_bits 8) (bytes_from ls from n) ≡ take (8 * n) (drop from ls)
bytes_spell ls from zero h = refl
bytes_spell ls from (suc n) h =
    ap (λ bs. bs ++ flat_map (number_bits 8) (bytes_from ls (from + 8) n)) (number_spells ls from 8 (omega arith))
    ∙ ap (λ bs. take 8 (drop from ls) ++ bs) (bytes_spell ls (from + 8) n (omega arith))
    ∙ ap (λ rest. take 8 (drop from ls) ++ take (8 * n) rest) (sym (drop-drop 8 from ls))
    ∙ sym (take-add 8 (8 * n) (drop from ls))
    ∙ ap (λ k. take k (drop from ls)) (let more : 8 + 8 * n ≡ 8 * suc n = omega arith in more)

-- the free bits of a list
abbrev level_in : Name → Bool → List Level → Level
level_in name extended ls = level_of_bit (value_in name extended ls == 1)

abbrev free_by : Bool → List Level → Free
free_by extended ls = record { srr = level_in SubstituteRemoteRequest extended ls; r1 = level_in Reserved1 extended ls; r0 = level_in Reserved0 extended ls }

bit_kept : (ls : List Level) (n : ℕ) → one_bit (number_from ls n 1 == 1) ≡ number_from ls n 1
bit_kept ls n = bit_back (number_from ls n 1) (number_small ls n 1)

free_kept : (ls : List Level) (n : ℕ) → one_bit (bit_of_level (level_of_bit (number_from ls n 1 == 1))) ≡ number_from ls n 1
free_kept ls n = ap one_bit (bit_level (number_from ls n 1 == 1)) ∙ bit_kept ls n

start_read : (ls : List Level) → 0 < length ls → at ls 0 ≡ Dominant → 0 ≡ number_from ls 0 1
start_read ls h sof = sym (bit_read ls 0 ∙ ap (λ l. one_bit (bit_of_level l)) (get_or_default ls 0 Dominant Recessive h ∙ sof))

-- the numbers of a header are those that were read
values_kept : (extended : Bool) (ls : List Level) → 0 < length ls → at ls 0 ≡ Dominant → is_extended ls ≡ extended
    → values_by extended (content_by extended ls) (free_by extended ls) ≡ values_from 0 (fields_of extended) ls
values_kept false ls h sof e =
    let start : 0 ≡ number_from ls 0 1 = start_read ls h sof in
    let base : 0 ≡ number_from ls 13 1 = sym (no_bit (number_from ls 13 1) (number_small ls 13 1) e) in
    λ i. start i ∷ number_from ls 1 11 ∷ bit_kept ls 12 i ∷ base i ∷ free_kept ls 14 i ∷ number_from ls 15 4 ∷ []
values_kept true ls h sof e =
    let start : 0 ≡ number_from ls 0 1 = start_read ls h sof in
    let front : (number_from ls 1 11 * 262144 + number_from ls 14 18) / 262144 ≡ number_from ls 1 11 = div-mul-add (number_from ls 1 11) 262144 (number_from ls 14 18) (number_small ls 14 18) in
    let rest : (number_from ls 1 11 * 262144 + number_from ls 14 18) % 262144 ≡ number_from ls 14 18 = mod-mul-add (number_from ls 1 11) 262144 (number_from ls 14 18) (number_small ls 14 18) in
    let extension : 1 ≡ number_from ls 13 1 = ap one_bit (sym e) ∙ bit_kept ls 13 in
    λ i. start i ∷ front i ∷ free_kept ls 12 i ∷ extension i ∷ rest i ∷ bit_kept ls 32 i ∷ free_kept ls 33 i ∷ free_kept ls 34 i ∷ number_from ls 35 4 ∷ []

header_some : (extended : Bool) → 19 ≤ width_of (fields_of extended)
header_some true = omega arith
header_some false = omega arith

header_most : (extended : Bool) → width_of (fields_of extended) ≤ most_header_bits
header_most true = omega arith
header_most false = omega arith

-- a list spells the header that is read in it
header_spelled : (ls : List Level) → (layout_of ls).header ≤ length ls → at ls 0 ≡ Dominant
    → header_bits (content_of ls) (free_by (is_extended ls) ls) ≡ take (layout_of ls).header ls
header_spelled ls h sof =
    ap (field_bits (fields_of (is_extended ls))) (values_kept (is_extended ls) ls (omega (arith, header_some (is_extended ls))) sof refl)
    ∙ fields_spell ls 0 (fields_of (is_extended ls)) (omega arith)

module _ (ls : List Level) (whole : is_whole ls ≡ true) where
  pub whole_length : length ls ≡ covered_length ls + 15
  whole_length = eqb-true (length ls) (covered_length ls + 15) whole

  covered_spelled : at ls 0 ≡ Dominant → take (covered_length ls) ls ≡ bits_before_crc (content_of ls) (free_by (is_extended ls) ls)
  covered_spelled sof =
      take-add (layout_of ls).header (8 * (layout_of ls).bytes) ls
      ∙ ap (λ front. front ++ take (8 * (layout_of ls).bytes) (drop (layout_of ls).header ls)) (sym (header_spelled ls (omega (arith, whole_length)) sof))
      ∙ ap (λ rest. header_bits (content_of ls) (free_by (is_extended ls) ls) ++ rest)
      (sym (bytes_spell ls (layout_of ls).header (layout_of ls).bytes (omega (arith, whole_length))))

  crc_spelled_out : is_crc_right ls ≡ true → drop (covered_length ls) ls ≡ crc_levels (take (covered_length ls) ls)
  crc_spelled_out right =
      let tail : List Level = drop (covered_length ls) ls in
      let long : length tail ≡ 15 = omega (arith, length-drop (covered_length ls) ls, whole_length) in
      let numbers : crc_of (take (covered_length ls) ls) ≡ number_of (map bit_of_level tail) =
      eqb-true (crc_of (take (covered_length ls) ls)) (number_from ls (covered_length ls) 15) right
      ∙ ap (λ ms. number_of (map bit_of_level ms)) (take_all 15 tail (omega arith))
      in
      let bits : crc_bits (take (covered_length ls) ls) ≡ map bit_of_level tail =
      number_injective (crc_bits (take (covered_length ls) ls)) (map bit_of_level tail)
      (length_crc (take (covered_length ls) ls) ∙ sym (length-map tail bit_of_level ∙ long)) numbers
      in
      sym (map_level_bit tail) ∙ ap (map level_of_bit) (sym bits)

  read_frame : at ls 0 ≡ Dominant → is_crc_right ls ≡ true → IsFrame ls (content_of ls)
  read_frame sof right = (
    content_is ls,
    free_by (is_extended ls) ls,
    sym (take-append-drop (covered_length ls) ls)
        ∙ ap (λ tail. take (covered_length ls) ls ++ tail) (crc_spelled_out right)
        ∙ ap with_crc (covered_spelled sof),
  )

begins_dominant : (extended : Bool) (values : List ℕ) (c : Content) (free : Free) (tail : List Level)
    → at (field_bits (fields_of extended) (values_by extended c free) ++ tail) 0 ≡ Dominant
unfolding number_bits
begins_dominant true values c free tail = refl
begins_dominant false values c free tail = refl

frame_begins : (c : Content) (free : Free) → at (with_crc (bits_before_crc c free)) 0 ≡ Dominant
frame_begins c free =
    ap (λ ls. at ls 0) (append_assoc (header_bits c free) (flat_map (number_bits 8) c.bytes) (crc_levels (bits_before_crc c free)))
    ∙ begins_dominant c.extended [] c free (flat_map (number_bits 8) c.bytes ++ crc_levels (bits_before_crc c free))

frame_read : (bits : List Level) (c : Content) → IsFrame bits c → IsReadAs bits c
frame_read bits c (is, free, e) = record {
  begins = ap (λ ls. at ls 0) e ∙ frame_begins c free;
  whole = ap is_whole e ∙ read_whole c free is;
  crc = ap is_crc_right e ∙ read_crc c free is;
  content = ap content_of e ∙ read_content c free is;
}

-- a list is a frame exactly where it is read as one
pub frame_is_read : (bits : List Level) (c : Content) → IsFrame bits c ↔ IsReadAs bits c
frame_is_read bits c =
    (frame_read bits c, λ r. subst (λ d. IsFrame bits d) r.content (read_frame bits r.whole r.begins r.crc))

pub sent_frame : (c : Content) → IsContent c → IsFrame (bits_of c) c
unfolding bits_of
sent_frame c is = (is, sent_free, refl)

pub sent_whole : (c : Content) → IsContent c → is_whole (bits_of c) ≡ true
sent_whole c is = (frame_read (bits_of c) c (sent_frame c is)).whole

-- Fronts.

-- the format shows once the IDE bit is there
format_front : (front rest : List Level) → 14 ≤ length front → is_extended (front ++ rest) ≡ is_extended front
format_front front rest h = ap (λ n. n == 1) (number_front front rest 13 1 (omega arith))

covered_by_front : (extended : Bool) (front rest : List Level) → width_of (fields_of extended) ≤ length front
    → (layout_by extended (front ++ rest)).bytes ≡ (layout_by extended front).bytes
covered_by_front false front rest h =
    ap (λ n. byte_count (n == 1) (number_from (front ++ rest) 15 4)) (number_front front rest 12 1 (omega arith))
    ∙ ap (λ n. byte_count (number_from front 12 1 == 1) n) (number_front front rest 15 4 (omega arith))
covered_by_front true front rest h =
    ap (λ n. byte_count (n == 1) (number_from (front ++ rest) 35 4)) (number_front front rest 32 1 (omega arith))
    ∙ ap (λ n. byte_count (number_from front 32 1 == 1) n) (number_front front rest 35 4 (omega arith))

-- how long a frame is shows once its header is there
pub covered_front : (front rest : List Level) → (layout_of front).header ≤ length front → covered_length (front ++ rest) ≡ covered_length front
covered_front front rest h =
    ap (λ x. (layout_by x (front ++ rest)).header + 8 * (layout_by x (front ++ rest)).bytes) (format_front front rest (omega (arith, header_some (is_extended front))))
    ∙ ap (λ n. (layout_of front).header + 8 * n) (covered_by_front (is_extended front) front rest h)

count_most : (remote : Bool) (dlc : ℕ) → byte_count remote dlc ≤ 8
count_most true dlc = omega arith
count_most false dlc = omega arith

pub bytes_most : (ls : List Level) → (layout_of ls).bytes ≤ 8
bytes_most ls = count_most (value_in RemoteRequest (is_extended ls) ls == 1) (value_in DataLengthCode (is_extended ls) ls)

pub covered_most : (ls : List Level) → covered_length ls ≤ most_bits_before_crc
covered_most ls = omega (arith, header_most (is_extended ls), bytes_most ls)

-- a whole list is the front of no longer one
pub whole_alone : (front rest : List Level) → is_whole front ≡ true → is_whole (front ++ rest) ≡ true → rest ≡ []
whole_alone front rest w v =
    let here : length front ≡ covered_length front + 15 = whole_length front w in
    let there : length (front ++ rest) ≡ covered_length (front ++ rest) + 15 = whole_length (front ++ rest) v in
    nil_from_length rest (omega (arith, length-append front rest, covered_front front rest (omega arith)))

pub front_none : is_front [] ≡ true
front_none = refl

-- a front that lacks a part of the header is shorter than any frame
header_lacks : (ls : List Level) (l : Level) → length ls < (layout_of ls).header → length (ls ++ l ∷ []) ≤ covered_length (ls ++ l ∷ []) + 15
header_lacks ls l h = elim (cases_lt (length ls) 14) [
  | inl short ↦ omega (arith, length-append ls (l ∷ []), header_some (is_extended (ls ++ l ∷ [])))
  | inr long ↦
      (let same : (layout_of (ls ++ l ∷ [])).header ≡ (layout_of ls).header = ap (λ x. width_of (fields_of x)) (format_front ls (l ∷ []) long) in
      omega (arith, length-append ls (l ∷ [])))
]

pub front_more : (ls : List Level) (l : Level) → is_front ls ≡ true → is_whole ls ≡ false → is_front (ls ++ l ∷ []) ≡ true
front_more ls l f w =
    let here : length ls ≤ covered_length ls + 15 = leb-true (length ls) (covered_length ls + 15) f in
    let other : length ls ≢ covered_length ls + 15 = eqb-false (length ls) (covered_length ls + 15) w in
    let longer : length (ls ++ l ∷ []) ≡ length ls + 1 = length-append ls (l ∷ []) in
    le-leb (length (ls ++ l ∷ [])) (covered_length (ls ++ l ∷ []) + 15)
    (elim (cases_lt (length ls) (layout_of ls).header) [ inl short ↦ header_lacks ls l short | inr long ↦ omega (arith, covered_front ls (l ∷ []) long) ])

pub front_room : (ls : List Level) → is_front ls ≡ true → is_whole ls ≡ false → length ls < most_frame_bits
front_room ls f w =
    let here : length ls ≤ covered_length ls + 15 = leb-true (length ls) (covered_length ls + 15) f in
    let other : length ls ≢ covered_length ls + 15 = eqb-false (length ls) (covered_length ls + 15) w in
    omega (arith, covered_most ls)

-- The bits to come.

-- the header of a front doesn't get shorter
header_grows : (ls : List Level) (l : Level) → (layout_of ls).header ≤ (layout_of (ls ++ l ∷ [])).header
header_grows ls l = elim (cases_lt (length ls) 14) [
  | inl short ↦ header_short short
  | inr long ↦ (let same : (layout_of (ls ++ l ∷ [])).header ≡ (layout_of ls).header = ap (λ x. width_of (fields_of x)) (format_front ls (l ∷ []) long) in omega arith)
]
  where
    header_short : length ls < 14 → (layout_of ls).header ≤ (layout_of (ls ++ l ∷ [])).header
    header_short short =
        let none : number_from ls 13 1 ≡ 0 = ap (λ rest. number_of (map bit_of_level (take 1 rest))) (drop_all 13 ls (omega arith)) in
        let base : (layout_of ls).header ≡ 19 = ap (λ n. width_of (fields_of (n == 1))) none in
        omega (arith, header_some (is_extended (ls ++ l ∷ [])))

abbrev left_by : Bool → List Level → ℕ
left_by b ls = cond b (covered_length ls) (layout_of ls).header + 15 - length ls

left_there : (ls : List Level) → (layout_of ls).header ≤ length ls → bits_left ls ≡ covered_length ls + 15 - length ls
unfolding bits_left
left_there ls h = ap (λ b. left_by b ls) (le-leb (layout_of ls).header (length ls) h)

left_before : (ls : List Level) → length ls < (layout_of ls).header → bits_left ls ≡ (layout_of ls).header + 15 - length ls
unfolding bits_left
left_before ls h = ap (λ b. left_by b ls) (lt-leb (layout_of ls).header (length ls) h)

pub left_least : (ls : List Level) → 34 ≤ length ls + bits_left ls
left_least ls = elim (cases_lt (length ls) (layout_of ls).header) [
  | inl short ↦ omega (arith, left_before ls short, header_some (is_extended ls))
  | inr long ↦ omega (arith, left_there ls long, header_some (is_extended ls))
]

pub left_more : (ls : List Level) (l : Level) → bits_left ls ≤ suc (bits_left (ls ++ l ∷ []))
left_more ls l = elim (cases_lt (length ls) (layout_of ls).header) [
  | inl short ↦ (elim (cases_lt (length (ls ++ l ∷ [])) (layout_of (ls ++ l ∷ [])).header) [
    | inl later ↦ omega (arith, length-append ls (l ∷ []), left_before ls short, left_before (ls ++ l ∷ []) later, header_grows ls l)
    | inr now ↦ omega (arith, length-append ls (l ∷ []), left_before ls short, left_there (ls ++ l ∷ []) now, header_grows ls l)
  ])
  | inr long ↦ there long
]
  where
    there : (layout_of ls).header ≤ length ls → bits_left ls ≤ suc (bits_left (ls ++ l ∷ []))
    there long =
        let same : (layout_of (ls ++ l ∷ [])).header ≡ (layout_of ls).header =
        ap (λ x. width_of (fields_of x)) (format_front ls (l ∷ []) (omega (arith, header_some (is_extended ls)))) in
        let longer : length (ls ++ l ∷ []) ≡ length ls + 1 = length-append ls (l ∷ []) in
        let after = left_there (ls ++ l ∷ []) (omega arith) in
        omega (arith, left_there ls long, covered_front ls (l ∷ []) long)

pub left_whole : (ls : List Level) → is_whole ls ≡ true → bits_left ls ≡ 0
left_whole ls w = (let here : length ls ≡ covered_length ls + 15 = whole_length ls w in omega (arith, left_there ls (omega arith)))

-- The arbitration.

arbitration_by_format : (extended : Bool) (ls : List Level) → (layout_by extended ls).arbitration ≤ 33
arbitration_by_format true ls = omega arith
arbitration_by_format false ls = omega arith

arbitration_most : (ls : List Level) → (layout_of ls).arbitration ≤ 33
arbitration_most ls = arbitration_by_format (is_extended ls) ls

pub covered_some : (ls : List Level) → 19 ≤ covered_length ls
covered_some ls = omega (arith, header_some (is_extended ls))

pub arbitration_over : (read sent : List Level) (place : ℕ) → is_whole read ≡ true → length read ≤ place → is_arbitration sent place ≡ false
arbitration_over read sent place w h =
    ap (λ b. nat_le (layout_of sent).start place && b)
    (le-ltb place (layout_of sent).arbitration (omega (arith, whole_length read w, arbitration_most sent, covered_some read)))
    ∙ and_right (nat_le (layout_of sent).start place) false refl

pub arbitration_begins : (extended : Bool) (ls : List Level) → (layout_by extended ls).start ≡ 1
arbitration_begins true ls = refl
arbitration_begins false ls = refl

pub arbitration_ends : (extended : Bool) (ls : List Level) → (layout_by extended ls).arbitration ≡ suc (layout_by extended ls).rtr
arbitration_ends true ls = refl
arbitration_ends false ls = refl

-- What the code reads of the header.

remote_by : (extended : Bool) (ls : List Level) → width_of (fields_of extended) ≤ length ls
    → bit_of_level (get_or ls (layout_by extended ls).rtr Dominant) ≡ (value_in RemoteRequest extended ls == 1)
remote_by true ls h = sym (ap (λ n. n == 1) (bit_read ls 32) ∙ one_bit_back (bit_of_level (get_or ls 32 Dominant)))
remote_by false ls h = sym (ap (λ n. n == 1) (bit_read ls 12) ∙ one_bit_back (bit_of_level (get_or ls 12 Dominant)))

pub remote_read : (ls : List Level) → (layout_of ls).header ≤ length ls → bit_of_level (get_or ls (layout_of ls).rtr Dominant) ≡ (content_of ls).remote
remote_read ls h = remote_by (is_extended ls) ls h

rtr_by : (extended : Bool) (ls : List Level) → (layout_by extended ls).rtr < width_of (fields_of extended)
rtr_by true ls = omega arith
rtr_by false ls = omega arith

pub rtr_within : (ls : List Level) → (layout_of ls).rtr < (layout_of ls).header
rtr_within ls = rtr_by (is_extended ls) ls

dlc_by : (extended : Bool) (ls : List Level) → number_from ls (width_of (fields_of extended) - 4) 4 ≡ value_in DataLengthCode extended ls
dlc_by true ls = refl
dlc_by false ls = refl

pub dlc_read : (ls : List Level) → number_from ls ((layout_of ls).header - 4) 4 ≡ (content_of ls).dlc
dlc_read ls = dlc_by (is_extended ls) ls

-- What the code spells of the header.

parts_more : (fs gs : List Field) (c : Content) (free : Free) → part_bits (fs ++ gs) c free ≡ part_bits fs c free ++ part_bits gs c free
parts_more [] gs c free = refl
parts_more (f ∷ fs) gs c free =
    ap (λ ls. number_bits f.width (f.value c free) ++ ls) (parts_more fs gs c free)
    ∙ sym (append_assoc (number_bits f.width (f.value c free)) (part_bits fs c free) (part_bits gs c free))

start_by : (extended : Bool) (c : Content) → part_bits (header_of extended).start c sent_free ≡ Dominant ∷ []
unfolding number_bits
start_by true c = refl
start_by false c = refl

pub header_parts : (c : Content) → ((Dominant ∷ []) ++ part_bits (header_of c.extended).arbitration c sent_free) ++ part_bits (header_of c.extended).control c sent_free ≡ header_bits c sent_free
header_parts c =
    ap (λ ls. (ls ++ part_bits (header_of c.extended).arbitration c sent_free) ++ part_bits (header_of c.extended).control c sent_free) (sym (start_by c.extended c))
    ∙ ap (λ ls. ls ++ part_bits (header_of c.extended).control c sent_free) (sym (parts_more (header_of c.extended).start (header_of c.extended).arbitration c sent_free))
    ∙ sym (parts_more ((header_of c.extended).start ++ (header_of c.extended).arbitration) (header_of c.extended).control c sent_free)

rtr_spelled : (remote : Bool) → number_bits 1 (one_bit remote) ≡ level_of_bit remote ∷ []
unfolding number_bits
rtr_spelled true = refl
rtr_spelled false = refl

abbrev arbitration_by : Bool → Content → List Level
arbitration_by extended c = part_bits (header_of extended).arbitration c sent_free

pub base_arbitration : (front : List Level) (c : Content) → c.extended ≡ false
    → (front ++ number_bits 11 c.id) ++ level_of_bit c.remote ∷ [] ≡ front ++ part_bits (header_of c.extended).arbitration c sent_free
base_arbitration front c e =
    append_assoc front (number_bits 11 c.id) (level_of_bit c.remote ∷ [])
    ∙ ap (λ ls. front ++ (number_bits 11 c.id ++ (ls ++ []))) (sym (rtr_spelled c.remote))
    ∙ ap (λ x. front ++ arbitration_by x c) (sym e)

extension_spelled : (id : ℕ) (remote : Bool)
    → (((number_bits 11 (id / 262144) ++ Recessive ∷ []) ++ Recessive ∷ []) ++ number_bits 18 (id % 262144)) ++ level_of_bit remote ∷ []
    ≡ number_bits 11 (id / 262144) ++ (number_bits 1 1 ++ (number_bits 1 1 ++ (number_bits 18 (id % 262144) ++ (number_bits 1 (one_bit remote) ++ []))))
unfolding number_bits
extension_spelled id true = refl
extension_spelled id false = refl

-- five lists in a row, one by one
regrouped : (front ks ls ms ns os : List Level) → ((((front ++ ks) ++ ls) ++ ms) ++ ns) ++ os ≡ front ++ ((((ks ++ ls) ++ ms) ++ ns) ++ os)
regrouped front ks ls ms ns os =
    ap (λ js. ((js ++ ms) ++ ns) ++ os) (append_assoc front ks ls)
    ∙ ap (λ js. (js ++ ns) ++ os) (append_assoc front (ks ++ ls) ms)
    ∙ ap (λ js. js ++ os) (append_assoc front ((ks ++ ls) ++ ms) ns)
    ∙ append_assoc front (((ks ++ ls) ++ ms) ++ ns) os

pub extended_arbitration : (front : List Level) (c : Content) → c.extended ≡ true
    → ((((front ++ number_bits 11 (c.id / 262144)) ++ Recessive ∷ []) ++ Recessive ∷ []) ++ number_bits 18 (c.id % 262144)) ++ level_of_bit c.remote ∷ []
    ≡ front ++ part_bits (header_of c.extended).arbitration c sent_free
extended_arbitration front c e =
    regrouped front (number_bits 11 (c.id / 262144)) (Recessive ∷ []) (Recessive ∷ []) (number_bits 18 (c.id % 262144)) (level_of_bit c.remote ∷ [])
    ∙ ap (λ ls. front ++ ls) (extension_spelled c.id c.remote)
    ∙ ap (λ x. front ++ arbitration_by x c) (sym e)

control_by : (extended : Bool) (c : Content) → Dominant ∷ Dominant ∷ number_bits 4 c.dlc ≡ part_bits (header_of extended).control c sent_free
unfolding number_bits
control_by true c = refl
control_by false c = refl

pub control_spelled : (front : List Level) (c : Content)
    → ((front ++ Dominant ∷ []) ++ Dominant ∷ []) ++ number_bits 4 c.dlc ≡ front ++ part_bits (header_of c.extended).control c sent_free
control_spelled front c =
    ap (λ ls. ls ++ number_bits 4 c.dlc) (append_assoc front (Dominant ∷ []) (Dominant ∷ []))
    ∙ append_assoc front (Dominant ∷ Dominant ∷ []) (number_bits 4 c.dlc)
    ∙ ap (λ ls. front ++ ls) (control_by c.extended c)

-- Bytes read one by one.

bytes_at_more : (ls : List Level) (from n : ℕ) → bytes_from ls from (suc n) ≡ bytes_from ls from n ++ number_from ls (from + 8 * n) 8 ∷ []
bytes_at_more ls from zero = ap (λ m. number_from ls m 8 ∷ []) (let here : from ≡ from + 8 * 0 = omega arith in here)
bytes_at_more ls from (suc n) =
    ap (λ bs. number_from ls from 8 ∷ bs) (bytes_at_more ls (from + 8) n)
    ∙ ap (λ m. number_from ls from 8 ∷ (bytes_from ls (from + 8) n ++ number_from ls m 8 ∷ [])) (let there : from + 8 + 8 * n ≡ from + 8 * suc n = omega arith in there)

pub padded_more : (ls : List Level) (from n : ℕ) → n < 8
    → set (eight_bytes (bytes_from ls from n)) n (number_from ls (from + 8 * n) 8) ≡ eight_bytes (bytes_from ls from (n + 1))
padded_more ls from n h =
    let read : List ℕ = bytes_from ls from n in
    let byte : ℕ = number_from ls (from + 8 * n) 8 in
    let long : length read ≡ n = length_bytes_at ls from n in
    let room : 8 - length read ≡ suc (8 - suc n) = omega arith in
    ap (λ k. set (read ++ replicate k 0) n byte) room
    ∙ set_at read 0 (replicate (8 - suc n) 0) byte n long
    ∙ sym (append_assoc read (byte ∷ []) (replicate (8 - suc n) 0))
    ∙ ap (λ bs. bs ++ replicate (8 - suc n) 0) (sym (bytes_at_more ls from n))
    ∙ ap (λ k. bytes_from ls from (suc n) ++ replicate (8 - k) 0) (sym (length_bytes_at ls from (suc n)))
    ∙ ap (λ m. eight_bytes (bytes_from ls from m)) (let more : suc n ≡ n + 1 = omega arith in more)
