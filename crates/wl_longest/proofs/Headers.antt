-- The header of a frame: its length, and what comes after it.
use Rattle.std.proofs.Common.{◌≡◌, ◌∙◌, refl, ap, ℕ, zero, suc, ◌+◌, ◌*◌, ◌≤◌, map, List, [], ◌∷◌, ◌++◌, length, Bool, true, false, arith, length-append, append_assoc}
use Rattle.std.proofs.lemmas.Bool.{eqb-true}
use Rattle.std.specs.List.{flat_map}
use Rattle.wl_level.specs.declared.Level.{Level}
use Rattle.wl_frame.specs.Crc.{crc_bits, crc_length, level_of_bit}
use Rattle.wl_frame.specs.Header.{Field, field_bits, fields_of, header_bits, number_bits, sent_free, width_of}
use Rattle.wl_frame.specs.Grammar.{Content, IsContent, IsReadAs, bits_before_crc, bits_of, byte_count, covered_length}
use Rattle.wl_frame.specs.Stuffing.{Stuffs}
use Rattle.wl_frame.proofs.Callers.{frame_is_read, sent_whole}
use Rattle.wl_longest.specs.Longest.{ending_from, free_bits, head_ending, longest_frame, most_stuffed, no_ending, sent_header}
use Rattle.wl_longest.proofs.Walked.{ending_joined, stuffed_length}
use Rattle.wl_longest.proofs.Counted.{most_of_all, most_of_some}

number_length : (k n : ℕ) → length (number_bits k n) ≡ k
unfolding number_bits
number_length zero n = refl
number_length (suc k) n = ap suc (number_length k n)

-- how long a header is
abbrev pub header_width : Bool → ℕ
header_width extended = width_of (fields_of extended)

part_length : (fields : List Field) (values : List ℕ) → length values ≡ length fields → length (field_bits fields values) ≡ width_of fields
part_length [] values e = refl
part_length (f ∷ fs) [] e = cc
part_length (f ∷ fs) (n ∷ values) e =
    length-append (number_bits f.width n) (field_bits fs values)
    ∙ ap (λ k. k + length (field_bits fs values)) (number_length f.width n)
    ∙ ap (λ k. f.width + k) (part_length fs values (omega (arith, e)))

-- the numbers that a header spells
abbrev values : (extended : Bool) (id : ℕ) (remote : Bool) (dlc : ℕ) → List ℕ
values extended id remote dlc =
    map (λ f. f.value (record { extended = extended; id = id; remote = remote; dlc = dlc; bytes = [] }) sent_free) (fields_of extended)

pub header_length : (extended : Bool) (id : ℕ) (remote : Bool) (dlc : ℕ) → length (sent_header extended id remote dlc) ≡ header_width extended
header_length true id remote dlc = part_length (fields_of true) (values true id remote dlc) refl
header_length false id remote dlc = part_length (fields_of false) (values false id remote dlc) refl

-- the bytes of a frame are not in its header
same_header : (extended : Bool) (id : ℕ) (remote : Bool) (dlc : ℕ) (bytes : List ℕ)
    → header_bits (record { extended = extended; id = id; remote = remote; dlc = dlc; bytes = bytes }) sent_free ≡ sent_header extended id remote dlc
same_header true id remote dlc bytes = refl
same_header false id remote dlc bytes = refl

-- what comes after the header
abbrev pub rest_of : Content → List Level
rest_of c = flat_map (number_bits 8) c.bytes ++ map level_of_bit (crc_bits (bits_before_crc c sent_free))

pub two_parts : (c : Content) → bits_of c ≡ sent_header c.extended c.id c.remote c.dlc ++ rest_of c
unfolding bits_of
two_parts c =
    append_assoc (header_bits c sent_free) (flat_map (number_bits 8) c.bytes) (map level_of_bit (crc_bits (bits_before_crc c sent_free)))
    ∙ ap (λ ls. ls ++ rest_of c) (same_header c.extended c.id c.remote c.dlc c.bytes)

-- how long a frame is without stuff bits
read_back : (c : Content) → IsContent c → IsReadAs (bits_of c) c
unfolding bits_of
read_back c is = (frame_is_read (bits_of c) c).0 (is, sent_free, refl)

plain_length : (c : Content) → IsContent c → length (bits_of c) ≡ header_width c.extended + 8 * byte_count c.remote c.dlc + crc_length
plain_length c is =
    let whole = eqb-true (length (bits_of c)) (covered_length (bits_of c) + crc_length) (sent_whole c is) in
    let covers : covered_length (bits_of c) ≡ header_width c.extended + 8 * byte_count c.remote c.dlc =
    ap (λ (d : Content). header_width d.extended + 8 * byte_count d.remote d.dlc) (read_back c is).content
    in
    whole ∙ ap (λ n. n + crc_length) covers

pub rest_length : (c : Content) → IsContent c → length (rest_of c) ≡ free_bits c.remote c.dlc
rest_length c is =
    let both = ap length (two_parts c) ∙ length-append (sent_header c.extended c.id c.remote c.dlc) (rest_of c) in
    omega (arith, both, header_length c.extended c.id c.remote c.dlc, plain_length c is)

pub no_longer : (c : Content) (y : List Level) → IsContent c → Stuffs y (bits_of c) → length y ≤ longest_frame c.extended c.id c.remote c.dlc
unfolding longest_frame head_ending
no_longer c y is s =
    let head = sent_header c.extended c.id c.remote c.dlc in
    let all = stuffed_length (bits_of c) y s in
    let both : length (bits_of c) ≡ length head + length (rest_of c) = ap length (two_parts c) ∙ length-append head (rest_of c) in
    let split : ending_from no_ending (bits_of c) ≡ ending_from (ending_from no_ending head) (rest_of c) = ap (ending_from no_ending) (two_parts c) ∙ ending_joined no_ending head (rest_of c) in
    let few = most_of_all (ending_from no_ending head) (rest_of c) in
    let same_few = ap (λ n. most_stuffed (ending_from no_ending head) n) (rest_length c is) in
    omega (arith, all, both, ap (λ e. e.stuffed) split, few, same_few, rest_length c is)

pub as_long : (extended : Bool) (id : ℕ) (remote : Bool) (dlc : ℕ) → (more : List Level) × (length more ≡ free_bits remote dlc)
    × ((y : List Level) → Stuffs y (sent_header extended id remote dlc ++ more) → length y ≡ longest_frame extended id remote dlc)
unfolding longest_frame head_ending
as_long extended id remote dlc =
    let head = sent_header extended id remote dlc in
    let (more, long, many) = most_of_some (ending_from no_ending head) (free_bits remote dlc) in (
      more,
      long,
      λ y s.
          let all = stuffed_length (head ++ more) y s in
          omega (arith, all, length-append head more, long, ap (λ e. e.stuffed) (ending_joined no_ending head more), many),
    )

-- the greatest length by its parts
pub longest_is : (extended : Bool) (id : ℕ) (remote : Bool) (dlc head free most : ℕ) → head ≡ header_width extended → free ≡ free_bits remote dlc
    → most ≡ most_stuffed (head_ending extended id remote dlc) free → head + free + most ≡ longest_frame extended id remote dlc
unfolding longest_frame
longest_is extended id remote dlc head free most h f m =
    let long = ap (λ n. most_stuffed (head_ending extended id remote dlc) n) f in
    omega (arith, header_length extended id remote dlc, h, f, m, long)
