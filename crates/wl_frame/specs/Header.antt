-- The header of a frame, from its start to its data length code, as a table of fields.
use Rattle.std.specs.Prelude.{ℕ, zero, suc, ◌+◌, ◌/◌, ◌%◌, ◌^◌, ◌==◌, Bool, true, false, List, [], ◌∷◌, ◌++◌, take, drop, map, if◌then◌else◌}
use Rattle.std.specs.Int.{bit_at}
use Rattle.wl_level.specs.declared.Level.{Level}
use Rattle.wl_level.specs.declared.Level.TheVariants.{Dominant, Recessive}
use Rattle.wl_frame.specs.Crc.{bit_of_level, level_of_bit, number_of}

-- what a frame carries, with an identifier of 11 bits or, extended, of 29; Bosch CAN 2.0 part B, section 3.2.1
pub record Content : Type 0 where
  pub extended : Bool
  pub id : ℕ
  pub remote : Bool
  pub dlc : ℕ
  pub bytes : List ℕ

-- the bits that carry nothing; Bosch CAN 2.0 part B, section 3.2.1, and of the SRR bit this project's profile
pub record Free : Type 0 where
  pub srr : Level
  pub r1 : Level
  pub r0 : Level

-- as they are sent; Bosch CAN 2.0 part B, section 3.2.1
abbrev pub sent_free : Free
sent_free = record { srr = Recessive; r1 = Dominant; r0 = Dominant }

-- the fields by name; Bosch CAN 2.0 part B, section 3.2.1
pub data Name : Type 0 where
  StartOfFrame : Name
  Identifier : Name
  SubstituteRemoteRequest : Name
  IdentifierExtension : Name
  ExtendedIdentifier : Name
  RemoteRequest : Name
  Reserved1 : Name
  Reserved0 : Name
  DataLengthCode : Name

-- a field: its name, its number of bits, and the number that they spell; Bosch CAN 2.0 part B, section 3.2.1
pub record Field : Type 0 where
  pub name : Name
  pub width : ℕ
  pub value : Content → Free → ℕ

-- a header: the start of frame, the arbitration field and the control field; Bosch CAN 2.0 part B, section 3.2.1
pub record Header : Type 0 where
  pub start : List Field
  pub arbitration : List Field
  pub control : List Field

abbrev pub field : Name → ℕ → (Content → Free → ℕ) → Field
field name width value = record { name = name; width = width; value = value }

-- a bit as a number; Bosch CAN 2.0 part B, section 3.2.1
abbrev pub one_bit : Bool → ℕ
one_bit true = 1
one_bit false = 0

-- the standard format; Bosch CAN 2.0 part B, section 3.2.1
abbrev pub base_header : Header
base_header = record {
  start = field StartOfFrame 1 (λ c free. 0) ∷ [];
  arbitration =
      field Identifier 11 (λ c free. c.id)
      ∷ field RemoteRequest 1 (λ c free. one_bit c.remote) ∷ [];
  control =
      field IdentifierExtension 1 (λ c free. 0)
      ∷ field Reserved0 1 (λ c free. one_bit (bit_of_level free.r0))
      ∷ field DataLengthCode 4 (λ c free. c.dlc) ∷ [];
}

-- the extended format; Bosch CAN 2.0 part B, section 3.2.1
abbrev pub extended_header : Header
extended_header = record {
  start = field StartOfFrame 1 (λ c free. 0) ∷ [];
  arbitration =
      field Identifier 11 (λ c free. c.id / 2 ^ 18)
      ∷ field SubstituteRemoteRequest 1 (λ c free. one_bit (bit_of_level free.srr))
      ∷ field IdentifierExtension 1 (λ c free. 1)
      ∷ field ExtendedIdentifier 18 (λ c free. c.id % 2 ^ 18)
      ∷ field RemoteRequest 1 (λ c free. one_bit c.remote) ∷ [];
  control =
      field Reserved1 1 (λ c free. one_bit (bit_of_level free.r1))
      ∷ field Reserved0 1 (λ c free. one_bit (bit_of_level free.r0))
      ∷ field DataLengthCode 4 (λ c free. c.dlc) ∷ [];
}

-- the header of a frame of this format; Bosch CAN 2.0 part B, section 3.2.1
abbrev pub header_of : Bool → Header
header_of true = extended_header
header_of false = base_header

abbrev pub fields_of : Bool → List Field
fields_of extended = (header_of extended).start ++ (header_of extended).arbitration ++ (header_of extended).control

-- how many bits fields have; Bosch CAN 2.0 part B, section 3.2.1
abbrev pub width_of : List Field → ℕ
width_of [] = 0
width_of (f ∷ fs) = f.width + width_of fs

-- the k low bits of a number, the most significant first; Bosch CAN 2.0 part B, section 3.2.1
unfoldable pub number_bits : ℕ → ℕ → List Level
number_bits zero n = []
number_bits (suc k) n = level_of_bit (bit_at n k == 1) ∷ number_bits k n

-- fields that spell these numbers; Bosch CAN 2.0 part B, section 3.2.1
abbrev pub field_bits : List Field → List ℕ → List Level
field_bits [] values = []
field_bits (f ∷ fs) [] = []
field_bits (f ∷ fs) (n ∷ values) = number_bits f.width n ++ field_bits fs values

-- what fields spell in a frame with these free bits; Bosch CAN 2.0 part B, section 3.2.1
abbrev pub part_bits : List Field → Content → Free → List Level
part_bits fields c free = field_bits fields (map (λ f. f.value c free) fields)

-- the arbitration field of a frame with these free bits; Bosch CAN 2.0 part B, section 3.2.1
abbrev pub arbitration_bits : Content → Free → List Level
arbitration_bits c free = part_bits (header_of c.extended).arbitration c free

-- its control field; Bosch CAN 2.0 part B, section 3.2.1
abbrev pub control_bits : Content → Free → List Level
control_bits c free = part_bits (header_of c.extended).control c free

-- the header of a frame with these free bits; Bosch CAN 2.0 part B, section 3.2.1
abbrev pub header_bits : Content → Free → List Level
header_bits c free = part_bits (fields_of c.extended) c free

-- The same by places, which is all that one who reads a front of a frame has: the number that stands in so many bits from a place on.
-- Bosch CAN 2.0 part B, section 3.2.1
abbrev pub number_from : List Level → ℕ → ℕ → ℕ
number_from bits from count = number_of (map bit_of_level (take count (drop from bits)))

-- which name; each has its own number
abbrev pub name_number : Name → ℕ
name_number StartOfFrame = 0
name_number Identifier = 1
name_number SubstituteRemoteRequest = 2
name_number IdentifierExtension = 3
name_number ExtendedIdentifier = 4
name_number RemoteRequest = 5
name_number Reserved1 = 6
name_number Reserved0 = 7
name_number DataLengthCode = 8

-- where the field of a name stands, if the first field stands at this place; Bosch CAN 2.0 part B, section 3.2.1
abbrev pub place_from : ℕ → Name → List Field → ℕ
place_from place name [] = place
place_from place name (f ∷ fs) = if name_number name == name_number f.name then place else place_from (place + f.width) name fs

-- how many bits the field of a name has; Bosch CAN 2.0 part B, section 3.2.1
abbrev pub bits_in : Name → List Field → ℕ
bits_in name [] = 0
bits_in name (f ∷ fs) = if name_number name == name_number f.name then f.width else bits_in name fs

abbrev pub place_of_field : Name → Bool → ℕ
place_of_field name extended = place_from 0 name (fields_of extended)

-- the number in the field of a name; Bosch CAN 2.0 part B, section 3.2.1
abbrev pub value_in : Name → Bool → List Level → ℕ
value_in name extended bits = number_from bits (place_of_field name extended) (bits_in name (fields_of extended))

-- The IDE bit, which has the same place in either format, decides: it is recessive in an extended frame. A front that has no such bit
-- yet counts as that of a base frame. Bosch CAN 2.0 part B, section 3.2.1
abbrev pub is_extended : List Level → Bool
is_extended bits = value_in IdentifierExtension false bits == 1
