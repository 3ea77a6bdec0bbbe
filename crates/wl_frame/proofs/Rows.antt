-- Worked examples of the stuffing, of the CRC sequence and of the fields, by computation.
use Rattle.std.proofs.Common.{◌≡◌, List, [], ◌∷◌, true, false, refl}
use Rattle.wl_level.specs.declared.Level.{Level}
use Rattle.wl_level.specs.declared.Level.TheVariants.{Dominant, Recessive}
use Rattle.wl_frame.specs.Stuffing.{destuffed_list, is_stuff}
use Rattle.wl_frame.specs.Crc.{crc_of}
use Rattle.wl_frame.specs.declared.field.FrameField.TheVariants as fields
use Rattle.wl_frame.specs.Field.{field_of, place_in, tail_field}
use Rattle.wl_frame.specs.Header.{sent_free}
use Rattle.wl_frame.specs.Grammar.{Content, bits_of, number_bits, bits_before_crc, with_crc, layout_of, is_whole, is_crc_right, content_of}

abbrev d : Level
d = Dominant

abbrev r : Level
r = Recessive

-- identifier 0, no byte: what the CRC sequence is of, its number, and the bits on the line
abbrev plain_bits : List Level
plain_bits = d ∷ d ∷ d ∷ d ∷ d ∷ d ∷ d ∷ d ∷ d ∷ d ∷ d ∷ d ∷ d ∷ d ∷ d ∷ d ∷ d ∷ d ∷ d ∷ []

plain_crc : crc_of plain_bits ≡ 0
plain_crc = refl

abbrev plain_stuffed : List Level
plain_stuffed = d ∷ d ∷ d ∷ d ∷ d ∷ r ∷ d ∷ d ∷ d ∷ d ∷ d ∷ r ∷ d ∷ d ∷ d ∷ d ∷ d ∷ r ∷ d ∷ d ∷ d ∷ d ∷ d ∷ r ∷ d ∷ d ∷ d ∷ d ∷ d ∷ r ∷ d ∷ d ∷ d ∷ d ∷ d ∷ r ∷ d ∷ d ∷ d ∷ d ∷ []

plain_destuffed : destuffed_list plain_stuffed ≡ d ∷ d ∷ d ∷ d ∷ d ∷ d ∷ d ∷ d ∷ d ∷ d ∷ d ∷ d ∷ d ∷ d ∷ d ∷ d ∷ d ∷ d ∷ d ∷ d ∷ d ∷ d ∷ d ∷ d ∷ d ∷ d ∷ d ∷ d ∷ d ∷ d ∷ d ∷ d ∷ d ∷ d ∷ []
plain_destuffed = refl

plain_closed : is_stuff plain_stuffed 40 ≡ false
plain_closed = refl

-- identifier 0, one byte 0: what the CRC sequence is of, its number, and the bits on the line
abbrev zero_byte_bits : List Level
zero_byte_bits = d ∷ d ∷ d ∷ d ∷ d ∷ d ∷ d ∷ d ∷ d ∷ d ∷ d ∷ d ∷ d ∷ d ∷ d ∷ d ∷ d ∷ d ∷ r ∷ d ∷ d ∷ d ∷ d ∷ d ∷ d ∷ d ∷ d ∷ []

zero_byte_crc : crc_of zero_byte_bits ≡ 17446
zero_byte_crc = refl

abbrev zero_byte_stuffed : List Level
zero_byte_stuffed = d ∷ d ∷ d ∷ d ∷ d ∷ r ∷ d ∷ d ∷ d ∷ d ∷ d ∷ r ∷ d ∷ d ∷ d ∷ d ∷ d ∷ r ∷ d ∷ d ∷ d ∷ r ∷ d ∷ d ∷ d ∷ d ∷ d ∷ r ∷ d ∷ d ∷ d ∷ r ∷ d ∷ d ∷ d ∷ r ∷ d ∷ d ∷ d ∷ d ∷ r ∷ d ∷ d ∷ r ∷ r ∷ d ∷ []

zero_byte_destuffed : destuffed_list zero_byte_stuffed ≡ d ∷ d ∷ d ∷ d ∷ d ∷ d ∷ d ∷ d ∷ d ∷ d ∷ d ∷ d ∷ d ∷ d ∷ d ∷ d ∷ d ∷ d ∷ r ∷ d ∷ d ∷ d ∷ d ∷ d ∷ d ∷ d ∷ d ∷ r ∷ d ∷ d ∷ d ∷ r ∷ d ∷ d ∷ d ∷ d ∷ r ∷ d ∷ d ∷ r ∷ r ∷ d ∷ []
zero_byte_destuffed = refl

zero_byte_closed : is_stuff zero_byte_stuffed 46 ≡ false
zero_byte_closed = refl

-- identifier 0x100, no byte: what the CRC sequence is of, its number, and the bits on the line
abbrev higher_bits : List Level
higher_bits = d ∷ d ∷ d ∷ r ∷ d ∷ d ∷ d ∷ d ∷ d ∷ d ∷ d ∷ d ∷ d ∷ d ∷ d ∷ d ∷ d ∷ d ∷ d ∷ []

higher_crc : crc_of higher_bits ≡ 14346
higher_crc = refl

abbrev higher_stuffed : List Level
higher_stuffed = d ∷ d ∷ d ∷ r ∷ d ∷ d ∷ d ∷ d ∷ d ∷ r ∷ d ∷ d ∷ d ∷ d ∷ d ∷ r ∷ d ∷ d ∷ d ∷ d ∷ d ∷ r ∷ d ∷ r ∷ r ∷ r ∷ d ∷ d ∷ d ∷ d ∷ d ∷ r ∷ d ∷ d ∷ r ∷ d ∷ r ∷ d ∷ []

higher_destuffed : destuffed_list higher_stuffed ≡ d ∷ d ∷ d ∷ r ∷ d ∷ d ∷ d ∷ d ∷ d ∷ d ∷ d ∷ d ∷ d ∷ d ∷ d ∷ d ∷ d ∷ d ∷ d ∷ d ∷ r ∷ r ∷ r ∷ d ∷ d ∷ d ∷ d ∷ d ∷ d ∷ d ∷ r ∷ d ∷ r ∷ d ∷ []
higher_destuffed = refl

higher_closed : is_stuff higher_stuffed 38 ≡ false
higher_closed = refl

-- identifier 0x101, no byte: what the CRC sequence is of, its number, and the bits on the line
abbrev arbitrated_id_bits : List Level
arbitrated_id_bits = d ∷ d ∷ d ∷ r ∷ d ∷ d ∷ d ∷ d ∷ d ∷ d ∷ d ∷ r ∷ d ∷ d ∷ d ∷ d ∷ d ∷ d ∷ d ∷ []

arbitrated_id_crc : crc_of arbitrated_id_bits ≡ 6681
arbitrated_id_crc = refl

abbrev arbitrated_id_stuffed : List Level
arbitrated_id_stuffed = d ∷ d ∷ d ∷ r ∷ d ∷ d ∷ d ∷ d ∷ d ∷ r ∷ d ∷ d ∷ r ∷ d ∷ d ∷ d ∷ d ∷ d ∷ r ∷ d ∷ d ∷ d ∷ d ∷ r ∷ r ∷ d ∷ r ∷ d ∷ d ∷ d ∷ d ∷ r ∷ r ∷ d ∷ d ∷ r ∷ []

arbitrated_id_destuffed : destuffed_list arbitrated_id_stuffed ≡ d ∷ d ∷ d ∷ r ∷ d ∷ d ∷ d ∷ d ∷ d ∷ d ∷ d ∷ r ∷ d ∷ d ∷ d ∷ d ∷ d ∷ d ∷ d ∷ d ∷ d ∷ r ∷ r ∷ d ∷ r ∷ d ∷ d ∷ d ∷ d ∷ r ∷ r ∷ d ∷ d ∷ r ∷ []
arbitrated_id_destuffed = refl

arbitrated_id_closed : is_stuff arbitrated_id_stuffed 36 ≡ false
arbitrated_id_closed = refl

abbrev zero_frame : Content
zero_frame = record { extended = false; id = 0; remote = false; dlc = 1; bytes = 0 ∷ [] }

spelled : bits_of zero_frame ≡ destuffed_list zero_byte_stuffed
unfolding bits_of number_bits
spelled = refl

whole : is_whole (bits_of zero_frame) ≡ true
unfolding bits_of number_bits
whole = refl

right : is_crc_right (bits_of zero_frame) ≡ true
unfolding bits_of number_bits
right = refl

read : content_of (bits_of zero_frame) ≡ zero_frame
unfolding bits_of number_bits
read = refl

abbrev arbitrated : Content
arbitrated = record { extended = false; id = 257; remote = false; dlc = 0; bytes = [] }

arbitrated_spelled : bits_of arbitrated ≡ destuffed_list arbitrated_id_stuffed
unfolding bits_of number_bits
arbitrated_spelled = refl

arbitrated_read : content_of (bits_of arbitrated) ≡ arbitrated
unfolding bits_of number_bits
arbitrated_read = refl

-- extended identifier 0, no byte: the CRC sequence is 0x4610
abbrev extended_stuffed : List Level
extended_stuffed = d ∷ d ∷ d ∷ d ∷ d ∷ r ∷ d ∷ d ∷ d ∷ d ∷ d ∷ r ∷ d ∷ d ∷ r ∷ r ∷ d ∷ d ∷ d ∷ d ∷ d ∷ r ∷ d ∷ d ∷ d ∷ d ∷ d ∷ r ∷ d ∷ d ∷ d ∷ d ∷ d ∷ r ∷ d ∷ d ∷ d ∷ d ∷ d ∷ r ∷ d ∷ d ∷ d ∷ d ∷ d ∷ r ∷ r ∷ d ∷ d ∷ d ∷ r ∷ r ∷ d ∷ d ∷ d ∷ d ∷ r ∷ d ∷ d ∷ d ∷ d ∷ []

extended_closed : is_stuff extended_stuffed 61 ≡ false
extended_closed = refl

abbrev zero_extended : Content
zero_extended = record { extended = true; id = 0; remote = false; dlc = 0; bytes = [] }

extended_crc : crc_of (bits_before_crc zero_extended sent_free) ≡ 17936
unfolding number_bits
extended_crc = refl

extended_spelled : bits_of zero_extended ≡ destuffed_list extended_stuffed
unfolding bits_of number_bits
extended_spelled = refl

extended_whole : is_whole (bits_of zero_extended) ≡ true
unfolding bits_of number_bits
extended_whole = refl

-- an identifier whose both parts are not 0, and the free bits turned over
abbrev other_extended : Content
other_extended = record { extended = true; id = 357913677; remote = true; dlc = 9; bytes = [] }

extended_read : content_of (bits_of other_extended) ≡ other_extended
unfolding bits_of number_bits
extended_read = refl

free_read : content_of (with_crc (bits_before_crc other_extended (record { srr = d; r1 = r; r0 = r }))) ≡ other_extended
unfolding number_bits
free_read = refl

extended_arbitration : (layout_of (bits_of other_extended)).arbitration ≡ 33
unfolding bits_of number_bits
extended_arbitration = refl

-- which field a bit falls on, in a base frame with one byte: the last bit before the RTR bit, that, the last of the code, the byte, the CRC sequence
base_fields : ((field_of zero_byte_bits 0 ≡ place_in fields.StartOfFrame 0) × (field_of zero_byte_bits 11 ≡ place_in fields.Identifier 10)
    × (field_of zero_byte_bits 12 ≡ place_in fields.RemoteRequest 0) × (field_of zero_byte_bits 13 ≡ place_in fields.IdentifierExtension 0)
    × (field_of zero_byte_bits 14 ≡ place_in fields.Reserved0 0) × (field_of zero_byte_bits 18 ≡ place_in fields.DataLengthCode 3)
    × (field_of zero_byte_bits 19 ≡ place_in fields.Data 0) × (field_of zero_byte_bits 26 ≡ place_in fields.Data 7)
    × (field_of zero_byte_bits 27 ≡ place_in fields.CrcSequence 0) × (field_of zero_byte_bits 41 ≡ place_in fields.CrcSequence 14))
base_fields = (refl, refl, refl, refl, refl, refl, refl, refl, refl, refl)

-- the front of an extended frame: the SRR bit, the IDE bit, the rest of the identifier, the RTR bit, the reserved bits, the code
abbrev extended_front : List Level
extended_front = d ∷ d ∷ d ∷ d ∷ d ∷ d ∷ d ∷ d ∷ d ∷ d ∷ d ∷ d ∷ r ∷ r ∷ []

extended_fields : ((field_of extended_front 11 ≡ place_in fields.Identifier 10) × (field_of extended_front 12 ≡ place_in fields.SubstituteRemoteRequest 0)
    × (field_of extended_front 13 ≡ place_in fields.IdentifierExtension 0) × (field_of extended_front 14 ≡ place_in fields.ExtendedIdentifier 0)
    × (field_of extended_front 31 ≡ place_in fields.ExtendedIdentifier 17) × (field_of extended_front 32 ≡ place_in fields.RemoteRequest 0)
    × (field_of extended_front 33 ≡ place_in fields.Reserved1 0) × (field_of extended_front 34 ≡ place_in fields.Reserved0 0)
    × (field_of extended_front 35 ≡ place_in fields.DataLengthCode 0) × (field_of extended_front 38 ≡ place_in fields.DataLengthCode 3))
extended_fields = (refl, refl, refl, refl, refl, refl, refl, refl, refl, refl)

tail_fields : ((tail_field 0 ≡ place_in fields.CrcDelimiter 0) × (tail_field 1 ≡ place_in fields.AckSlot 0) × (tail_field 2 ≡ place_in fields.AckDelimiter 0)
    × (tail_field 3 ≡ place_in fields.EndOfFrame 0) × (tail_field 9 ≡ place_in fields.EndOfFrame 6))
tail_fields = (refl, refl, refl, refl, refl)
