-- The fields of a frame by name, and on which of them a bit falls, by the table of the header's fields (Bosch CAN 2.0 part B, section 3.2.1).
use Rattle.std.specs.Prelude.{ℕ, ◌+◌, ◌-◌, nat_lt, List, [], ◌∷◌, if◌then◌else◌}
use Rattle.wl_level.specs.declared.Level.{Level}
use Rattle.wl_frame.specs.declared.field.FrameField.{FrameField}
use Rattle.wl_frame.specs.declared.field.FrameField.TheVariants as fields
use Rattle.wl_frame.specs.declared.field.FramePlace.{FramePlace}
use Rattle.wl_frame.specs.Header.{Field, Name, fields_of, is_extended}
use Rattle.wl_frame.specs.Grammar.{layout_of, covered_length}

abbrev pub place_in : FrameField → ℕ → FramePlace
place_in field bit = record { field = field; bit = bit }

-- the field of a name of the table
abbrev pub field_named : Name → FrameField
field_named Name.StartOfFrame = fields.StartOfFrame
field_named Name.Identifier = fields.Identifier
field_named Name.SubstituteRemoteRequest = fields.SubstituteRemoteRequest
field_named Name.IdentifierExtension = fields.IdentifierExtension
field_named Name.ExtendedIdentifier = fields.ExtendedIdentifier
field_named Name.RemoteRequest = fields.RemoteRequest
field_named Name.Reserved1 = fields.Reserved1
field_named Name.Reserved0 = fields.Reserved0
field_named Name.DataLengthCode = fields.DataLengthCode

-- Where bit k is in some fields, the first of them at this place. The last one has all bits from its place on.
abbrev pub field_from : ℕ → List Field → ℕ → FramePlace
field_from place [] k = place_in fields.DataLengthCode k
field_from place (f ∷ []) k = place_in (field_named f.name) (k - place)
field_from place (f ∷ g ∷ fs) k = if nat_lt k (place + f.width) then place_in (field_named f.name) (k - place) else field_from (place + f.width) (g ∷ fs) k

-- Where bit k is in a frame that begins so. A front without an IDE bit counts as that of a base frame.
abbrev pub field_of : List Level → ℕ → FramePlace
field_of bits k =
    if nat_lt k (layout_of bits).header then field_from 0 (fields_of (is_extended bits)) k
    else if nat_lt k (covered_length bits) then place_in fields.Data (k - (layout_of bits).header)
    else place_in fields.CrcSequence (k - covered_length bits)

-- where bit n of the ten after the CRC sequence is
abbrev pub tail_field : ℕ → FramePlace
tail_field n =
    if nat_lt n 1 then place_in fields.CrcDelimiter n
    else if nat_lt n 2 then place_in fields.AckSlot (n - 1)
    else if nat_lt n 3 then place_in fields.AckDelimiter (n - 2)
    else place_in fields.EndOfFrame (n - 3)
