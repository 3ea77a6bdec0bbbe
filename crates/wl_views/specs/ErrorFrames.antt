-- The log of can-utils with error frames, as Linux has them (linux/can/error.h): errors that nodes find, and their modes. `candump -L` writes such a frame under its class
-- with the flag 0x20000000 as 8 digits, and has 8 bytes.
use Rattle.std.specs.Prelude.{ℕ, ◌+◌, nat_lt, min, Bool, List, [], ◌++◌, codes, if◌then◌else◌, None, Some}
use Rattle.std.specs.List.{filter, flat_map}
use Rattle.wl_confine.specs.Counts.{Counts, mode_of}
use Rattle.wl_confine.specs.declared.ErrorKind.{ErrorKind}
use Rattle.wl_confine.specs.declared.ErrorKind.TheVariants.{Bit, Stuff, Form, Crc, Ack}
use Rattle.wl_confine.specs.declared.Mode.{Mode}
use Rattle.wl_confine.specs.declared.Mode.TheVariants.{Active, Passive, Off}
use Rattle.wl_frame.specs.declared.field.FrameField.{FrameField}
use Rattle.wl_frame.specs.declared.field.FrameField.TheVariants as fields
use Rattle.wl_frame.specs.declared.field.FramePlace.{FramePlace}
use Rattle.wl_level.specs.ByTick.{by_tick}
use Rattle.wl_plan.specs.declared.plan.Plan.{Plan}
use Rattle.wl_trace.specs.declared.event.NodeEvent.{NodeEvent}
use Rattle.wl_trace.specs.declared.event.NodeEvent.TheVariants as events
use Rattle.wl_trace.specs.declared.event.Noted.{Noted}
use Rattle.wl_views.specs.declared.pick.EventKind.TheVariants as kinds
use Rattle.wl_views.specs.declared.pick.Pick.{Pick}
use Rattle.wl_views.specs.declared.tick.Tick.{Tick}
use Rattle.wl_views.specs.declared.window.Window.{Window}
use Rattle.wl_views.specs.Candump.{log_line, time_word}
use Rattle.wl_views.specs.Digits.{digits_of}
use Rattle.wl_views.specs.Picks.{is_picked}
use Rattle.wl_views.specs.Ticks.{microseconds}
use Rattle.wl_views.specs.TraceText.{all_told}

-- where in a frame (CAN_ERR_PROT_LOC_..): the first 8 bits of an identifier and its last 3, of an identifier extension the first 5, the next 8 and the last 5. The
-- delimiter of a flag is that of the SJA1000's error code capture (data sheet, section 6.4.9).
abbrev pub location_by : FrameField → (bit : ℕ) → ℕ
location_by fields.StartOfFrame bit = 3
location_by fields.Identifier bit = if nat_lt bit 8 then 2 else 6
location_by fields.SubstituteRemoteRequest bit = 4
location_by fields.IdentifierExtension bit = 5
location_by fields.ExtendedIdentifier bit = if nat_lt bit 5 then 7 else (if nat_lt bit 13 then 15 else 14)
location_by fields.RemoteRequest bit = 12
location_by fields.Reserved1 bit = 13
location_by fields.Reserved0 bit = 9
location_by fields.DataLengthCode bit = 11
location_by fields.Data bit = 10
location_by fields.CrcSequence bit = 8
location_by fields.CrcDelimiter bit = 24
location_by fields.AckSlot bit = 25
location_by fields.AckDelimiter bit = 27
location_by fields.EndOfFrame bit = 26
location_by fields.FlagDelimiter bit = 23

-- what is wrong (CAN_ERR_PROT_BIT, _STUFF, _FORM); a CRC error and a missing acknowledgement are known by their places
abbrev pub kind_code : ErrorKind → ℕ
kind_code Bit = 1
kind_code Stuff = 4
kind_code Form = 2
kind_code Crc = 0
kind_code Ack = 0

-- with CAN_ERR_PROT_TX of a transmitter
abbrev pub type_code : ErrorKind → (sends : Bool) → ℕ
type_code kind sends = kind_code kind + (if sends then 128 else 0)

-- CAN_ERR_PROT and CAN_ERR_BUSERROR, and of a missing acknowledgement CAN_ERR_ACK
abbrev pub class_word : ErrorKind → List ℕ
class_word Bit = codes "20000088#0000"
class_word Stuff = codes "20000088#0000"
class_word Form = codes "20000088#0000"
class_word Crc = codes "20000088#0000"
class_word Ack = codes "200000A8#0000"

abbrev pub error_frame_words : ErrorKind → (sends : Bool) → FramePlace → List ℕ
error_frame_words kind sends place =
    class_word kind ++ digits_of 16 2 (type_code kind sends) ++ digits_of 16 2 (location_by place.field place.bit) ++ codes "00000000\n"

-- which counters are passive (CAN_ERR_CRTL_TX_PASSIVE, CAN_ERR_CRTL_RX_PASSIVE)
abbrev pub passive_code : Counts → ℕ
passive_code counts = (if nat_lt 127 counts.tec then 32 else 0) + (if nat_lt 127 counts.rec then 16 else 0)

-- CAN_ERR_CRTL with CAN_ERR_CNT: a status (CAN_ERR_CRTL_ACTIVE, or the one above) and both counters
abbrev pub status_words : (status : ℕ) → Counts → List ℕ
status_words status counts =
    codes "20000204#00" ++ digits_of 16 2 status ++ codes "00000000" ++ digits_of 16 2 (min counts.tec 255) ++ digits_of 16 2 (min counts.rec 255) ++ codes "\n"

-- CAN_ERR_BUSOFF
abbrev pub off_words : List ℕ
off_words = codes "20000040#0000000000000000\n"

abbrev pub mode_words : Mode → Counts → List ℕ
mode_words Active counts = status_words 64 counts
mode_words Passive counts = status_words (passive_code counts) counts
mode_words Off counts = off_words

-- when, and on which interface
abbrev pub log_start : Tick → ℕ → ℕ → List ℕ
log_start tick from t = codes "(" ++ time_word from (microseconds tick t) ++ codes ") can0 "

-- the line of an event, if it has one: that of a frame that was sent as in the log without error frames
abbrev pub event_line : Tick → ℕ → ℕ → NodeEvent → List ℕ
event_line tick from t (events.ArbitrationLost place) = []
event_line tick from t (events.Error kind sends stuff place) = log_start tick from t ++ error_frame_words kind sends place
event_line tick from t (events.Flag form) = []
event_line tick from t (events.Sent frame) = log_line tick from (t, frame)
event_line tick from t (events.Received frame) = []
event_line tick from t (events.ModeChanged counts) = log_start tick from t ++ mode_words (mode_of counts) counts
event_line tick from t events.HardSynchronised = []
event_line tick from t (events.Resynchronised error) = []

abbrev pub logged_line : Tick → ℕ → ℕ × (ℕ × Noted) → List ℕ
logged_line tick from (t, (i, n)) = event_line tick from t n.event

-- what a log has of a window
abbrev pub logged : Window → Pick
logged window = record { window = window; node = None; only = Some kinds.Logged }

-- frames that were sent, errors and modes, tick by tick; those of one tick node by node
abbrev pub error_log : Tick → ℕ → Window → Plan → List ℕ
error_log tick from window plan = flat_map (logged_line tick from) (filter (is_picked (logged window)) (by_tick plan.end (all_told plan)))
