-- The keys of a plan's tables (this project's profile).
use Rattle.std.specs.Prelude.{ℕ, Bool, true, false, List, [], ◌∷◌, codes}
use Rattle.wl_setup.specs.declared.keys.Key.{Key}
use Rattle.wl_setup.specs.declared.keys.Key.TheVariants.{Version, End, Per, Node, Disturbance, Sync, Name, Offset, Num, Den, Quantum, Ppm, Rates, Prop, Ps1, Ps2, Tseg1, Tseg2, Sjw, X, Out, In, Frame, Id, Dlc, Remote, Bytes, Ready, Extended, From, To, Tolerance, Every, Count, Listen, AtNode, Tick, Unit, Controllers, Controller, OfKind, Clock, Prescaler, BitRate, Queue, Until, Cycle, At, Deadline, Jitter, Noise}
use Rattle.wl_setup.specs.declared.keys.Kind.{Kind}
use Rattle.wl_setup.specs.declared.keys.Kind.TheVariants as kind

-- a key as it is written
abbrev pub key_text : Key → List ℕ
key_text Version = codes "version"
key_text End = codes "end"
key_text Per = codes "per"
key_text Node = codes "node"
key_text Disturbance = codes "disturbance"
key_text Sync = codes "sync"
key_text Name = codes "name"
key_text Offset = codes "offset"
key_text Num = codes "num"
key_text Den = codes "den"
key_text Quantum = codes "quantum"
key_text Ppm = codes "ppm"
key_text Rates = codes "rates"
key_text Prop = codes "prop"
key_text Ps1 = codes "ps1"
key_text Ps2 = codes "ps2"
key_text Tseg1 = codes "tseg1"
key_text Tseg2 = codes "tseg2"
key_text Sjw = codes "sjw"
key_text X = codes "x"
key_text Out = codes "out"
key_text In = codes "in"
key_text Frame = codes "frame"
key_text Id = codes "id"
key_text Dlc = codes "dlc"
key_text Remote = codes "remote"
key_text Bytes = codes "bytes"
key_text Ready = codes "ready"
key_text Extended = codes "extended"
key_text From = codes "from"
key_text To = codes "to"
key_text Tolerance = codes "tolerance"
key_text Every = codes "every"
key_text Count = codes "count"
key_text Listen = codes "listen"
key_text AtNode = codes "node"
key_text Tick = codes "tick"
key_text Unit = codes "unit"
key_text Controllers = codes "controller"
key_text Controller = codes "controller"
key_text OfKind = codes "kind"
key_text Clock = codes "clock"
key_text Prescaler = codes "prescaler"
key_text BitRate = codes "bitrate"
key_text Queue = codes "queue"
key_text Until = codes "until"
key_text Cycle = codes "cycle"
key_text At = codes "at"
key_text Deadline = codes "deadline"
key_text Jitter = codes "jitter"
key_text Noise = codes "noise"

-- what its value has to be
abbrev pub kind_of : Key → Kind
kind_of Node = kind.Tables
kind_of Rates = kind.Tables
kind_of Frame = kind.Tables
kind_of Disturbance = kind.Tables
kind_of X = kind.Small
kind_of Id = kind.Small
kind_of Dlc = kind.Small
kind_of Name = kind.Name
kind_of Ppm = kind.Ppm
kind_of Remote = kind.Truth
kind_of Extended = kind.Truth
kind_of Bytes = kind.Bytes
kind_of Sync = kind.Sync
kind_of Tolerance = kind.Tolerance
kind_of Every = kind.Positive
kind_of Count = kind.Positive
kind_of Listen = kind.Truth
kind_of AtNode = kind.Name
kind_of Tick = kind.Tick
kind_of Unit = kind.Unit
kind_of Controllers = kind.Named
kind_of Controller = kind.Filled
kind_of OfKind = kind.Filled
kind_of Clock = kind.Filled
kind_of Prescaler = kind.Positive
kind_of BitRate = kind.Filled
kind_of Queue = kind.Queue
kind_of Cycle = kind.Filled
kind_of At = kind.Filled
kind_of Noise = kind.Filled
kind_of _ = kind.Number

-- the keys of a table, in the order in which they are tested
pub record TableKeys : Type 0 where
  pub required : List Key
  pub optional : List Key

-- of the top table: the length of a tick where a time has a unit, and in the version of controllers more
abbrev pub top_required : Bool → List Key
top_required false = Version ∷ End ∷ Per ∷ Node ∷ []
top_required true = Version ∷ Tick ∷ End ∷ Per ∷ Node ∷ []

abbrev pub top_optional : Bool → List Key
top_optional false = Disturbance ∷ Sync ∷ []
top_optional true = Disturbance ∷ Sync ∷ Tick ∷ Unit ∷ Controllers ∷ Noise ∷ []

-- of a controller that nodes name
abbrev pub controller_keys : TableKeys
controller_keys = record {
  required = [];
  optional = OfKind ∷ Clock ∷ Prescaler ∷ BitRate ∷ Ppm ∷ Prop ∷ Ps1 ∷ Ps2 ∷ Tseg1 ∷ Tseg2 ∷ Sjw ∷ Out ∷ In ∷ Tolerance ∷ Queue ∷ [];
}

-- the required keys of a node after those of its clock: of its segments, each by itself or a controller's, and of its place
abbrev pub required_after_clock : Bool → List Key
required_after_clock false = Prop ∷ Ps1 ∷ Ps2 ∷ Sjw ∷ X ∷ Out ∷ In ∷ []
required_after_clock true = Tseg1 ∷ Tseg2 ∷ Sjw ∷ X ∷ Out ∷ In ∷ []

-- the required keys of a node whose rate is written as a fraction
abbrev pub required_by_rate : Bool → List Key
required_by_rate tseg = Name ∷ Offset ∷ Num ∷ Den ∷ required_after_clock tseg

-- of one whose rate is written as a whole number of ticks and an error in parts per million
abbrev pub required_by_ppm : Bool → List Key
required_by_ppm tseg = Name ∷ Offset ∷ Quantum ∷ Ppm ∷ required_after_clock tseg

-- of one whose rates are tables of their own
abbrev pub required_by_rates : Bool → List Key
required_by_rates tseg = Name ∷ Offset ∷ Rates ∷ required_after_clock tseg

-- of one whose rate is written as the frequency of a clock, with a prescaler or with a bit rate
abbrev pub prescaler_or : Bool → Key
prescaler_or false = Prescaler
prescaler_or true = BitRate

abbrev pub required_by_clock : Bool → Bool → List Key
required_by_clock by_rate tseg = Name ∷ Offset ∷ Clock ∷ prescaler_or by_rate ∷ required_after_clock tseg

-- the optional keys of a node; from the version of traffic on it may only listen
abbrev pub node_optional : Bool → List Key
node_optional false = Frame ∷ Tolerance ∷ []
node_optional true = Frame ∷ Tolerance ∷ Listen ∷ []

-- in the version of controllers, where a deviation may be beside a fraction
abbrev pub wide_node_optional : Bool → List Key
wide_node_optional false = Frame ∷ Tolerance ∷ Listen ∷ Queue ∷ Until ∷ Controller ∷ OfKind ∷ []
wide_node_optional true = Frame ∷ Tolerance ∷ Listen ∷ Ppm ∷ Queue ∷ Until ∷ Controller ∷ OfKind ∷ BitRate ∷ []

-- of a rate that is written as a fraction, and of one that is a whole number of ticks and an error in parts per million
abbrev pub rate_keys_by_fraction : TableKeys
rate_keys_by_fraction = record { required = From ∷ Num ∷ Den ∷ []; optional = [] }

abbrev pub rate_keys_by_ppm : TableKeys
rate_keys_by_ppm = record { required = From ∷ Quantum ∷ Ppm ∷ []; optional = [] }

-- of a frame; from the version of traffic on it may come again, and one with a count does
abbrev pub frame_required : Bool → List Key
frame_required false = Id ∷ Dlc ∷ []
frame_required true = Id ∷ Dlc ∷ Every ∷ []

abbrev pub frame_optional : Bool → List Key
frame_optional false = Remote ∷ Bytes ∷ Ready ∷ Extended ∷ []
frame_optional true = Remote ∷ Bytes ∷ Ready ∷ Extended ∷ Every ∷ Count ∷ []

abbrev pub wide_frame_optional : List Key
wide_frame_optional =
    Remote ∷ Bytes ∷ Ready ∷ Extended ∷ Every ∷ Count ∷ Cycle ∷ At ∷ Deadline ∷ Jitter ∷ []

-- of a disturbance at a place on the cable, and of one at a node
abbrev pub disturbance_required : Bool → List Key
disturbance_required false = X ∷ From ∷ To ∷ []
disturbance_required true = AtNode ∷ From ∷ To ∷ []

abbrev pub table_keys : List Key → List Key → TableKeys
table_keys required optional = record { required = required; optional = optional }
