-- The keys of a text's tables, and what their values have to be (this project's profile).
use Rattle.std.specs.Prelude.{ℕ, Bool, true, false, List, [], ◌∷◌, codes}
use Rattle.wl_setup.specs.declared.keys.Kind.TheVariants as plan_kind
use Rattle.wl_settings.specs.declared.keys.Key.{Key}
use Rattle.wl_settings.specs.declared.keys.Key.TheVariants.{Version, Bitrate, Cable, Per, Out, In, Tolerance, Senders, Controller, RateError, SamplePoint, Nodes, Name, Clock, Kind, Prescaler, Prop, Ps1, Ps2, Sjw, Tseg1, Tseg2, WideSjw, SjwFree}
use Rattle.wl_settings.specs.declared.keys.ValueKind.{ValueKind}
use Rattle.wl_settings.specs.declared.keys.ValueKind.TheVariants as kind

-- a key as it is written
abbrev pub key_word : Key → List ℕ
key_word Version = codes "version"
key_word Bitrate = codes "bitrate"
key_word Cable = codes "cable"
key_word Per = codes "per"
key_word Out = codes "out"
key_word In = codes "in"
key_word Tolerance = codes "tolerance"
key_word Senders = codes "senders"
key_word Controller = codes "controller"
key_word RateError = codes "rate_error"
key_word SamplePoint = codes "sample_point"
key_word Nodes = codes "nodes"
key_word Name = codes "name"
key_word Clock = codes "clock"
key_word Kind = codes "kind"
key_word Prescaler = codes "prescaler"
key_word Prop = codes "prop"
key_word Ps1 = codes "ps1"
key_word Ps2 = codes "ps2"
key_word Sjw = codes "sjw"
key_word Tseg1 = codes "tseg1"
key_word Tseg2 = codes "tseg2"
key_word WideSjw = codes "sjw"
key_word SjwFree = codes "sjw_above_ps2"

-- what its value has to be
abbrev pub value_kind : Key → ValueKind
value_kind Version = kind.Within 4 4
value_kind Bitrate = kind.Within 1 1000000
value_kind Cable = kind.Within 1 1048576
value_kind Per = kind.Within 1 1048576
value_kind Out = kind.Within 0 1048576
value_kind In = kind.Within 0 1048576
value_kind Tolerance = kind.Within 0 100000
value_kind RateError = kind.Within 0 100000
value_kind Nodes = kind.Within 2 64
value_kind Senders = kind.Senders
value_kind SamplePoint = kind.Sample
value_kind Controller = kind.OfPlan plan_kind.Tables
value_kind Name = kind.OfPlan plan_kind.Name
value_kind Clock = kind.Within 1 1000000000
value_kind Kind = kind.Named
value_kind Prescaler = kind.Within 1 1024
value_kind Prop = kind.Within 1 8
value_kind Ps1 = kind.Within 1 8
value_kind Ps2 = kind.Within 1 8
value_kind Sjw = kind.Within 1 4
value_kind Tseg1 = kind.Within 2 256
value_kind Tseg2 = kind.Within 2 128
value_kind WideSjw = kind.Within 1 128
value_kind SjwFree = kind.OfPlan plan_kind.Truth

-- the keys of the top table and of a controller's, in the order in which they are tested
abbrev pub bus_required : List Key
bus_required = Bitrate ∷ Cable ∷ Per ∷ Out ∷ In ∷ Tolerance ∷ Senders ∷ Controller ∷ []

-- a text of controllers whose PROP_SEG and PHASE_SEG1 are one length says its version
abbrev pub bus_optional : Bool → List Key
bus_optional false = RateError ∷ SamplePoint ∷ Nodes ∷ []
bus_optional true = Version ∷ RateError ∷ SamplePoint ∷ Nodes ∷ []

abbrev pub controller_required : List Key
controller_required = Name ∷ Clock ∷ []

abbrev pub controller_optional : Bool → List Key
controller_optional false = Prescaler ∷ Prop ∷ Ps1 ∷ Ps2 ∷ Sjw ∷ SjwFree ∷ []
controller_optional true = Kind ∷ Prescaler ∷ Tseg1 ∷ Tseg2 ∷ WideSjw ∷ []
