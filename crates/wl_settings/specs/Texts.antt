-- What a text asks for (this project's profile).
use Rattle.std.specs.Prelude.{◌≡◌, ◌≢◌, ℕ, min, Bool, true, false, List, map, Option, Some, None, Result, Ok, Err, MatchResult}
use Rattle.wl_device.specs.declared.bounded.Ended.{Ended}
use Rattle.wl_device.specs.declared.bounded.Ended.TheVariants as ended
use Rattle.wl_device.specs.Devices.{Answer}
use Rattle.wl_device.specs.Bounded.{ReadsUpTo}
use Rattle.toml.specs.Data.{Data, Members}
use Rattle.wl_setup.specs.Document.{tables_in}
use Rattle.wl_setup.specs.Faults.{first_some}
use Rattle.wl_setup.specs.Limits.{most_bytes}
use Rattle.wl_setup.specs.Reading.{document_of}
use Rattle.wl_settings.specs.declared.asked.Asked.{Asked}
use Rattle.wl_settings.specs.declared.asked.Bounds.{Bounds}
use Rattle.wl_settings.specs.declared.asked.Controller.{Controller}
use Rattle.wl_settings.specs.declared.fault.SettingsFault.{SettingsFault}
use Rattle.wl_settings.specs.declared.fault.SettingsFault.TheVariants as fault
use Rattle.wl_settings.specs.declared.keys.Key.TheVariants as key
use Rattle.wl_settings.specs.declared.parts.Parts.{Parts}
use Rattle.wl_settings.specs.declared.parts.Parts.TheVariants.{Each, Joint}
use Rattle.wl_settings.specs.declared.read.Wanted.{Wanted}
use Rattle.wl_settings.specs.Faults.{AnswersFault, controller_fault, wanted_fault}
use Rattle.wl_settings.specs.Kinds.{bounds_at, flag_at, has_joint_parts, values_at, name_in_table, whole_at, wished_sample_at, segment_at, senders_at}

-- what a controller can be set to: if a key is absent, as much as the format allows
abbrev pub single_bounds_of : Members → Bounds
single_bounds_of table = record {
  prescaler = whole_at key.Prescaler 1024 table;
  parts = Each (segment_at key.Prop 8 table) (segment_at key.Ps1 8 table) (segment_at key.Ps2 8 table);
  sjw = segment_at key.Sjw 4 table;
  is_sjw_free = flag_at key.SjwFree table;
  kind = None;
}

-- The same if PROP_SEG and PHASE_SEG1 are one length. A controller of a known kind can be set to what the kind allows.
abbrev pub lesser_parts : Parts → (tseg1 tseg2 : ℕ) → Parts
lesser_parts (Each prop ps1 ps2) tseg1 tseg2 = Each prop ps1 ps2
lesser_parts (Joint a b) tseg1 tseg2 = Joint (min a tseg1) (min b tseg2)

abbrev pub lesser_bounds : Bounds → Members → Bounds
lesser_bounds b table = record {
  prescaler = min b.prescaler (whole_at key.Prescaler 1024 table);
  parts = lesser_parts b.parts (segment_at key.Tseg1 256 table) (segment_at key.Tseg2 128 table);
  sjw = min b.sjw (segment_at key.WideSjw 128 table);
  is_sjw_free = b.is_sjw_free;
  kind = b.kind;
}

abbrev pub bounds_of : Bool → Members → Bounds
bounds_of false table = single_bounds_of table
bounds_of true table = lesser_bounds (bounds_at key.Kind table) table

abbrev pub controller_of : Bool → Members → Controller
controller_of joint table = record { name = name_in_table key.Name table; clock = whole_at key.Clock 0 table; bounds = bounds_of joint table }

-- the bus, with ticks of so many picoseconds
abbrev pub asked_of : ℕ → Members → Asked
asked_of tick table = record {
  bitrate = whole_at key.Bitrate 0 table;
  cable = whole_at key.Cable 0 table;
  per = whole_at key.Per 0 table;
  out_delay = whole_at key.Out 0 table;
  in_delay = whole_at key.In 0 table;
  tolerance = whole_at key.Tolerance 0 table;
  senders = senders_at key.Senders table;
  rate_error = whole_at key.RateError 0 table;
  sample = wished_sample_at key.SamplePoint table;
  nodes = whole_at key.Nodes 2 table;
  tick = tick;
}

-- the controllers of the tables in an array, or the first fault of one
abbrev pub AnswersControllers : Bool → List Data → Result (List Controller) SettingsFault → Type 0
AnswersControllers joint values answer =
    AnswersFault (first_some (map (controller_fault joint) (tables_in values))) (map (controller_of joint) (tables_in values)) answer

abbrev pub wanted_of : ℕ → Members → Wanted
wanted_of tick top = record {
  asked = asked_of tick top;
  controllers = map (controller_of (has_joint_parts top)) (tables_in (values_at key.Controller top));
}

-- what a document asks for, or its first fault, or Toml if there is none
abbrev pub without_fault : {T : Type 0} → Option SettingsFault → T → Result T SettingsFault
without_fault None value = Ok value
without_fault (Some fault) value = Err fault

abbrev pub wanted_in_document : ℕ → Option Members → Result Wanted SettingsFault
wanted_in_document tick None = Err fault.Toml
wanted_in_document tick (Some top) = without_fault (wanted_fault top) (wanted_of tick top)

abbrev pub wanted_in_text : ℕ → List ℕ → Result Wanted SettingsFault
wanted_in_text tick text = wanted_in_document tick (document_of text)

-- an answer is this one, unless memory was refused
abbrev pub IsWantedAnswer : {T : Type 0} → Result T SettingsFault → Result T SettingsFault → Type 0
IsWantedAnswer wanted answer = MatchResult answer (λ x. wanted ≡ Ok x) (λ e. e ≢ fault.Memory → wanted ≡ Err e)

-- the answer to what was read
abbrev pub wanted_in_reading : ℕ → Ended → List ℕ → Result Wanted SettingsFault
wanted_in_reading tick ended.End text = wanted_in_text tick text
wanted_in_reading tick ended.Broken text = Err fault.Read
wanted_in_reading tick ended.Full text = Err fault.Size

-- the reader gave, in one reading, something that has this answer
abbrev pub ReadsWanted : {S : Type 0} → (S → Answer → S → Type 0) → ℕ → S → Result Wanted SettingsFault → S → Type 0
ReadsWanted gives tick s answer t =
    (text : List ℕ) × (e : Ended) × ReadsUpTo gives s most_bytes text e t × (answer ≡ wanted_in_reading tick e text)
