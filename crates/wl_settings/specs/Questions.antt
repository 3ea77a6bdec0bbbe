-- What options of the command line say, in the place of a text (this project's profile).
use Rattle.std.specs.Prelude.{ℕ, zero, suc, ◌*◌, ◌^◌, ◌&&◌, nat_le, nat_lt, max, min, Bool, if◌then◌else◌, List, [], ◌∷◌, ◌++◌, codes, length, Option, Some, None, option_and_then, Result, Ok, Err}
use Rattle.std.specs.List.{list_all}
use Rattle.std.specs.Char.{digit_value}
use Rattle.std.specs.Str.Parse.{digits_value, without_leading_plus}
use Rattle.wl_bound.specs.declared.condition.Senders.{Senders}
use Rattle.wl_kinds.specs.declared.kinds.ControllerKind.{ControllerKind}
use Rattle.wl_kinds.specs.Kinds.{kind_named}
use Rattle.wl_settings.specs.declared.asked.Asked.{Asked}
use Rattle.wl_settings.specs.declared.asked.Controller.{Controller}
use Rattle.wl_settings.specs.declared.fault.SettingsFault.{SettingsFault}
use Rattle.wl_settings.specs.declared.fault.SettingsFault.TheVariants as fault
use Rattle.wl_settings.specs.declared.keys.ValueKind.{ValueKind}
use Rattle.wl_settings.specs.declared.keys.ValueKind.TheVariants as kind
use Rattle.wl_settings.specs.declared.read.Wanted.{Wanted}
use Rattle.wl_settings.specs.declared.topics.AskedWord.{AskedWord}
use Rattle.wl_settings.specs.declared.topics.Topic.{Topic}
use Rattle.wl_settings.specs.declared.topics.Topic.TheVariants as topic
use Rattle.wl_settings.specs.Keys.{value_kind}
use Rattle.wl_settings.specs.Kinds.{sample_said, senders_named}
use Rattle.wl_settings.specs.Registers.{bounds_of_kind, with_jump}
use Rattle.wl_settings.specs.Topics.{count_about, nth_text, topic_default, topic_key, topic_measure, topic_option}
use Rattle.wl_units.specs.declared.quantity.Measure.{Measure}
use Rattle.wl_units.specs.declared.scale.Scale.{Scale}
use Rattle.wl_units.specs.declared.scale.TheConstants.{MICROMETRES}
use Rattle.wl_units.specs.Scales.{number_said}

-- the text about a topic, or the one that is taken without the option
abbrev pub text_or : Option (List ℕ) → Option (List ℕ) → Option (List ℕ)
text_or None without = without
text_or (Some text) without = Some text

abbrev pub text_or_default : List AskedWord → Topic → Option (List ℕ)
text_or_default words t = text_or (nth_text t 0 words) (topic_default t)

-- the option as it is written: the place of a fault
abbrev pub topic_place : Topic → List ℕ
topic_place t = codes "--" ++ topic_option t

-- ticks of so many picoseconds, up to a second, and metres
abbrev pub word_scale : ℕ → Scale
word_scale tick = record { tick = 1000 * min tick 1000000000000; unit = MICROMETRES }

-- a number without a unit
abbrev pub is_plain_number : List ℕ → Bool
is_plain_number ds = nat_lt 0 (length ds) && list_all (λ d. nat_lt (digit_value d) 10) ds && nat_lt (digits_value 10 ds) (2 ^ 64)

abbrev pub plain_number : List ℕ → Option ℕ
plain_number text = if is_plain_number (without_leading_plus text) then Some (digits_value 10 (without_leading_plus text)) else None

-- the number that a text says, in what its topic is counted in
abbrev pub count_by : ℕ → Option Measure → List ℕ → Option ℕ
count_by tick None text = plain_number text
count_by tick (Some measure) text = number_said measure (word_scale tick) text

abbrev pub count_said : ℕ → Topic → List ℕ → Option ℕ
count_said tick t text = count_by tick (topic_measure t) text

-- within the bounds of the key of a text
abbrev pub in_range : ValueKind → ℕ → Option ℕ
in_range (kind.Within least most) n = if nat_le least n && nat_le n most then Some n else None
in_range _ n = None

abbrev pub number_in_text : ℕ → Topic → List ℕ → Option ℕ
number_in_text tick t text = option_and_then (in_range (value_kind (topic_key t))) (count_said tick t text)

-- an answer, or the option whose text says none, or that is absent
abbrev pub read_or_unreadable : {T : Type 0} → Topic → Option T → Result T SettingsFault
read_or_unreadable t None = Err (fault.Kind (topic_place t))
read_or_unreadable t (Some x) = Ok x

abbrev pub read_or_missing : {T : Type 0} → Topic → (List ℕ → Option T) → Option (List ℕ) → Result T SettingsFault
read_or_missing t read None = Err (fault.Missing (topic_place t))
read_or_missing t read (Some text) = read_or_unreadable t (read text)

abbrev pub number_by_word : ℕ → Topic → Option (List ℕ) → Result ℕ SettingsFault
number_by_word tick t text = read_or_missing t (number_in_text tick t) text

abbrev pub senders_by_word : Option (List ℕ) → Result Senders SettingsFault
senders_by_word text = read_or_missing topic.Senders senders_named text

abbrev pub number_about : ℕ → List AskedWord → Topic → Result ℕ SettingsFault
number_about tick words t = number_by_word tick t (text_or_default words t)

-- what is made of an answer, unless there is a fault
abbrev pub if_read : {T U : Type 0} → Result T SettingsFault → (T → Result U SettingsFault) → Result U SettingsFault
if_read (Ok x) make = make x
if_read (Err e) make = Err e

-- no sample point is wished for without the option
abbrev pub sample_by_word : Option (List ℕ) → Result (Option ℕ) SettingsFault
sample_by_word None = Ok None
sample_by_word (Some text) = if_read (read_or_unreadable topic.SamplePoint (sample_said text)) (λ n. Ok (Some n))

-- the bus
abbrev pub asked_by_words : ℕ → List AskedWord → Result Asked SettingsFault
asked_by_words tick words =
    if_read (number_about tick words topic.Bitrate) (λ bitrate.
    if_read (number_about tick words topic.Cable) (λ cable.
    if_read (number_about tick words topic.Per) (λ per.
    if_read (number_about tick words topic.Out) (λ out_delay.
    if_read (number_about tick words topic.In) (λ in_delay.
    if_read (number_about tick words topic.Tolerance) (λ tolerance.
    if_read (senders_by_word (text_or_default words topic.Senders)) (λ senders.
    if_read (number_about tick words topic.RateError) (λ rate_error.
    if_read (sample_by_word (nth_text topic.SamplePoint 0 words)) (λ sample.
    if_read (number_about tick words topic.Nodes) (λ nodes.
    Ok (record {
      bitrate = bitrate;
      cable = cable;
      per = per;
      out_delay = out_delay;
      in_delay = in_delay;
      tolerance = tolerance;
      senders = senders;
      rate_error = rate_error;
      sample = sample;
      nodes = nodes;
      tick = tick;
    })))))))))))

-- a controller: the n-th kind with the n-th clock and the jump width that each may have at most; its name is the kind's word
abbrev pub controller_of_kind : ℕ → Option (List ℕ) → Result ℕ SettingsFault → List ℕ → ControllerKind → Result Controller SettingsFault
controller_of_kind tick clock jump name k =
    if_read (number_by_word tick topic.Clock clock) (λ n. if_read jump (λ most. Ok (record { name = name; clock = n; bounds = with_jump (bounds_of_kind k) most })))

abbrev pub controller_by_name : ℕ → Option (List ℕ) → Result ℕ SettingsFault → List ℕ → Result Controller SettingsFault
controller_by_name tick clock jump name = if_read (read_or_unreadable topic.Kind (kind_named name)) (controller_of_kind tick clock jump name)

abbrev pub controller_by : ℕ → Option (List ℕ) → Option (List ℕ) → Result ℕ SettingsFault → Result Controller SettingsFault
controller_by tick None clock jump = Err (fault.Missing (topic_place topic.Kind))
controller_by tick (Some name) clock jump = controller_by_name tick clock jump name

abbrev pub nth_controller : ℕ → List AskedWord → ℕ → Result Controller SettingsFault
nth_controller tick words n = controller_by tick (nth_text topic.Kind n words) (nth_text topic.Clock n words) (number_about tick words topic.Sjw)

-- the first ones, in order, or the first fault
abbrev pub and_controller : List Controller → Controller → Result (List Controller) SettingsFault
and_controller cs c = Ok (cs ++ c ∷ [])

unfoldable pub controllers_below : ℕ → List AskedWord → ℕ → Result (List Controller) SettingsFault
controllers_below tick words zero = Ok []
controllers_below tick words (suc n) =
    if_read (controllers_below tick words n) (λ cs. if_read (nth_controller tick words n) (and_controller cs))

-- one at least: words without a kind lack it
abbrev pub controllers_wanted : List AskedWord → ℕ
controllers_wanted words = max (max (count_about topic.Kind words) (count_about topic.Clock words)) 1

-- what words ask for, or their first fault
abbrev pub wanted_by_words : ℕ → List AskedWord → Result Wanted SettingsFault
wanted_by_words tick words =
    if_read (asked_by_words tick words) (λ asked.
    if_read (controllers_below tick words (controllers_wanted words)) (λ controllers. Ok (record { asked = asked; controllers = controllers })))
