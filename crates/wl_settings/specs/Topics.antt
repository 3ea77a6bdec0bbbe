-- What options of the command line ask for, in the place of a text (this project's profile).
use Rattle.std.specs.Prelude.{ℕ, ◌+◌, ◌-◌, ◌==◌, Bool, if◌then◌else◌, List, [], ◌∷◌, Option, Some, None, codes}
use Rattle.std.specs.Str.{bytes_eq}
use Rattle.wl_settings.specs.declared.keys.Key.{Key}
use Rattle.wl_settings.specs.declared.keys.Key.TheVariants as key
use Rattle.wl_settings.specs.declared.topics.AskedWord.{AskedWord}
use Rattle.wl_settings.specs.declared.topics.Topic.{Topic}
use Rattle.wl_settings.specs.declared.topics.Topic.TheVariants.{Kind, Clock, Bitrate, Cable, Per, Out, In, Tolerance, Senders, RateError, SamplePoint, Nodes, Sjw}
use Rattle.wl_units.specs.declared.quantity.Measure.{Measure}
use Rattle.wl_units.specs.declared.quantity.Measure.TheVariants as measure

-- the option that is about a topic
abbrev pub topic_option : Topic → List ℕ
topic_option Kind = codes "kind"
topic_option Clock = codes "clock"
topic_option Bitrate = codes "bitrate"
topic_option Cable = codes "cable"
topic_option Per = codes "per"
topic_option Out = codes "out"
topic_option In = codes "in"
topic_option Tolerance = codes "tolerance"
topic_option Senders = codes "senders"
topic_option RateError = codes "rate-error"
topic_option SamplePoint = codes "sample-point"
topic_option Nodes = codes "nodes"
topic_option Sjw = codes "sjw"

-- the key of a text that is about the same, with its bounds
abbrev pub topic_key : Topic → Key
topic_key Kind = key.Kind
topic_key Clock = key.Clock
topic_key Bitrate = key.Bitrate
topic_key Cable = key.Cable
topic_key Per = key.Per
topic_key Out = key.Out
topic_key In = key.In
topic_key Tolerance = key.Tolerance
topic_key Senders = key.Senders
topic_key RateError = key.RateError
topic_key SamplePoint = key.SamplePoint
topic_key Nodes = key.Nodes
topic_key Sjw = key.WideSjw

-- what the text of an option measures, if that is no word and no plain number
abbrev pub topic_measure : Topic → Option Measure
topic_measure Clock = Some measure.Frequency
topic_measure Bitrate = Some measure.BitRate
topic_measure Cable = Some measure.Length
topic_measure Per = Some measure.PerLength
topic_measure Out = Some measure.Time
topic_measure In = Some measure.Time
topic_measure _ = None

-- the text that is taken without the option, if it may be left out: usual transceivers, a copper cable, and the widest jump width
abbrev pub topic_default : Topic → Option (List ℕ)
topic_default Per = Some (codes "5ns/m")
topic_default Out = Some (codes "70ns")
topic_default In = Some (codes "80ns")
topic_default Tolerance = Some (codes "100")
topic_default Senders = Some (codes "any")
topic_default RateError = Some (codes "0")
topic_default Nodes = Some (codes "2")
topic_default Sjw = Some (codes "128")
topic_default _ = None

abbrev pub is_about : Topic → AskedWord → Bool
is_about t w = bytes_eq (topic_option w.topic) (topic_option t)

-- the n-th text about a topic, from 0 on, and how many there are
abbrev pub nth_text : Topic → ℕ → List AskedWord → Option (List ℕ)
nth_text t n [] = None
nth_text t n (w ∷ ws) = if is_about t w then (if n == 0 then Some w.text else nth_text t (n - 1) ws) else nth_text t n ws

abbrev pub count_about : Topic → List AskedWord → ℕ
count_about t [] = 0
count_about t (w ∷ ws) = (if is_about t w then 1 else 0) + count_about t ws
