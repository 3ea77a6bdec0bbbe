-- What the options of a sweep say of a spike (this project's profile).
use Rattle.std.specs.Prelude.{◌&&◌, ◌++◌, not, Bool, List, [], ◌∷◌, codes, Option, Some, None, is_some, if◌then◌else◌}
use Rattle.clap.specs.Words.{Row, Text, first_of}
use Rattle.wl_words.specs.declared.task.Swept.{Swept}

-- an option is there
abbrev pub is_said : Text → List Row → Bool
is_said id rows = is_some (first_of id rows)

-- a spike has a length, and is swept alone: over no range, and written as text
abbrev pub is_whole_spike : List Row → Swept → Bool
is_whole_spike rows swept =
    is_said (codes "length") rows && (not (is_said (codes "vary") rows) && (not swept.page && (not (is_some swept.part) && not swept.join)))

abbrev pub spike_alone : List Row → Swept → Bool
spike_alone rows swept = if swept.spike then is_whole_spike rows swept else not (is_said (codes "length") rows)

abbrev pub if_alone : List Row → Swept → Option Swept
if_alone rows swept = if spike_alone rows swept then Some swept else None

-- the text of an option, if it is there
abbrev pub said_texts : Option Text → List Text
said_texts None = []
said_texts (Some text) = text ∷ []

-- words, and after them where a spike is and how long it takes
abbrev pub with_spike : List Text → List Row → List Text
with_spike words rows = (words ++ said_texts (first_of (codes "spike") rows)) ++ said_texts (first_of (codes "length") rows)
