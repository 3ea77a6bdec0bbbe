-- What the words of the command line ask for (this project's profile).
use Rattle.std.specs.Prelude.{◌≡◌, List, [], codes, map, string_bytes, Option, Some, None, Result, Ok, Err}
use Rattle.clap.specs.Words.{Text}
use Rattle.wl_words.specs.declared.command.Order.{Order}
use Rattle.wl_words.specs.declared.command.Refusal.{Refusal}
use Rattle.wl_words.specs.declared.command.Refusal.TheVariants.{Words, Memory}
use Rattle.wl_words.specs.declared.task.Task.{Task}
use Rattle.wl_words.specs.CommandLine.{Enters, NamesTask, asked_words_in, entered, file_in, format_in, has_flag, ranges_in}

-- the words ask for this: the task that they enter, with the files and the ranges that they name, and what they say in the place of a file
abbrev pub Asks : Order → List Text → Type 0
Asks order words =
    Enters order.task words × (order.input ≡ file_in (codes "input") (entered words)) × (order.output ≡ file_in (codes "output") (entered words))
    × (order.hint ≡ has_flag (codes "hint") (entered words)) × (order.progress ≡ has_flag (codes "progress") (entered words))
    × (map string_bytes order.ranges.items ≡ ranges_in (entered words)) × (format_in (entered words) ≡ Some order.format)
    × (order.asked.items ≡ asked_words_in (entered words)) × (order.apply ≡ file_in (codes "apply") (entered words))

-- what was found in the words
abbrev pub FindsOrder : List Text → Option Order → Type 0
FindsOrder words (Some order) = Asks order words
FindsOrder words None = (t : Task) → ¬ Enters t words

-- what is read from the words: what they ask for, or that they enter no task; or memory was wanted
abbrev pub ReadsOrder : List Text → Result Order Refusal → Type 0
ReadsOrder words (Ok order) = Asks order words
ReadsOrder words (Err Words) = (t : Task) → ¬ Enters t words
ReadsOrder words (Err Memory) = Unit {0}

-- this task alone was read, without a file or words in its place, a range, another format or a plan that gets settings; or memory was wanted
abbrev pub IsTaskAlone : Task → Result Order Refusal → Type 0
IsTaskAlone t (Ok order) =
    (order.task ≡ t) × (order.input ≡ None) × (order.output ≡ None) × (map string_bytes order.ranges.items ≡ []) × (order.format ≡ None)
    × (order.asked.items ≡ []) × (order.apply ≡ None)
IsTaskAlone t (Err refusal) = refusal ≡ Memory

-- words that are the name of a task alone are read so
abbrev pub ReadsEachWord : Type 0
ReadsEachWord = (words : List Text) (read : Result Order Refusal) → ReadsOrder words read → (t : Task) → NamesTask t words → IsTaskAlone t read
