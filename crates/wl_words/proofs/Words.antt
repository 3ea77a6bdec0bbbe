-- What clap makes of the command line of the program.
use Rattle.std.proofs.Common.{◌≡◌, ◌∙◌, refl, sym, subst, ap, ℕ, ◌<◌, ◌^◌, nat_lt, ◌&&◌, Bool, true, false, [], ◌∷◌, List, length, Option, Some, None, option_map, option_and_then, unwrap_or, codes, if◌then◌else◌}
use Rattle.std.specs.Char.{digit_value}
use Rattle.std.specs.List.{list_all}
use Rattle.std.specs.Option.{option_map_or}
use Rattle.std.specs.Prelude.{Box, Result, Ok, Err}
use Rattle.std.specs.Result.{result_unwrap_or}
use Rattle.std.specs.Box.{box_value}
use Rattle.std.specs.Str.Parse.{AllDigits, IsNumeral, ParsesUnsigned, digits_value, without_leading_plus}
use Rattle.std.proofs.lemmas.Bool.{lt-ltb, ltb-true}
use Rattle.clap.specs.Words.{Text, first_value, matched_of, raw_values, rows_of, subcommand_rows}
use Rattle.clap.specs.Walk.{byte_or_zero}
use Rattle.clap.specs.declared.parser.matches.ArgMatches.TheViews.{out-SubCommand}
use Rattle.clap.specs.declared.parser.matches.Found.{Found}
use Rattle.clap.specs.declared.parser.matches.SubCommand.{SubCommand}
use Rattle.clap.proofs.OnLiterals.{clap_on_literals}
use Rattle.clap.proofs.WalkLemmas.{both, first_value-rows, raw_values-rows}
use Rattle.wl_lines.specs.declared.formats.Format.{Format}
use Rattle.wl_sweep.specs.Parts.{share_named}
use Rattle.wl_init.specs.Wishes.{cable_said, kind_said, rate_said}
use Rattle.wl_views.specs.declared.tick.Tick.{Tick}
use Rattle.wl_views.specs.Ticks.{read_tick}
use Rattle.wl_units.specs.Scales.{number_said}
use Rattle.wl_units.specs.declared.quantity.Measure.TheVariants.{Time}
use Rattle.wl_words.proofs.Naming.{one_found}
use Rattle.wl_words.specs.Asked.{IsTaskAlone, ReadsEachWord, ReadsOrder}
use Rattle.wl_words.specs.CommandLine.{asked_words_in, cable_among, clash_among, clash_beside, kind_among, nodes_among, rate_among, node_among, said_name, said_name_among, node_number, only_among, read_only, task_word, tick_among, workers_among, read_link, link_among, entered, file_among, file_in, file_named, format_among, format_in, read_format, is_flagged, is_set, end_among, end_said, is_whole_number, number_among, number_or_zero, plain_values, tick_scale, ticks_said, ranges_among, ranges_in, values_among, word_in, Enters, HasValues, NamesTask, share_among, varied_among}
use Rattle.wl_words.specs.declared.command.Order.{Order}
use Rattle.wl_words.specs.declared.command.Refusal.{Refusal}
use Rattle.wl_words.specs.declared.command.Refusal.TheVariants as refusal
use Rattle.wl_words.specs.declared.task.Task.{Task}
use Rattle.wl_words.specs.declared.task.Task.TheVariants.{Init, Merge, Horizon, Check, Upgrade, Records, Run, Explain, Trace, Candump, Vcd, Page, Margin, Respond, Traffic, Judge, Settings, Sweep}

-- the word of a task enters its subcommand, without a fault
word_enters : (t : Task) (name : Text) → HasValues (Some plain_values) t → Enters t (name ∷ task_word t ∷ [])
unfolding clap_on_literals
word_enters (Init wish) name h = ((refl, h), refl, refl, refl)
word_enters (Merge limits) name h = ((refl, h), refl, refl, refl)
word_enters (Horizon limits) name h = ((refl, h), refl, refl, refl)
word_enters Check name h = ((refl, tt), refl, refl, refl)
word_enters Upgrade name h = ((refl, tt), refl, refl, refl)
word_enters (Records window) name h = ((refl, h), refl, refl, refl)
word_enters (Run workers kind brief strict) name h = ((refl, h), refl, refl, refl)
word_enters (Explain strict) name h = ((refl, h), refl, refl, refl)
word_enters (Trace pick) name h = ((refl, h), refl, refl, refl)
word_enters (Candump tick from errors window) name h = ((refl, h), refl, refl, refl)
word_enters (Vcd tick window) name h = ((refl, h), refl, refl, refl)
word_enters (Page tick window) name h = ((refl, h), refl, refl, refl)
word_enters (Margin tick all strict) name h = ((refl, h), refl, refl, refl)
word_enters (Respond tick any strict) name h = ((refl, h), refl, refl, refl)
word_enters (Traffic tick strict) name h = ((refl, h), refl, refl, refl)
word_enters (Judge tick explain) name h = ((refl, h), refl, refl, refl)
word_enters (Settings tick shown strict) name h = ((refl, h), refl, refl, refl)
word_enters (Sweep swept) name h = ((refl, h), refl, refl, refl)

-- and names no file, no range, and nothing in the place of a file
abbrev NamesNothing : List Text → Type 0
NamesNothing words =
    (file_in (codes "input") (entered words) ≡ None) × (file_in (codes "output") (entered words) ≡ None) × (ranges_in (entered words) ≡ [])
    × (asked_words_in (entered words) ≡ []) × (file_in (codes "apply") (entered words) ≡ None)

word_names_none : (t : Task) (name : Text) → NamesNothing (name ∷ task_word t ∷ [])
unfolding clap_on_literals
word_names_none (Init wish) name = (refl, refl, refl, refl, refl)
word_names_none (Merge limits) name = (refl, refl, refl, refl, refl)
word_names_none (Horizon limits) name = (refl, refl, refl, refl, refl)
word_names_none Check name = (refl, refl, refl, refl, refl)
word_names_none Upgrade name = (refl, refl, refl, refl, refl)
word_names_none (Records window) name = (refl, refl, refl, refl, refl)
word_names_none (Run workers kind brief strict) name = (refl, refl, refl, refl, refl)
word_names_none (Explain strict) name = (refl, refl, refl, refl, refl)
word_names_none (Trace pick) name = (refl, refl, refl, refl, refl)
word_names_none (Candump tick from errors window) name = (refl, refl, refl, refl, refl)
word_names_none (Vcd tick window) name = (refl, refl, refl, refl, refl)
word_names_none (Page tick window) name = (refl, refl, refl, refl, refl)
word_names_none (Margin tick all strict) name = (refl, refl, refl, refl, refl)
word_names_none (Respond tick any strict) name = (refl, refl, refl, refl, refl)
word_names_none (Traffic tick strict) name = (refl, refl, refl, refl, refl)
word_names_none (Judge tick explain) name = (refl, refl, refl, refl, refl)
word_names_none (Settings tick shown strict) name = (refl, refl, refl, refl, refl)
word_names_none (Sweep swept) name = (refl, refl, refl, refl, refl)

-- and no format
word_format : (t : Task) (name : Text) → format_in (entered (name ∷ task_word t ∷ [])) ≡ Some None
unfolding clap_on_literals
word_format (Init wish) name = refl
word_format (Merge limits) name = refl
word_format (Horizon limits) name = refl
word_format Check name = refl
word_format Upgrade name = refl
word_format (Records window) name = refl
word_format (Run workers kind brief strict) name = refl
word_format (Explain strict) name = refl
word_format (Trace pick) name = refl
word_format (Candump tick from errors window) name = refl
word_format (Vcd tick window) name = refl
word_format (Page tick window) name = refl
word_format (Margin tick all strict) name = refl
word_format (Respond tick any strict) name = refl
word_format (Traffic tick strict) name = refl
word_format (Judge tick explain) name = refl
word_format (Settings tick shown strict) name = refl
word_format (Sweep swept) name = refl

names_format : (t : Task) (words : List Text) → NamesTask t words → format_in (entered words) ≡ Some None
names_format t words n = subst (λ ws. format_in (entered ws) ≡ Some None) (sym n.2) (word_format t n.0)

names_none : (t : Task) (words : List Text) → NamesTask t words → NamesNothing words
names_none t words n = subst NamesNothing (sym n.2) (word_names_none t n.0)

names_enters : (t : Task) (words : List Text) → NamesTask t words → Enters t words
names_enters t words n = subst (λ ws. Enters t ws) (sym n.2) (word_enters t n.0 n.1)

-- the name of the subcommand that was entered stands in front of its rows
pub name_in_front : {Z : Type 0} (o : Option (Box SubCommand Z))
    → option_map (λ b. (out-SubCommand (box_value b)).name.now) o ≡ option_map (λ p. p.0) (subcommand_rows o)
name_in_front None = refl
name_in_front (Some b) = refl

-- the tick of an option, by its text
pub tick_text : (f : Found) → tick_among (rows_of f) ≡ option_and_then read_tick (first_value f (codes "tick"))
tick_text f = ap (option_and_then read_tick) (sym (first_value-rows f (codes "tick")))

-- the workers of an option, by its text
pub workers_text : (f : Found) → workers_among (rows_of f) ≡ option_map byte_or_zero (first_value f (codes "workers"))
workers_text f = ap (option_map byte_or_zero) (sym (first_value-rows f (codes "workers")))

-- the node of an option, by its text: by its number, or by its name
pub node_text : (f : Found) → node_among (rows_of f) ≡ option_and_then node_number (first_value f (codes "node"))
node_text f = ap (option_and_then node_number) (sym (first_value-rows f (codes "node")))

pub said_name_text : (f : Found) → said_name_among (rows_of f) ≡ option_map_or said_name (first_value f (codes "node")) []
said_name_text f = ap (λ o. option_map_or said_name o []) (sym (first_value-rows f (codes "node")))

-- the kind of events of an option, by its text
pub only_text : (f : Found) → only_among (rows_of f) ≡ option_map_or read_only (first_value f (codes "only")) (Some None)
only_text f = ap (λ o. option_map_or read_only o (Some None)) (sym (first_value-rows f (codes "only")))

-- what is asked for of a plan to begin from, by its texts
pub nodes_text : (f : Found) → nodes_among (rows_of f) ≡ option_map byte_or_zero (first_value f (codes "nodes"))
nodes_text f = ap (option_map byte_or_zero) (sym (first_value-rows f (codes "nodes")))

pub rate_text : (f : Found) → rate_among (rows_of f) ≡ option_and_then rate_said (first_value f (codes "bitrate"))
rate_text f = ap (option_and_then rate_said) (sym (first_value-rows f (codes "bitrate")))

pub cable_text : (f : Found) → cable_among (rows_of f) ≡ option_and_then cable_said (first_value f (codes "cable"))
cable_text f = ap (option_and_then cable_said) (sym (first_value-rows f (codes "cable")))

pub kind_text : (f : Found) → kind_among (rows_of f) ≡ option_and_then kind_said (first_value f (codes "kind"))
kind_text f = ap (option_and_then kind_said) (sym (first_value-rows f (codes "kind")))

-- the part of a sweep, by its text
pub part_text : (f : Found) → share_among (rows_of f) ≡ option_map share_named (first_value f (codes "part"))
part_text f = ap (option_map share_named) (sym (first_value-rows f (codes "part")))

-- ranges, by their texts
pub ranges_text : (f : Found) → varied_among (rows_of f) ≡ unwrap_or (option_map raw_values (matched_of f (codes "vary"))) (said_name_among (rows_of f))
ranges_text f = ap (λ o. unwrap_or o (said_name_among (rows_of f))) (sym (raw_values-rows f (codes "vary")))

-- a number, by its text
all_digits : (ds : List ℕ) → AllDigits 10 ds → list_all (λ d. nat_lt (digit_value d) 10) ds ≡ true
all_digits [] h = refl
all_digits (d ∷ ds) h = rw (lt-ltb (digit_value d) 10 h.0) (all_digits ds h.1)

digits_of : (ds : List ℕ) → list_all (λ d. nat_lt (digit_value d) 10) ds ≡ true → AllDigits 10 ds
digits_of [] e = tt
digits_of (d ∷ ds) e =
    let parts = both _ _ e in
    (ltb-true _ _ parts.0, digits_of ds parts.1)

abbrev ReadsNumber : ℕ → Text → Type 0
ReadsNumber bits text = IsNumeral 10 (without_leading_plus text) × (digits_value 10 (without_leading_plus text) < 2 ^ bits)

read_is : (bits : ℕ) (text : Text) → ReadsNumber bits text → is_whole_number bits text ≡ true
read_is bits text h =
    let ds = without_leading_plus text in
    rw (lt-ltb 0 (length ds) h.0.0, all_digits ds h.0.1, lt-ltb (digits_value 10 ds) (2 ^ bits) h.1) refl

unread_is : (bits : ℕ) (text : Text) → ¬ ReadsNumber bits text → is_whole_number bits text ≡ false
unread_is bits text h = go (is_whole_number bits text) refl
  where
    go : (b : Bool) → is_whole_number bits text ≡ b → is_whole_number bits text ≡ false
    go false t = t
    go true t =
        let outer = both _ _ t in
        let inner = both _ _ outer.0 in
        absurd (h ((ltb-true _ _ inner.0, digits_of (without_leading_plus text) inner.1), ltb-true _ _ outer.1))

pub number_read : {E : Type 0} (bits : ℕ) (text : Text) (r : Result ℕ E) → ParsesUnsigned bits 10 text r → result_unwrap_or r 0 ≡ number_or_zero bits text
number_read bits text (Ok n) h = rw (read_is bits text h.0) h.1
number_read bits text (Err e) h = rw (unread_is bits text h) refl

-- the number of a node that a text writes, by what it is read as
pub node_read : (text : Text) (n : ℕ) → ReadsNumber 8 text × (n ≡ digits_value 10 (without_leading_plus text))
    → (if nat_lt n 64 then Some n else None) ≡ node_number text
node_read text n h =
    ap (λ k. if nat_lt k 64 then Some k else None) h.1
    ∙ sym (ap (λ b. if b && nat_lt (digits_value 10 (without_leading_plus text)) 64 then Some (digits_value 10 (without_leading_plus text)) else None) (read_is 8 text h.0))

pub node_unread : (text : Text) → ¬ ReadsNumber 8 text → None ≡ node_number text
node_unread text h =
    sym (ap (λ b. if b && nat_lt (digits_value 10 (without_leading_plus text)) 64 then Some (digits_value 10 (without_leading_plus text)) else None) (unread_is 8 text h))

-- what a text says in ticks, by what it is read as
pub said_read : (tick : Tick) (text : Text) (n : ℕ) → ReadsNumber 64 text × (n ≡ digits_value 10 (without_leading_plus text)) → Some n ≡ ticks_said tick text
said_read tick text n h =
    ap Some h.1 ∙ sym (ap (λ b. if b then Some (digits_value 10 (without_leading_plus text)) else number_said Time (tick_scale tick) text) (read_is 64 text h.0))

pub said_unread : (tick : Tick) (text : Text) → ¬ ReadsNumber 64 text → number_said Time (tick_scale tick) text ≡ ticks_said tick text
said_unread tick text h =
    sym (ap (λ b. if b then Some (digits_value 10 (without_leading_plus text)) else number_said Time (tick_scale tick) text) (unread_is 64 text h))

-- the end of a window of an option, by its text
pub end_text : (tick : Tick) (id : Text) (f : Found) → end_among tick id (rows_of f) ≡ option_map_or (end_said tick) (first_value f id) (Some None)
end_text tick id f = ap (λ o. option_map_or (end_said tick) o (Some None)) (sym (first_value-rows f id))

pub number_text : (bits : ℕ) (id : Text) (f : Found) → number_among bits id (rows_of f) ≡ option_map (number_or_zero bits) (first_value f id)
number_text bits id f = ap (option_map (number_or_zero bits)) (sym (first_value-rows f id))

-- the kind of link of an option, by its text
pub link_text : (f : Found) → link_among (rows_of f) ≡ option_and_then read_link (first_value f (codes "link"))
link_text f = ap (option_and_then read_link) (sym (first_value-rows f (codes "link")))

-- the file of an argument, by its text
pub file_text : (f : Found) (id : Text) → file_among id (rows_of f) ≡ option_and_then file_named (first_value f id)
file_text f id = ap (option_and_then file_named) (sym (first_value-rows f id))

-- the format of an option, by its text
pub format_text : (f : Found) → format_among (rows_of f) ≡ option_map_or read_format (first_value f (codes "format")) (Some None)
format_text f = ap (λ o. option_map_or read_format o (Some None)) (sym (first_value-rows f (codes "format")))

-- what is wrong beside `--apply`, by its text
pub clash_text : (f : Found) → clash_among (rows_of f) ≡ option_and_then (clash_beside (rows_of f)) (first_value f (codes "apply"))
clash_text f = ap (option_and_then (clash_beside (rows_of f))) (sym (first_value-rows f (codes "apply")))

-- whether a flag is set, by its text
pub flag_text : (f : Found) (id : Text) → is_flagged id (rows_of f) ≡ option_map_or is_set (first_value f id) false
flag_text f id = ap (λ o. option_map_or is_set o false) (sym (first_value-rows f id))

-- words enter at most one task
one_task : (t u : Task) (words : List Text) → Enters t words → Enters u words → u ≡ t
one_task t u words h g = one_found t u (word_in (entered words)) (option_map (λ p. values_among p.1) (entered words)) h.0 g.0

-- what is read of the word of a task alone
reads_word : (words : List Text) (read : Result Order Refusal) (t : Task) → ReadsOrder words read → NamesTask t words → IsTaskAlone t read
reads_word words (Ok order) t asked named =
    let none = names_none t words named in (
      sym (one_task order.task t words asked.0 (names_enters t words named)),
      asked.1 ∙ none.0,
      asked.2 ∙ none.1,
      asked.5 ∙ none.2,
      ap (λ (o : Option (Option Format)). unwrap_or o None) (sym asked.6 ∙ names_format t words named),
      asked.7 ∙ none.3,
      asked.8 ∙ none.4,
    )
reads_word words (Err refusal.Words) t none named = absurd (none t (names_enters t words named))
reads_word words (Err refusal.Memory) t memory named = refl

pub reads_each_word : ReadsEachWord
reads_each_word = λ words read reads t named. reads_word words read t reads named
