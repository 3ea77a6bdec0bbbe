-- What clap makes of the rows of the table of options (this project's profile).
use Rattle.std.specs.Prelude.{◌≡◌, true, List, [], ◌∷◌, map, option_map, Option, Some, None}
use Rattle.clap.specs.Words.{App, Rule, Text, new_app, new_rule, with_subcommand}
use Rattle.clap.specs.declared.builder.action.ArgAction.TheVariants.{Append, SetTrue}
use Rattle.clap.specs.declared.builder.value_parser.ValueParser.TheVariants as vp
use Rattle.wl_words.specs.CommandLine.{input_rules, is_task_word, shared_rules, subcommand_app, with_rules}
use Rattle.wl_words.specs.declared.options.OptionRow.{OptionRow}
use Rattle.wl_words.specs.declared.options.Spelling.{Spelling}
use Rattle.wl_words.specs.declared.options.Spelling.TheVariants.{Place, Short, Long}
use Rattle.wl_words.specs.declared.options.Takes.{Takes}
use Rattle.wl_words.specs.declared.options.Takes.TheVariants.{Nothing, Value, Values, Signed, Unsigned}
use Rattle.wl_words.specs.declared.tables.SubcommandRow.{SubcommandRow}

-- an argument as it is spelled
abbrev pub spelled_rule : Spelling → Rule → Rule
spelled_rule Place rule = rule
spelled_rule (Short letter) rule = record rule { short = Some letter }
spelled_rule (Long name) rule = record rule { long = Some name.now }

-- and with what it takes
abbrev pub taking_rule : Takes → Rule → Rule
taking_rule Nothing rule = record rule { action = Some SetTrue }
taking_rule (Value name) rule = record rule { value_names = 1 }
taking_rule (Values name) rule = record rule { value_names = 1; action = Some Append }
taking_rule (Signed name least most) rule = record rule { value_names = 1; parser = Some (vp.Signed least most) }
taking_rule (Unsigned name least most) rule = record rule { value_names = 1; parser = Some (vp.Unsigned least most) }

-- and with the text that it has where it isn't given
abbrev pub defaulting_rule : Option Text → Rule → Rule
defaulting_rule None rule = rule
defaulting_rule (Some text) rule = record rule { defaults = text ∷ [] }

-- the argument of a row
abbrev pub row_rule : OptionRow → Rule
row_rule row =
    defaulting_rule (option_map (λ s. s.now) row.default) (taking_rule row.takes (spelled_rule row.spelling (new_rule row.id.now)))

-- the subcommand of a row
abbrev pub row_app : SubcommandRow → App
row_app row =
    with_rules (with_rules (with_rules (new_app row.word.now) (input_rules row.word.now)) shared_rules) (map row_rule row.options.now)

-- a command with the subcommand of a row
abbrev pub with_row : App → SubcommandRow → App
with_row a row = with_subcommand a (row_app row).top

-- a row is that of a word, which names a subcommand
abbrev pub IsTaskRow : Text → SubcommandRow → Type 0
IsTaskRow word row = (row_app row ≡ subcommand_app word) × (is_task_word word ≡ true)

-- each row is that of its word
abbrev pub AreTaskRows : List SubcommandRow → Type 0
AreTaskRows [] = Unit {0}
AreTaskRows (row ∷ rows) = IsTaskRow row.word.now row × AreTaskRows rows
