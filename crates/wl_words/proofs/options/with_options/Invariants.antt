use Rattle.std.proofs.Common.{◌≡◌, drop, map, false}
use Rattle.clap.specs.Words.{app_of}
use Rattle.clap.specs.declared.builder.command.Command.TheViews.{out-Command}
use Rattle.wl_words.specs.CommandLine.{with_rules}
use Rattle.wl_words.specs.Options.{row_rule}
use Rattle.wl_words.proofs.options.with_options.Given as goal

-- the rows that are left lead from the subcommand so far to that of all rows, and none is an option of others
abbrev pub invariant-loop-row : goal.invariant-loop-row
invariant-loop-row l =
    (with_rules (app_of l.sub) (map row_rule (drop l.row-index l.rows)) ≡ with_rules (app_of l.initial.sub) (map row_rule l.rows))
    × ((out-Command l.sub).has_globals ≡ false)
