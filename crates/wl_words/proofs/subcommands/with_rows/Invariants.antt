use Rattle.std.proofs.Common.{◌≡◌, drop, fold}
use Rattle.clap.specs.Words.{app_of}
use Rattle.wl_words.specs.Options.{with_row}
use Rattle.wl_words.proofs.subcommands.with_rows.Given as goal

-- the rows that are left lead from the command so far to that of all rows
abbrev pub invariant-loop-row : goal.invariant-loop-row
invariant-loop-row l =
    fold with_row (app_of l.all) (drop l.row-index l.rows) ≡ fold with_row (app_of l.initial.all) l.rows
