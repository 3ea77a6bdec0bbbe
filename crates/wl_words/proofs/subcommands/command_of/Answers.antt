use Rattle.std.proofs.Common.{◌∙◌, ap, fold}
use Rattle.std.proofs.lemmas.Result.{IfOk-weaker}
use Rattle.wl_words.specs.Options.{with_row}
use Rattle.wl_words.proofs.subcommands.command_of.Goals as goal

pub returns : goal.returns
returns c = IfOk-weaker c.with_rows.result _ _ (λ all h. h ∙ ap (λ a. fold with_row a c.args.rows.now) c.bare.ensures) c.with_rows.ensures
