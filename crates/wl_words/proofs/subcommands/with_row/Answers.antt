use Rattle.std.proofs.Common.{◌∙◌, ap}
use Rattle.std.proofs.lemmas.Result.{IfOk-weaker}
use Rattle.clap.specs.Words.{App, app_of, with_subcommand}
use Rattle.wl_words.proofs.subcommands.with_row.Goals as goal

pub returns : goal.returns
returns c =
    IfOk-weaker c.subcommand-2.result _ _
    (λ more h. h.shape c.in_ok-sub.ensures.local ∙ ap (λ (sub : App). with_subcommand (app_of c.args.all) sub.top) c.in_ok-sub.ensures.app) c.subcommand-2.ensures
