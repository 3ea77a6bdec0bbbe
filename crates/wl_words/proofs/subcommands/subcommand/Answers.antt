use Rattle.std.proofs.Common.{◌≡◌, ◌∙◌, ap, map, rules}
use Rattle.std.proofs.lemmas.Result.{IfOk-weaker}
use Rattle.clap.specs.Words.{App, app_of, new_app}
use Rattle.wl_words.specs.CommandLine.{input_rules, shared_rules, with_rules}
use Rattle.wl_words.specs.Options.{row_rule}
use Rattle.wl_words.proofs.subcommands.subcommand.Goals as goal

pub returns-clause-app : goal.returns-clause-app
returns-clause-app c =
    let named : app_of c.about-named.result ≡ new_app c.args.row.now.word.now = search rules in
    let reading = c.in_ok-reading.ensures.app ∙ ap (λ (a : App). with_rules a (input_rules c.args.row.now.word.now)) named in
    let filed = c.in_ok-filed.ensures.app ∙ ap (λ (a : App). with_rules a shared_rules) reading in
    IfOk-weaker c.with_options-2.result _ _ (λ sub h. h ∙ ap (λ (a : App). with_rules a (map row_rule c.args.row.now.options.now)) filed) c.with_options-2.ensures.app
