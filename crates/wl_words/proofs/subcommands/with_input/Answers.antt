use Rattle.std.proofs.Common.{◌∙◌, ap, sym, [], ◌∷◌, if◌then◌else◌}
use Rattle.std.proofs.lemmas.Result.{IfOk-weaker}
use Rattle.clap.specs.Words.{app_of}
use Rattle.wl_words.specs.CommandLine.{input_rule, with_rules}
use Rattle.wl_words.proofs.subcommands.with_input.Goals as goal

pub returns-else-reads_nothing-clause-app : goal.returns-else-reads_nothing-clause-app
returns-else-reads_nothing-clause-app c =
    let reads = sym c.if-reads_nothing.false ∙ c.reads_nothing.ensures in
    IfOk-weaker c.with_options.result _ _ (λ all h. h ∙ ap (λ b. with_rules (app_of c.args.sub) (if b then [] else input_rule ∷ [])) reads) c.with_options.ensures.app
