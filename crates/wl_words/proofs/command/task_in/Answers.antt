use Rattle.std.proofs.Common.{◌∙◌, sym, subst}
use Rattle.wl_words.specs.CommandLine.{HasValues}
use Rattle.wl_words.proofs.Naming.{found_of, of_found}
use Rattle.wl_words.proofs.Words.{name_in_front}
use Rattle.wl_words.proofs.command.task_in.Goals as goal

pub returns : goal.returns
returns c =
    let name = c.subcommand_name.ensures ∙ name_in_front _ in
    let values = c.values_of_subcommand-values.ensures in
    λ task. (
      λ found. let told = of_found _ _ task (sym c.task_named.ensures ∙ found) in (
        sym name ∙ told.0,
        subst (λ given. HasValues given task) values told.1,
      ),
      λ enters. c.task_named.ensures ∙ found_of _ _ task (
        name ∙ enters.0,
        subst (λ given. HasValues given task) (sym values) enters.1,
      ),
    )
