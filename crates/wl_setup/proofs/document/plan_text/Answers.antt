use Rattle.std.proofs.Common.{◌≡◌, ◌∙◌, sym, ap, true, false}
use Rattle.toml.specs.View.{table_view}
use Rattle.wl_setup.specs.declared.keys.Key.TheVariants as key
use Rattle.wl_setup.specs.Kinds.{number_at}
use Rattle.wl_setup.specs.Version.{has_controllers}
use Rattle.wl_setup.proofs.TableLemmas.{read_as, read_narrow, read_wide}
use Rattle.wl_setup.proofs.document.plan_text.Goals as goal

pub returns-in_ok-plain : goal.returns-in_ok-plain
returns-in_ok-plain c =
    let top = table_view c.args.top.now in
    let wide : has_controllers (number_at key.Version top) ≡ true =
    ap has_controllers (sym c.number_at.ensures) ∙ sym c.has_controllers.ensures ∙ c.if-has_controllers.true in
    read_as (table_view c.in_ok-plain.plain) top c.plain_text.result (read_wide top wide ∙ sym c.in_ok-plain.ensures) c.plain_text.ensures

pub returns-else-has_controllers : goal.returns-else-has_controllers
returns-else-has_controllers c =
    let top = table_view c.args.top.now in
    let narrow : has_controllers (number_at key.Version top) ≡ false =
    ap has_controllers (sym c.number_at.ensures) ∙ sym c.has_controllers.ensures ∙ c.if-has_controllers.false in
    read_as top top c.plain_text-else-has_controllers.result (read_narrow top narrow) c.plain_text-else-has_controllers.ensures
