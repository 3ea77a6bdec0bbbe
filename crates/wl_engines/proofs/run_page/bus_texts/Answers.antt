use Rattle.std.proofs.Common.{ℕ, string_bytes, subst}
use Rattle.wl_margin.specs.Margins.{IsMarginText}
use Rattle.wl_plan.specs.declared.plan.Plan.{Plan}
use Rattle.wl_setup.specs.Check.{IsPlanCheck}
use Rattle.wl_engines.proofs.run_page.bus_texts.Goals as goal

-- what is doubtful goes with whether anything is
pub returns : goal.returns
returns c =
    let bus = c.args.bus.now in (
      (c.in_ok-figures.field-0.doubted, c.in_ok-figures.ensures),
      subst (λ (p : Plan). IsPlanCheck p bus.names (string_bytes c.in_ok-settings.settings)) c.deref.ensures.0 c.in_ok-settings.ensures,
      subst (λ (n : ℕ). IsMarginText n bus (string_bytes c.in_ok-margin.margin.text)) c.picoseconds.ensures.value c.in_ok-margin.ensures.text,
    )
