use Rattle.std.proofs.Common.{subst, sym}
use Rattle.wl_c.specs.Made.{Makes}
use Rattle.wl_c.specs.declared.asked.Task.{Task}
use Rattle.wl_c.proofs.engines.make.Goals as goal

pub returns-in-Margin : goal.returns-in-Margin
returns-in-Margin c =
    subst (λ (task : Task). Makes c.args.order.format task c.args.text.now c.margin_of.result) (sym c.in-Margin.is) c.margin_of.ensures
