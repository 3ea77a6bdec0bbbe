use Rattle.std.proofs.Common.{◌∙◌, sym}
use Rattle.wl_sweep.proofs.Varied.{no_plus, no_size_parsed, size_parsed}
use Rattle.wl_sweep.proofs.vary.size_of.Goals as goal

pub returns-in-Ok : goal.returns-in-Ok
returns-in-Ok c =
    size_parsed c.args.text.now c.in-Ok.size (no_plus c.args.text.now c.after_plus.result c.after_plus.ensures (sym c.is_some.ensures ∙ c.if-is_some.false))
    c.in-Ok.ensures.value.0 c.if-size-le-LARGEST_NUMBER.true

pub returns-in_default-2 : goal.returns-in_default-2
returns-in_default-2 c =
    no_size_parsed _ c.args.text.now c.in_default.field-0 (no_plus c.args.text.now c.after_plus.result c.after_plus.ensures (sym c.is_some.ensures ∙ c.if-is_some.false))
    c.in_default.ensures.value.0
