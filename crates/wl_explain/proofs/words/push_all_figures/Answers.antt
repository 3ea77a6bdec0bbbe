use Rattle.std.proofs.Common.{string_bytes}
use Rattle.wl_explain.specs.Words.{figures_line}
use Rattle.wl_margin.proofs.Callers.{each_more}
use Rattle.wl_explain.proofs.words.push_all_figures.Goals as goal

pub loop-i-preserved : goal.loop-i-preserved
loop-i-preserved c =
    each_more (figures_line c.args.plan.now c.args.names.now) c.loop-i.i (string_bytes c.args.text.now) (string_bytes c.loop-i.text) (string_bytes c.push_figures.new.text)
    c.loop-i.invariant c.in_ok-push_figures.ensures
