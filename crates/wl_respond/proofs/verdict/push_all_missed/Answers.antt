use Rattle.std.proofs.Common.{rules, string_bytes}
use Rattle.wl_margin.proofs.Callers.{each_more}
use Rattle.wl_respond.specs.Texts.{missed_words}
use Rattle.wl_respond.proofs.verdict.push_all_missed.Goals as goal

pub loop-e-preserved : goal.loop-e-preserved
loop-e-preserved c = (
  each_more (missed_words c.args.names.now c.args.asked.now c.args.lines.now) c.loop-e.e
      (string_bytes c.args.text.now) (string_bytes c.loop-e.text) (string_bytes c.push_missed.new.text) c.loop-e.invariant.0 c.in_ok-push_missed.ensures,
  search rules,
)
