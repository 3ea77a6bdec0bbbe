use Rattle.std.proofs.Common.{◌∙◌, sym}
use Rattle.wl_trace.proofs.Following.{waiting_ends}
use Rattle.wl_trace.proofs.stretch.after_waiting.Goals as goal

pub returns : goal.returns
returns c = λ x flag flagged own e. waiting_ends flag flagged own x c.args.level c.args.sends e (sym c.is_dominant.ensures ∙ c.if-is_dominant.false)
