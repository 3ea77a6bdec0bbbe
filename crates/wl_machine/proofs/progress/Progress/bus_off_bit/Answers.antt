use Rattle.std.proofs.Common.{◌∙◌, sym, ap, arith}
use Rattle.wl_machine.proofs.Between.{off_broken, off_longer, off_run, off_ends}
use Rattle.wl_machine.proofs.progress.Progress.bus_off_bit.Goals as goal
use Rattle.wl_machine.proofs.progress.Progress.bus_off_bit.Goals.{then-is_dominant, else-is_dominant+then-run-lt10, else-is_dominant+else-run-lt10+then-runs-lt127}

pub returns-else-runs-lt127 : goal.returns-else-runs-lt127
returns-else-runs-lt127 c own mode b =
    off_ends _ _ own _ c.args.runs c.args.run b (sym c.is_dominant.ensures ∙ c.if-is_dominant.false) (omega arith) c.if-runs-lt127.false c.plain.ensures c.free.ensures

pub returns : goal.returns
returns c own mode b = elim c.if-is_dominant.branch [
  | then-is_dominant w ↦ off_broken _ _ own _ c.args.runs c.args.run b (sym c.is_dominant.ensures ∙ w.if-is_dominant.true) c.plain-2.ensures (ap (λ m. m.state) w.self-is)
  | else-is_dominant+then-run-lt10 w ↦
      off_longer _ _ own _ c.args.runs c.args.run b (sym c.is_dominant.ensures ∙ w.if-is_dominant.false) (omega arith) c.plain-2.ensures (ap (λ m. m.state) w.self-is)
  | else-is_dominant+else-run-lt10+then-runs-lt127 w ↦
      off_run _ _ own _ c.args.runs c.args.run b (sym c.is_dominant.ensures ∙ w.if-is_dominant.false) (omega arith) (omega arith) c.plain-2.ensures (ap (λ m. m.state) w.self-is)
]
