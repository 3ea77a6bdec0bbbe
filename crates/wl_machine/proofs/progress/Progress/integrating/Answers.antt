use Rattle.std.proofs.Common.{◌∙◌, sym, ap, suc, ◌+◌, arith}
use Rattle.wl_machine.proofs.Between.{integration_on, integration_ends, run_recessive, run_broken}
use Rattle.wl_machine.proofs.progress.Progress.integrating.Goals as goal
use Rattle.wl_machine.proofs.progress.Progress.integrating.Goals.{then-is_dominant, else-is_dominant+then-run-eq10, else-is_dominant+else-run-eq10}

pub returns : goal.returns
returns c own mode e = elim c.if-is_dominant.branch [
  | then-is_dominant w ↦
      integration_on _ _ own _ 0 (run_broken own _ (sym c.is_dominant.ensures ∙ w.if-is_dominant.true)) (omega arith) c.plain.ensures (ap (λ m. m.state) w.self-is)
  | else-is_dominant+then-run-eq10 w ↦
      rw w.self-is
      (integration_ends _ _ own _ (run_recessive own _ (sym c.is_dominant.ensures ∙ w.if-is_dominant.false) ∙ ap suc (sym e ∙ w.if-run-eq10.true)) c.plain.ensures w.free.ensures)
  | else-is_dominant+else-run-eq10 w ↦
      integration_on _ _ own _ (c.args.run + 1) (run_recessive own _ (sym c.is_dominant.ensures ∙ w.if-is_dominant.false) ∙ omega arith) (omega arith)
      c.plain.ensures (ap (λ m. m.state) w.self-is)
]
