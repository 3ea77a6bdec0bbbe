use Rattle.std.proofs.Common.{◌≡◌, ◌+◌, ◌≤◌, ◌∙◌, not, cond, ◌&&◌, sym, ap, arith}
use Rattle.wl_level.specs.Levels.{same, is_dominant}
use Rattle.wl_machine.proofs.FlagSteps.{passive_on, passive_ends, acknowledged}
use Rattle.wl_machine.proofs.progress.Progress.passive_flag.Goals as goal
use Rattle.wl_machine.proofs.progress.Progress.passive_flag.Goals.{then-is, else-is, then-run-lt6, else-run-lt6, then-counts, else-counts}

pub returns : goal.returns
returns c own head mode u p =
    let run_now : c.if-is.run ≡ cond (same c.args.level c.args.last) (c.args.run + 1) 1 = elim c.if-is.branch [
      | then-is w ↦ w.run-is ∙ ap (λ b. cond b (c.args.run + 1) 1) (sym w.if-is.true ∙ c.is.ensures)
      | else-is w ↦ w.run-is ∙ ap (λ b. cond b (c.args.run + 1) 1) (sym w.if-is.false ∙ c.is.ensures)
    ] in
    let small : c.if-is.run ≤ 6 = elim c.if-is.branch [
      | then-is w ↦ omega (arith, w.run-is)
      | else-is w ↦ omega (arith, w.run-is)
    ] in
    let happened : c.if-counts.plain ≡ acknowledged (c.args.counts_missing_ack && is_dominant c.args.level) = elim c.if-counts.branch [
      | then-counts w ↦ w.plain-is ∙ ap acknowledged (sym w.if-counts.true ∙ ap (λ b. c.args.counts_missing_ack && b) c.is_dominant-2.ensures)
      | else-counts w ↦ w.plain-is ∙ ap acknowledged (sym w.if-counts.false ∙ ap (λ b. c.args.counts_missing_ack && b) c.is_dominant-2.ensures)
    ] in
    elim c.if-run-lt6.branch [
      | then-run-lt6 w ↦
          passive_on _ _ _ own _ c.args.counts_missing_ack u c.args.last c.args.run c.if-is.run _ _ p run_now w.if-run-lt6.true
          (ap (λ b. c.args.counts_missing_ack && not b) w.is_dominant.ensures) happened c.plain.ensures w.self-is
      | else-run-lt6 w ↦
          passive_ends _ _ _ own _ c.args.counts_missing_ack u c.args.last c.args.run _ _ p (omega arith ∙ run_now) w.is_late.ensures happened c.plain.ensures w.self-is
    ]
