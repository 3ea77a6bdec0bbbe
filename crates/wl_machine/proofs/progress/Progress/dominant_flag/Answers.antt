use Rattle.std.proofs.Common.{◌≡◌, ◌≤◌, ◌∙◌, [], ◌∷◌, ◌++◌, sym, arith}
use Rattle.wl_level.specs.declared.Level.TheVariants.{Dominant}
use Rattle.wl_level.specs.Places.{run_at_end}
use Rattle.wl_machine.proofs.FlagSteps.{flag_on, flag_ends, dominant_longer, dominant_broken}
use Rattle.wl_machine.proofs.progress.Progress.dominant_flag.Goals as goal
use Rattle.wl_machine.proofs.progress.Progress.dominant_flag.Goals.{then-is_dominant, else-is_dominant, then-count-lt5, else-count-lt5}

pub returns : goal.returns
returns c own head mode e r =
    let run_now : run_at_end Dominant (own ++ c.args.level ∷ []) ≡ c.if-is_dominant.run = elim c.if-is_dominant.branch [
      | then-is_dominant w ↦ dominant_longer own c.args.level (sym c.is_dominant.ensures ∙ w.if-is_dominant.true) ∙ omega (arith, w.run-is)
      | else-is_dominant w ↦ dominant_broken own c.args.level (sym c.is_dominant.ensures ∙ w.if-is_dominant.false) ∙ sym w.run-is
    ] in
    let small : c.if-is_dominant.run ≤ 6 = elim c.if-is_dominant.branch [
      | then-is_dominant w ↦ omega (arith, w.run-is)
      | else-is_dominant w ↦ omega (arith, w.run-is)
    ] in
    elim c.if-count-lt5.branch [
      | then-count-lt5 w ↦ flag_on _ _ _ _ own _ c.args.count _ _ e.is_length w.if-count-lt5.true run_now c.flag_happens.ensures c.plain.ensures w.self-is
      | else-count-lt5 w ↦ flag_ends _ _ _ _ own _ c.args.count _ _ _ e.is_length (omega arith) run_now small w.is_late.ensures c.flag_happens.ensures c.plain.ensures w.self-is
    ]
