use Rattle.std.proofs.Common.{◌∙◌, true, false, refl, sym, ap}
use Rattle.wl_machine.proofs.FlagSteps.{wait_one, wait_more, wait_happens}
use Rattle.wl_machine.proofs.progress.Progress.waiting.Goals as goal
use Rattle.wl_machine.proofs.progress.Progress.waiting.Goals.{then-is_long, else-is_long}

pub returns-then-is_late : goal.returns-then-is_late
returns-then-is_late c own head mode flag flagged w = elim c.if-is_long.branch [
  | then-is_long b ↦
      wait_one _ _ flag _ flagged own _ c.args.is_late _ _ _ (sym c.if-not-is_dominant.ensures) w b.if-is_long.true b.self-is
      (ap (λ l. wait_happens l true c.args.role) (sym c.if-is_late.true)) c.plain-then-is_late.ensures refl
  | else-is_long b ↦
      wait_more _ _ flag _ flagged own _ c.args.is_late _ _ _ (sym c.if-not-is_dominant.ensures) w b.if-is_long.false b.self-is
      (ap (λ l. wait_happens l false c.args.role) (sym c.if-is_late.true)) c.plain-then-is_late.ensures refl
]

pub returns-then-is_long-2 : goal.returns-then-is_long-2
returns-then-is_long-2 c own head mode flag flagged w = elim c.if-is_long.branch [
  | then-is_long b ↦
      wait_one _ _ flag _ flagged own _ c.args.is_late _ _ _ (sym c.if-not-is_dominant.ensures) w b.if-is_long.true b.self-is
      (c.long_of.ensures ∙ ap (λ l. wait_happens l true c.args.role) (sym c.if-is_late.false)) c.plain-then-is_long-2.ensures refl
  | else-is_long b ↦ absurd (b.if-is_long.false c.if-is_long-2.true)
]

pub returns-else-is_long-2 : goal.returns-else-is_long-2
returns-else-is_long-2 c own head mode flag flagged w = elim c.if-is_long.branch [
  | then-is_long b ↦ absurd (c.if-is_long-2.false b.if-is_long.true)
  | else-is_long b ↦
      wait_more _ _ flag _ flagged own _ c.args.is_late _ _ _ (sym c.if-not-is_dominant.ensures) w b.if-is_long.false b.self-is
      (ap (λ l. wait_happens l false c.args.role) (sym c.if-is_late.false)) c.plain-else-is_long-2.ensures refl
]
