-- One node more is marked.
use Rattle.std.proofs.Common.{◌∙◌, subst}
use Rattle.std.proofs.lemmas.List.{get_or_default}
use Rattle.wl_serial.specs.Guess.{IsBefore}
use Rattle.wl_serial.proofs.Back.{marks_more}
use Rattle.wl_serial.proofs.guess.keep.Goals as goal

pub loop-i-preserved : goal.loop-i-preserved
loop-i-preserved c =
    marks_more c.args.running.now c.loop-i.marks.items c.push.new.self.items c.keep.result c.loop-i.i c.in_ok-push.ensures.items c.loop-i.invariant.0 c.loop-i.invariant.1
    (λ d. subst (λ r. IsBefore r c.keep.result) (c.index-running-i.is ∙ get_or_default c.args.running.now c.loop-i.i c.index-running-i.result d c.loop-i-test.true) c.keep.ensures)
