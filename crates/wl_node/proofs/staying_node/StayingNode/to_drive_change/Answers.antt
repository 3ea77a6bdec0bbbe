-- Quanta of one level, after those that left the drive as it was.
use Rattle.std.proofs.Common.{◌≡◌, ◌∙◌, ◌+◌, ◌-◌, ap, arith, sym, subst}
use Rattle.std.proofs.lemmas.Bool.{both_ways}
use Rattle.wl_level.specs.Levels.{same}
use Rattle.wl_level.proofs.Callers.{same_self, same_equal}
use Rattle.wl_node.specs.Staying.{StayingHasGone, StayingHasStopped}
use Rattle.wl_node.proofs.Gone.{gone_more, on_err, stands_by, stopped_more, turns_by}
use Rattle.wl_node.proofs.staying_node.StayingNode.to_drive_change.Goals as goal

pub returns-then-not-is-clause-gone : goal.returns-then-not-is-clause-gone
returns-then-not-is-clause-gone c =
    gone_more c.args.level c.loop-done.done c.in_ok-done.field-0 c.args.self.now c.loop-done.self c.to_sample_or_event.new.self
    c.loop-done.invariant.0 c.loop-done.invariant.1.0 c.in_ok-done.ensures.gone

pub returns-then-not-is-clause-turned : goal.returns-then-not-is-clause-turned
returns-then-not-is-clause-turned c few =
    turns_by (returns-then-not-is-clause-gone c) c.drive-before.ensures c.drive.ensures
    (λ e. both_ways (same c.drive.result c.drive-before.result) (sym c.is.ensures ∙ c.if-not-is.true) (ap (same c.drive.result) (sym e) ∙ same_self c.drive.result))

pub loop-done-preserved : goal.loop-done-preserved
loop-done-preserved c =
    let g : StayingHasGone c.args.level (c.loop-done.done + c.in_ok-done.field-0) c.args.self.now c.to_sample_or_event.new.self =
    gone_more c.args.level c.loop-done.done c.in_ok-done.field-0 c.args.self.now c.loop-done.self c.to_sample_or_event.new.self
    c.loop-done.invariant.0 c.loop-done.invariant.1.0 c.in_ok-done.ensures.gone in
    (g, (stands_by g c.drive-before.ensures c.drive.ensures (same_equal c.drive.result c.drive-before.result (sym c.is.ensures ∙ c.if-not-is.false)), omega (arith, c.in_ok-done.ensures.few)))

pub returns-in_err-done-clause-stopped : goal.returns-in_err-done-clause-stopped
returns-in_err-done-clause-stopped c =
    on_err c.from_residual.result
    (subst (λ n. StayingHasStopped c.args.level n c.args.self.now c.to_sample_or_event.new.self) (let e : c.loop-done.done + (c.args.most - c.loop-done.done) ≡ c.args.most = omega (arith, c.loop-done-test.true) in e)
    (stopped_more c.args.level c.loop-done.done (c.args.most - c.loop-done.done) c.args.self.now c.loop-done.self c.to_sample_or_event.new.self
    c.loop-done.invariant.0 c.loop-done.invariant.1.0 c.in_err-done.ensures.stopped))
