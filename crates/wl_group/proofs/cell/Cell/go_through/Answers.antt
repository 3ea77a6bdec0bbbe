-- Stretch after stretch: each begins where the one before it is over, and whether the drive changed at the last quantum is known of all.
use Rattle.std.proofs.Common.{◌≡◌, suc, ◌-◌, ◌≤◌, slice_index_or, sym, subst, arith}
use Rattle.wl_group.specs.Heard.{no_stretch}
use Rattle.wl_group.specs.Through.{HasGoneIn}
use Rattle.wl_group.proofs.ThroughProofs.{gone_both, gone_still}
use Rattle.wl_group.proofs.cell.Cell.go_through.Goals.{then-self-stretch+in-Ok, else-self-stretch}
use Rattle.wl_group.proofs.cell.Cell.go_through.Goals as goal

pub go_in-requires-then-self-stretch-clause-from : goal.go_in-requires-then-self-stretch-clause-from
go_in-requires-then-self-stretch-clause-from c =
    let m = c.loop-m.m in
    let ss = c.args.ahead.now.stretches in
    let e : suc (m - 1) ≡ m = omega (arith, c.loop-m.auto.m) in
    let a = subst (λ x. (slice_index_or ss x no_stretch).from ≤ (slice_index_or ss (m - 1) no_stretch).until) e (c.requires.ahead.joined (m - 1) (omega (arith, e, c.loop-m-test.true))) in
    omega (arith, a, c.if-self-reached.false)

pub returns-in-Err-clause-gone : goal.returns-in-Err-clause-gone
returns-in-Err-clause-gone c =
    let p = c.args.plan.now in
    gone_still c.simulation_laws.ensures p c.laws.ensures.sound c.args.i c.requires.node c.args.end c.requires.stop c.args.self.now c.loop-m.self c.loop-m.turned
    c.requires.cell c.requires.inside c.loop-m.invariant c.go_in-then-self-stretch.new.self c.in-Err.ensures.err

pub loop-m-preserved : goal.loop-m-preserved
loop-m-preserved c =
    let p = c.args.plan.now in
    elim c.if-self-stretch.branch [
      | then-self-stretch+in-Ok w ↦
          subst (λ x. HasGoneIn p c.args.i c.args.end c.args.self.now x c.if-self-stretch.turned) (sym w.self-is)
          (subst (λ x. HasGoneIn p c.args.i c.args.end c.args.self.now w.go_in-then-self-stretch.new.self x) (sym w.turned-is)
          (gone_both c.simulation_laws.ensures p c.laws.ensures.sound c.args.i c.requires.node c.args.end c.requires.stop c.args.self.now c.loop-m.self c.loop-m.turned
          c.requires.cell c.requires.inside c.loop-m.invariant w.go_in-then-self-stretch.new.self w.in-Ok.more c.if-turned.false w.in-Ok.ensures.gone))
      | else-self-stretch w ↦
          subst (λ x. HasGoneIn p c.args.i c.args.end c.args.self.now x c.if-self-stretch.turned) (sym w.self-is)
          (subst (λ x. HasGoneIn p c.args.i c.args.end c.args.self.now c.loop-m.self x) (sym w.turned-is) c.loop-m.invariant)
    ]
