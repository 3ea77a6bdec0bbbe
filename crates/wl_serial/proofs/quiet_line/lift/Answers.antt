-- One node more is known further.
use Rattle.std.proofs.Common.{◌≡◌, ◌<◌, ◌∙◌, ap, length, get_or, subst, sym, arith}
use Rattle.std.proofs.Math.ListN.{set, length-set}
use Rattle.std.proofs.lemmas.List.{get_or_default, get_or-set_other}
use Rattle.wl_node.specs.Reached.{keeps_lists}
use Rattle.wl_serial.specs.declared.running_node.Running.{Running}
use Rattle.wl_serial.proofs.Keeping.{keep_on}
use Rattle.wl_serial.proofs.Known.{known_on}
use Rattle.wl_serial.proofs.Resting.{lifted_on, stay_on}
use Rattle.wl_serial.proofs.Runners.{one_on}
use Rattle.wl_serial.proofs.quiet_line.lift.Goals as goal

pub lift-requires-clause-running : goal.lift-requires-clause-running
lift-requires-clause-running c =
    c.loop-i.invariant.0.each c.loop-i.i c.index-running-i.result (omega (arith, c.loop-i-test.true, c.loop-i.invariant.0.all, c.requires.running.all))

pub loop-i-preserved : goal.loop-i-preserved
loop-i-preserved c =
    let plan = c.args.plan.now in
    let rs = c.loop-i.running in
    let i = c.loop-i.i in
    let r = c.lift.new.self in
    let h = c.loop-i.invariant in
    let b : i < length rs = omega (arith, c.loop-i-test.true, h.0.all, c.requires.running.all) in
    let here : (d : Running) → get_or rs i c.index-running-i.result ≡ get_or rs i d = λ d. get_or_default rs i c.index-running-i.result d b in
    let next : (d : Running) → r.next ≡ (get_or rs i d).next = λ d. c.lift.ensures.next ∙ ap (λ x. x.next) (here d) in (
      one_on plan rs i r b h.0 c.lift.ensures.running,
      known_on plan.end rs (set rs i r) c.loop-i.known i _ (omega (arith, b, h.1.all, h.1.few)) b (length-set rs i r) h.1 (λ k d other. get_or-set_other rs i k r d other)
          (λ d. ap (λ x. x.known) (get_or_default (set rs i r) i c.index-running-i-in-loop-i.result d (subst (λ n. i < n) (sym (length-set rs i r)) b))),
      stay_on rs i r b next plan c.args.until h.2,
      lifted_on rs i r b next plan c.args.running.now (λ d. c.lift.ensures.changes ∙ ap (λ x. x.changes) (here d))
          (λ d. let e = ap (λ x. x.known) (here d) in let f = c.lift.ensures.known in omega (arith, e, f)) h.3,
      (λ k all. keep_on k rs i r b (h.4 k all) (λ d. ap keeps_lists c.lift.ensures.node ∙ ap (λ x. keeps_lists x.node) (here d))),
    )
