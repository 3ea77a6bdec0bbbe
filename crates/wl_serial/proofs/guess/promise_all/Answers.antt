-- One node more has promised.
use Rattle.std.proofs.Common.{◌≡◌, ◌<◌, ◌∙◌, ap, length, get_or, arith}
use Rattle.std.proofs.lemmas.List.{get_or_default}
use Rattle.wl_node.specs.Reached.{keeps_lists}
use Rattle.wl_serial.specs.declared.running_node.Running.{Running}
use Rattle.wl_serial.proofs.Hearing.{heard_same}
use Rattle.wl_serial.proofs.Keeping.{keep_on}
use Rattle.wl_serial.proofs.Runners.{one_on, same_left}
use Rattle.wl_serial.proofs.guess.promise_all.Goals as goal

pub promise-requires-clause-running : goal.promise-requires-clause-running
promise-requires-clause-running c =
    c.loop-i.invariant.0.each c.loop-i.i c.index-running-i.result (omega (arith, c.loop-i-test.true, c.loop-i.invariant.0.all, c.requires.running.all))

pub loop-i-preserved : goal.loop-i-preserved
loop-i-preserved c =
    let plan = c.args.plan.now in
    let rs = c.loop-i.running in
    let i = c.loop-i.i in
    let r = c.promise.new.self in
    let h = c.loop-i.invariant in
    let d = c.index-running-i.result in
    let b : i < length rs = omega (arith, c.loop-i-test.true, h.0.all, c.requires.running.all) in
    let here : (e : Running) → get_or rs i d ≡ get_or rs i e = λ e. get_or_default rs i d e b in
    let left = same_left plan.end rs i r d c.promise.ensures.next in
    let more = h.2 in (
      one_on plan rs i r b h.0 c.promise.ensures.running,
      (λ lines was. heard_same plan rs i r lines b (λ e. (
        c.promise.ensures.changes ∙ ap (λ x. x.changes) (here e),
        (let f = c.promise.ensures.next in let g = ap (λ x. x.next) (here e) in omega (arith, f, g)),
      )) (h.1 lines was)),
      omega (arith, left, more),
      (λ k all. keep_on k rs i r b (h.3 k all) (λ e. ap keeps_lists c.promise.ensures.node ∙ ap (λ x. keeps_lists x.node) (here e))),
    )
