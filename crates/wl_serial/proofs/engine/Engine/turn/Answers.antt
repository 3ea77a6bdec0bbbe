-- The node has run a quantum at least, since all waited for it.
use Rattle.std.proofs.Common.{◌∙◌, ◌<◌, ap, length, refl, sym, subst, arith}
use Rattle.std.proofs.Math.ListN.{set, length-set}
use Rattle.std.proofs.lemmas.List.{get_or_default}
use Rattle.wl_node.specs.Reached.{keeps_lists}
use Rattle.wl_serial.specs.Running.{AllKeep, ticks_left}
use Rattle.wl_serial.proofs.Hearing.{heard_same}
use Rattle.wl_serial.proofs.Keeping.{keep_on}
use Rattle.wl_serial.proofs.Known.{known_on, only_one_on}
use Rattle.wl_serial.proofs.Runners.{one_on, same_left}
use Rattle.wl_serial.proofs.Slices.{running_of, lines_of, heard_of, known_of, next_of, engine_of, whole}
use Rattle.wl_serial.proofs.engine.Engine.turn.Goals as goal

pub run_below-requires-clause-running : goal.run_below-requires-clause-running
run_below-requires-clause-running c = running_of c.args.plan.now c.args.self.now _ c.deref_mut-nodes.ensures.value c.requires.engine

pub run_below-requires-clause-lines : goal.run_below-requires-clause-lines
run_below-requires-clause-lines c = lines_of c.args.plan.now c.args.self.now _ c.deref_mut-lines.ensures.value c.requires.engine

pub run_below-requires-clause-heard : goal.run_below-requires-clause-heard
run_below-requires-clause-heard c = heard_of c.args.plan.now c.args.self.now _ _ c.deref_mut-nodes.ensures.value c.deref_mut-lines.ensures.value c.requires.engine

pub promise-requires-clause-running : goal.promise-requires-clause-running
promise-requires-clause-running c =
    let old = c.requires.engine.running.all in
    let new = c.in_ok-run_below.ensures.running.all in
    let b = c.requires.next.is_node in
    c.in_ok-run_below.ensures.running.each c.args.j c.index-nodes-j.result (omega (arith, old, new, b))

pub returns-clause-nearer : goal.returns-clause-nearer
returns-clause-nearer c =
    let rs = c.deref_mut-nodes.result.now in
    let next = next_of c.args.plan.now.end c.args.j c.args.self.now.nodes.items rs c.deref_mut-nodes.ensures.value c.requires.next in
    let same = same_left c.args.plan.now.end c.run_below.new.running c.args.j c.promise.new.self c.index-nodes-j.result c.promise.ensures.next in
    let fewer = c.in_ok-run_below.ensures.fewer (λ d. c.horizon-horizon.ensures.later _ (next.before d) (next.first d)) in
    let were = ap (ticks_left c.args.plan.now.end) c.deref_mut-nodes.ensures.value in
    let now = set c.run_below.new.running c.args.j c.promise.new.self in
    let all = length-set c.run_below.new.running c.args.j c.promise.new.self in
    let new = c.in_ok-run_below.ensures.running.all in
    let old = c.requires.engine.running.all in
    let are = ap (ticks_left c.args.plan.now.end) (whole c.args.self.now.nodes.len now c.args.self.now.nodes.items (omega (arith, all, new, old, c.args.self.now.nodes.ok.0))) in
    omega (arith, same, fewer, were, are)

pub returns-clause-engine : goal.returns-clause-engine
returns-clause-engine c =
    let plan = c.args.plan.now in
    let j = c.args.j in
    let old = running_of plan c.args.self.now c.deref_mut-nodes.result.now c.deref_mut-nodes.ensures.value c.requires.engine in
    let known = known_of plan c.args.self.now c.deref_mut-nodes.result.now c.deref_mut-nodes.ensures.value c.requires.engine in
    let rs = c.run_below.new.running in
    let r = c.promise.new.self in
    let new = c.in_ok-run_below.ensures.running in
    let is_node = c.requires.next.is_node in
    let few = c.requires.engine.running.all in
    let b : j < length rs = omega (arith, few, new.all, is_node) in
    let was : j < length c.deref_mut-nodes.result.now = omega (arith, few, old.all, is_node) in
    let all = length-set rs j r in
    let places = c.in_ok-run_below.ensures.lines.all in
    let were = c.requires.engine.lines.all in
    engine_of plan _ (set rs j r) c.run_below.new.lines _
    (whole c.args.self.now.nodes.len (set rs j r) c.args.self.now.nodes.items (omega (arith, all, new.all, few, c.args.self.now.nodes.ok.0)))
    (whole c.args.self.now.lines.len c.run_below.new.lines c.args.self.now.lines.items (omega (arith, places, were, c.args.self.now.lines.ok.0)))
    refl
    (one_on plan rs j r b new c.promise.ensures.running)
    c.in_ok-run_below.ensures.lines
    (heard_same plan rs j r c.run_below.new.lines b
    (λ d. let same = get_or_default rs j c.index-nodes-j.result d b in (
      c.promise.ensures.changes ∙ ap (λ x. x.changes) same,
      (let e = ap (λ x. x.next) same in omega (arith, e, c.promise.ensures.next)),
    ))
    c.in_ok-run_below.ensures.heard)
    (known_on plan.end c.deref_mut-nodes.result.now (set rs j r) c.args.self.now.known j _ (omega (arith, was, known.all, known.few)) was
    (all ∙ (new.all ∙ sym old.all)) known (only_one_on j c.deref_mut-nodes.result.now rs r c.in_ok-run_below.ensures.others)
    (λ d. ap (λ x. x.known) (get_or_default (set rs j r) j c.index-nodes-j-2.result d (subst (λ n. j < n) (sym all) b))))

pub returns-clause-keeps : goal.returns-clause-keeps
returns-clause-keeps c k all =
    let j = c.args.j in
    let rs = c.run_below.new.running in
    let r = c.promise.new.self in
    let new = c.in_ok-run_below.ensures.running in
    let is_node = c.requires.next.is_node in
    let few = c.requires.engine.running.all in
    let b : j < length rs = omega (arith, few, new.all, is_node) in
    let long = length-set rs j r in
    subst (AllKeep k) (sym (whole c.args.self.now.nodes.len (set rs j r) c.args.self.now.nodes.items (omega (arith, long, new.all, few, c.args.self.now.nodes.ok.0))))
    (keep_on k rs j r b (c.in_ok-run_below.ensures.keeps k (subst (AllKeep k) (sym c.deref_mut-nodes.ensures.value) all))
    (λ d. ap keeps_lists c.promise.ensures.node ∙ ap (λ x. keeps_lists x.node) (get_or_default rs j c.index-nodes-j.result d b)))
