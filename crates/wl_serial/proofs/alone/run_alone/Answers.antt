-- The node that ran on is in its place, and the others stay.
use Rattle.std.proofs.Common.{◌∙◌, ◌<◌, length, get_or, sym, ap, subst, arith}
use Rattle.std.proofs.lemmas.List.{get_or_default}
use Rattle.wl_serial.specs.LineAt.{AreHeard}
use Rattle.wl_serial.specs.Running.{by_quanta, one_more}
use Rattle.wl_serial.proofs.Along.{along_few, along_length, along_set, along_stretched}
use Rattle.wl_serial.proofs.Hearing.{heard_same}
use Rattle.wl_serial.proofs.alone.run_alone.Goals as goal

pub arrive-requires-clause-few : goal.arrive-requires-clause-few
arrive-requires-clause-few c =
    along_few c.args.plan.now c.args.j _ c.args.i c.args.until c.args.running.now c.run_along.new.running (omega (arith, c.requires.node, c.requires.somewhere.all)) c.in_ok-change.ensures.ran
    c.index-running-i.result c.laws.ensures.sound c.requires.node c.requires.ends c.requires.below

pub returns-in-Some-clause-ran : goal.returns-in-Some-clause-ran
returns-in-Some-clause-ran c =
    let is = c.in_ok-change.ensures in
    let z = c.arrive.ensures in
    along_stretched c.args.plan.now c.args.j _ c.args.i c.args.until c.args.running.now c.run_along.new.running c.index-running-i.result c.arrive.new.self
    (omega (arith, c.requires.node, c.requires.somewhere.all)) c.requires.below c.requires.only is.ran
    ((c.requires.lines.each c.args.i _ (omega (arith, c.requires.node, c.requires.lines.all))).delays.1 c.args.j _ c.requires.leader) is.later z.node z.changes z.next z.promised z.known

pub returns-clause-ran : goal.returns-clause-ran
returns-clause-ran c =
    let is = c.in_ok-change.ensures in
    let z = c.arrive.ensures in
    along_stretched c.args.plan.now c.args.j _ c.args.i c.args.until c.args.running.now c.run_along.new.running c.index-running-i.result c.arrive.new.self
    (omega (arith, c.requires.node, c.requires.somewhere.all)) c.requires.below c.requires.only is.ran
    ((c.requires.lines.each c.args.i _ (omega (arith, c.requires.node, c.requires.lines.all))).delays.1 c.args.j _ c.requires.leader) is.later z.node z.changes z.next z.promised z.known

pub returns-in-Some-clause-heard : goal.returns-in-Some-clause-heard
returns-in-Some-clause-heard c =
    let plan = c.args.plan.now in
    let i = c.args.i in
    let old = c.args.running.now in
    let new = c.run_along.new.running in
    let is = c.in_ok-change.ensures in
    let b : i < length old = omega (arith, c.requires.node, c.requires.somewhere.all) in
    let all = along_length plan c.args.j _ i c.args.until old new b is.ran in
    subst (λ xs. AreHeard plan xs c.tell.new.lines) (sym (along_set plan c.args.j _ i c.args.until old new b is.ran c.arrive.new.self))
    (c.tell.ensures.heard old c.arrive.new.self b c.requires.heard
    (λ d. let same = get_or_default new i c.index-running-i.result d (omega (arith, b, all)) in (
      c.arrive.ensures.changes ∙ (ap (λ r. r.changes) same ∙ (is.told d ∙ ap (one_more (get_or old i d).changes) c.in-Some.is)),
      (let e = ap (λ r. (by_quanta plan i r).next) same in let f = is.later d in omega (arith, e, f, c.arrive.ensures.next)),
    )))

pub returns-clause-heard : goal.returns-clause-heard
returns-clause-heard c =
    let plan = c.args.plan.now in
    let i = c.args.i in
    let old = c.args.running.now in
    let new = c.run_along.new.running in
    let is = c.in_ok-change.ensures in
    let b : i < length old = omega (arith, c.requires.node, c.requires.somewhere.all) in
    let all = along_length plan c.args.j _ i c.args.until old new b is.ran in
    subst (λ xs. AreHeard plan xs c.args.lines.now) (sym (along_set plan c.args.j _ i c.args.until old new b is.ran c.arrive.new.self))
    (heard_same plan old i c.arrive.new.self c.args.lines.now b
    (λ d. let same = get_or_default new i c.index-running-i.result d (omega (arith, b, all)) in (
      c.arrive.ensures.changes ∙ (ap (λ r. r.changes) same ∙ (is.told d ∙ ap (one_more (get_or old i d).changes) c.in_default.is)),
      (let e = ap (λ r. (by_quanta plan i r).next) same in let f = is.later d in omega (arith, e, f, c.arrive.ensures.next)),
    ))
    c.requires.heard)
