-- The node that ran on is in its place, and the others stay.
use Rattle.std.proofs.Common.{◌∙◌, ◌<◌, ◌++◌, ◌∷◌, [], length, get_or, ap, arith}
use Rattle.std.proofs.lemmas.List.{get_or_default, get_or-set_same}
use Rattle.wl_serial.specs.Running.{one_more}
use Rattle.wl_serial.proofs.Hearing.{heard_same}
use Rattle.wl_serial.proofs.Runners.{stretched}
use Rattle.wl_serial.proofs.turn.run_found.Goals as goal

pub go-requires-clause-somewhere : goal.go-requires-clause-somewhere
go-requires-clause-somewhere c = c.requires.somewhere.each c.args.j c.index-running-j.result (omega (arith, c.requires.node, c.requires.somewhere.all))

pub returns-in-Some-clause-ran : goal.returns-in-Some-clause-ran
returns-in-Some-clause-ran c =
    let inside : c.args.j < length c.args.running.now = omega (arith, c.requires.node, c.requires.somewhere.all) in
    let is = c.in_ok-tick.ensures in
    stretched c.args.plan.now c.args.running.now c.args.j c.args.found.until c.index-running-j.result c.go.new.self c.args.found inside c.requires.found (omega arith)
    is.somewhere is.goes is.below is.known is.further is.later

pub returns-clause-ran : goal.returns-clause-ran
returns-clause-ran c =
    let inside : c.args.j < length c.args.running.now = omega (arith, c.requires.node, c.requires.somewhere.all) in
    let is = c.in_ok-tick.ensures in
    stretched c.args.plan.now c.args.running.now c.args.j c.args.found.until c.index-running-j.result c.go.new.self c.args.found inside c.requires.found (omega arith)
    is.somewhere is.goes is.below is.known is.further is.later

pub returns-clause-heard : goal.returns-clause-heard
returns-clause-heard c =
    let inside : c.args.j < length c.args.running.now = omega (arith, c.requires.node, c.requires.somewhere.all) in
    heard_same c.args.plan.now c.args.running.now c.args.j c.go.new.self c.args.lines.now inside
    (λ d. let same = get_or_default c.args.running.now c.args.j c.index-running-j.result d inside in (
      c.in_ok-tick.ensures.told ∙ (ap (one_more (get_or c.args.running.now c.args.j c.index-running-j.result).changes) c.in_default.is ∙ ap (λ r. r.changes) same),
      (let e = ap (λ r. r.next) same in omega (arith, e, c.in_ok-tick.ensures.later)),
    ))
    c.requires.heard

pub returns-in-Some-clause-heard : goal.returns-in-Some-clause-heard
returns-in-Some-clause-heard c =
    let inside : c.args.j < length c.args.running.now = omega (arith, c.requires.node, c.requires.somewhere.all) in
    c.tell.ensures.heard c.args.running.now c.go.new.self inside c.requires.heard
    (λ d. let same = get_or_default c.args.running.now c.args.j c.index-running-j.result d inside in (
      c.in_ok-tick.ensures.told
          ∙ (ap (one_more (get_or c.args.running.now c.args.j c.index-running-j.result).changes) c.in-Some.is ∙ ap (λ r. r.changes ++ c.in-Some.tick ∷ []) same),
      (let e = ap (λ r. r.next) same in omega (arith, e, c.in_ok-tick.ensures.later)),
    ))

pub returns-clause-same : goal.returns-clause-same
returns-clause-same c none d inside =
    ap (λ r. r.changes) (get_or-set_same c.args.running.now c.args.j c.go.new.self d inside)
    ∙ (c.in_ok-tick.ensures.told
    ∙ (ap (one_more (get_or c.args.running.now c.args.j c.index-running-j.result).changes) c.in_default.is
    ∙ ap (λ r. r.changes) (get_or_default c.args.running.now c.args.j c.index-running-j.result d inside)))
