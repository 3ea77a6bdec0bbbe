-- While a node drives dominant the line is dominant. If none does, of no node a change comes by that tick any more.
use Rattle.std.proofs.Common.{◌<◌, refl, get_or, arith}
use Rattle.wl_topology.specs.Limits.{most_places}
use Rattle.wl_serial.proofs.Kept.{told_by, told_driving, with_one}
use Rattle.wl_serial.proofs.sources.Sources.hear_all.Goals as goal

pub returns-then-t-until-clause-told : goal.returns-then-t-until-clause-told
returns-then-t-until-clause-told c =
    let s = c.args.self.now in
    let pulse = c.dominant_pulse.ensures in
    told_driving c.args.plan.now c.args.running.now c.args.j s c.dominant_pulse.result (λ i u d b after before. c.requires.sources i u d b (let e = pulse.from in omega (arith, e, after)) before)
    (λ u before. c.dominant_until-until.ensures u (let e = pulse.until in omega (arith, e, before))) pulse.dominant

pub returns-then-t-until-2-clause-told : goal.returns-then-t-until-2-clause-told
returns-then-t-until-2-clause-told c =
    let pulse = c.dominant_pulse-then-t-until-2.ensures in
    told_driving c.args.plan.now c.args.running.now c.args.j c.take_due-until.new.self c.dominant_pulse-then-t-until-2.result
    (λ i u d b after before. c.take_due-until.ensures.sources i u d b (let e = pulse.from in omega (arith, e, after)) before)
    (λ u before. c.take_due-until.ensures.driving u (let e = pulse.until in omega (arith, e, before))) pulse.dominant

pub returns-clause-until : goal.returns-clause-until
returns-clause-until c =
    let s = c.take_due-until.new.self in
    let t = c.args.t in
    let due = c.take_due-until.ensures in
    let later = due.later c.if-t-until-2.false in
    let others = c.others_until-self.ensures.later t c.requires.early later in
    let one : t < get_or s.nexts s.one 0 = later s.one (due.inside c.if-t-until-2.false) in
    let min = c.min.ensures in
    omega (arith, others, one, min)

pub returns-clause-told : goal.returns-clause-told
returns-clause-told c =
    let plan = c.args.plan.now in
    let s = c.take_due-until.new.self in
    let due = c.take_due-until.ensures in
    let min = c.min.ensures in
    told_by plan c.args.running.now c.args.j most_places s _ c.laws.ensures.checked.few_nodes due.kept due.sources
    (with_one s.one c.min.result s (λ k other b. let e = c.others_until-self.ensures.few k other b in omega (arith, e, min)) (omega (arith, min))) refl
