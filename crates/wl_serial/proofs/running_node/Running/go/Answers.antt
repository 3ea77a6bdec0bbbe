-- A node runs on by its quanta, and the tick of its next one is noted.
use Rattle.std.proofs.Common.{inl, inr, ap, subst, arith}
use Rattle.wl_serial.specs.Running.{by_quanta}
use Rattle.wl_serial.specs.Stretch.{HasFollowed}
use Rattle.wl_serial.proofs.Along.{arrived, by_quanta_is, few_followed, somewhere_by_quanta}
use Rattle.wl_serial.proofs.running_node.Running.go.Goals as goal

pub run-requires-clause-somewhere : goal.run-requires-clause-somewhere
run-requires-clause-somewhere c = somewhere_by_quanta c.args.plan.now c.args.i c.args.self.now c.requires.somewhere

pub arrive-requires-clause-few : goal.arrive-requires-clause-few
arrive-requires-clause-few c =
    let plan = c.args.plan.now in
    let i = c.args.i in
    let old = c.args.self.now in
    let ran = c.in_ok-change.ensures.ran in
    let is = ap (λ r. r.next) (by_quanta_is plan i c.requires.somewhere.0 old c.requires.somewhere.1) in
    few_followed plan i c.args.until (by_quanta plan i old) (by_quanta plan i c.run.new.self) c.laws.ensures.sound c.requires.node c.requires.ends
    (omega (arith, is, c.requires.below)) ran.somewhere ran.below

pub returns-clause-somewhere : goal.returns-clause-somewhere
returns-clause-somewhere c =
    let plan = c.args.plan.now in
    let i = c.args.i in
    let old = c.args.self.now in
    let mid = c.run.new.self in
    let is = by_quanta_is plan i c.requires.somewhere.0 old c.requires.somewhere.1 in
    let ran = subst (λ r. HasFollowed plan i c.args.until (λ t. c.args.level) r (by_quanta plan i mid)) is c.in_ok-change.ensures.ran in
    (arrived plan i c.args.until (λ t. c.args.level) old mid c.arrive.new.self c.requires.below c.arrive.ensures.node c.arrive.ensures.changes c.arrive.ensures.next ran).somewhere

pub returns-clause-goes : goal.returns-clause-goes
returns-clause-goes c =
    let plan = c.args.plan.now in
    let i = c.args.i in
    let old = c.args.self.now in
    let mid = c.run.new.self in
    let is = by_quanta_is plan i c.requires.somewhere.0 old c.requires.somewhere.1 in
    let ran = subst (λ r. HasFollowed plan i c.args.until (λ t. c.args.level) r (by_quanta plan i mid)) is c.in_ok-change.ensures.ran in
    (arrived plan i c.args.until (λ t. c.args.level) old mid c.arrive.new.self c.requires.below c.arrive.ensures.node c.arrive.ensures.changes c.arrive.ensures.next ran).goes

pub returns-clause-below : goal.returns-clause-below
returns-clause-below c =
    let plan = c.args.plan.now in
    let i = c.args.i in
    let old = c.args.self.now in
    let mid = c.run.new.self in
    let is = by_quanta_is plan i c.requires.somewhere.0 old c.requires.somewhere.1 in
    let ran = subst (λ r. HasFollowed plan i c.args.until (λ t. c.args.level) r (by_quanta plan i mid)) is c.in_ok-change.ensures.ran in
    (arrived plan i c.args.until (λ t. c.args.level) old mid c.arrive.new.self c.requires.below c.arrive.ensures.node c.arrive.ensures.changes c.arrive.ensures.next ran).below

pub returns-clause-further : goal.returns-clause-further
returns-clause-further c =
    let plan = c.args.plan.now in
    let i = c.args.i in
    let old = c.args.self.now in
    let mid = c.run.new.self in
    let is = by_quanta_is plan i c.requires.somewhere.0 old c.requires.somewhere.1 in
    let ran = subst (λ r. HasFollowed plan i c.args.until (λ t. c.args.level) r (by_quanta plan i mid)) is c.in_ok-change.ensures.ran in
    (arrived plan i c.args.until (λ t. c.args.level) old mid c.arrive.new.self c.requires.below c.arrive.ensures.node c.arrive.ensures.changes c.arrive.ensures.next ran).further

pub returns-clause-known : goal.returns-clause-known
returns-clause-known c =
    let same = c.in_ok-change.ensures.ran.known in
    record {
      promised = λ was. c.arrive.ensures.promised;
      known = elim c.arrive.ensures.known [
        | inl old ↦ inl (omega (arith, old, same))
        | inr new ↦ inr new
      ];
    }

pub returns-clause-later : goal.returns-clause-later
returns-clause-later c =
    let plan = c.args.plan.now in
    let old = c.args.self.now in
    let is = ap (λ r. r.next) (by_quanta_is plan c.args.i c.requires.somewhere.0 old c.requires.somewhere.1) in
    let more = c.in_ok-change.ensures.later (omega (arith, is, c.requires.below)) in
    let next = c.arrive.ensures.next in
    omega (arith, is, more, next)
