-- Where the drives are known further, what was heard stays.
use Rattle.std.proofs.Common.{◌∙◌, refl, sym, subst, arith}
use Rattle.wl_serial.specs.LineAt.{AreHeard}
use Rattle.wl_serial.specs.QuietLine.{AreLifted, AllStay}
use Rattle.wl_serial.specs.Running.{AllKeep}
use Rattle.wl_serial.proofs.Slices.{running_of, lines_of, heard_of, known_of, engine_of, whole}
use Rattle.wl_serial.proofs.engine.Engine.rest.Goals as goal

pub rests_until-until-requires-clause-running : goal.rests_until-until-requires-clause-running
rests_until-until-requires-clause-running c = running_of c.args.plan.now c.args.self.now _ c.deref.ensures.value c.requires.engine

pub rests_until-until-requires-clause-lines : goal.rests_until-until-requires-clause-lines
rests_until-until-requires-clause-lines c = lines_of c.args.plan.now c.args.self.now _ c.deref-2.ensures.value c.requires.engine

pub rests_until-until-requires-clause-heard : goal.rests_until-until-requires-clause-heard
rests_until-until-requires-clause-heard c = heard_of c.args.plan.now c.args.self.now _ _ c.deref.ensures.value c.deref-2.ensures.value c.requires.engine

pub lift-requires-clause-running : goal.lift-requires-clause-running
lift-requires-clause-running c = running_of c.args.plan.now c.args.self.now _ c.deref_mut.ensures.value c.requires.engine

pub lift-requires-clause-known : goal.lift-requires-clause-known
lift-requires-clause-known c = known_of c.args.plan.now c.args.self.now _ c.deref_mut.ensures.value c.requires.engine

pub lift-requires-clause-stay : goal.lift-requires-clause-stay
lift-requires-clause-stay c = subst (AllStay c.args.plan.now c.rests_until-until.result) (c.deref.ensures.value ∙ sym c.deref_mut.ensures.value) c.rests_until-until.ensures

pub returns-clause-engine : goal.returns-clause-engine
returns-clause-engine c =
    let new = c.lift.ensures.running in
    let old = c.requires.engine.running.all in
    engine_of c.args.plan.now _ c.lift.new.running c.args.self.now.lines.items c.lift.new.known
    (whole c.args.self.now.nodes.len c.lift.new.running c.args.self.now.nodes.items (omega (arith, new.all, old, c.args.self.now.nodes.ok.0)))
    refl refl new c.requires.engine.lines
    (c.lift.ensures.lifted.heard c.args.self.now.lines.items
    (subst (λ xs. AreHeard c.args.plan.now xs c.args.self.now.lines.items) (sym c.deref_mut.ensures.value) c.requires.engine.heard))
    c.lift.ensures.known

pub returns-clause-lifted : goal.returns-clause-lifted
returns-clause-lifted c =
    let new = c.lift.ensures.running.all in
    let old = c.requires.engine.running.all in
    let are = whole c.args.self.now.nodes.len c.lift.new.running c.args.self.now.nodes.items (omega (arith, new, old, c.args.self.now.nodes.ok.0)) in
    subst (AreLifted c.args.plan.now c.args.self.now.nodes.items) (sym are)
    (subst (λ xs. AreLifted c.args.plan.now xs c.lift.new.running) c.deref_mut.ensures.value c.lift.ensures.lifted)

pub returns-clause-keeps : goal.returns-clause-keeps
returns-clause-keeps c k all =
    let new = c.lift.ensures.running.all in
    let old = c.requires.engine.running.all in
    let are = whole c.args.self.now.nodes.len c.lift.new.running c.args.self.now.nodes.items (omega (arith, new, old, c.args.self.now.nodes.ok.0)) in
    subst (AllKeep k) (sym are) (c.lift.ensures.keeps k (subst (AllKeep k) (sym c.deref_mut.ensures.value) all))
