-- A guess that nobody contradicts holds; else all are where they were.
use Rattle.std.proofs.Common.{◌∙◌, ap, refl, sym, subst, arith}
use Rattle.wl_serial.specs.Guess.{AreAsFar, AreBefore}
use Rattle.wl_serial.specs.Running.{AllKeep, ticks_left}
use Rattle.wl_serial.proofs.Back.{all_guessed, all_passed, back_far, back_known, back_running, ticks_fewer}
use Rattle.wl_serial.proofs.Beside.{somewhere_on}
use Rattle.wl_serial.proofs.Following.{all_later, ran_later}
use Rattle.wl_serial.proofs.Guesses.{holds}
use Rattle.wl_serial.proofs.Keeping.{keep_back, keep_later}
use Rattle.wl_serial.proofs.Runners.{somewhere}
use Rattle.wl_serial.proofs.Slices.{running_of, lines_of, heard_of, known_of, next_of, engine_of, whole}
use Rattle.wl_serial.proofs.engine.Engine.guess.Goals as goal

pub lead-requires-clause-somewhere : goal.lead-requires-clause-somewhere
lead-requires-clause-somewhere c =
    let rs = c.deref_mut-nodes.result.now in
    somewhere c.args.plan.now rs (running_of c.args.plan.now c.args.self.now rs c.deref_mut-nodes.ensures.value c.requires.engine)

pub lead-requires-clause-lines : goal.lead-requires-clause-lines
lead-requires-clause-lines c = lines_of c.args.plan.now c.args.self.now _ c.deref_mut-lines.ensures.value c.requires.engine

pub lead-requires-clause-heard : goal.lead-requires-clause-heard
lead-requires-clause-heard c = heard_of c.args.plan.now c.args.self.now _ _ c.deref_mut-nodes.ensures.value c.deref_mut-lines.ensures.value c.requires.engine

pub lead-requires-clause-below : goal.lead-requires-clause-below
lead-requires-clause-below c = (next_of c.args.plan.now.end c.args.j c.args.self.now.nodes.items _ c.deref_mut-nodes.ensures.value c.requires.next).before

pub follow-requires-clause-somewhere : goal.follow-requires-clause-somewhere
follow-requires-clause-somewhere c =
    let plan = c.args.plan.now in
    let rs = c.deref_mut-nodes.result.now in
    let running = running_of plan c.args.self.now rs c.deref_mut-nodes.ensures.value c.requires.engine in
    somewhere_on plan c.args.j plan.end rs c.lead.new.running (somewhere plan rs running) c.in_ok-lead.ensures.ran

pub promise_all-requires : goal.promise_all-requires
promise_all-requires c =
    let plan = c.args.plan.now in
    let d = c.index-nodes-j.result in
    let rs = c.deref_mut-nodes.result.now in
    let running = running_of plan c.args.self.now rs c.deref_mut-nodes.ensures.value c.requires.engine in
    let next = next_of plan.end c.args.j c.args.self.now.nodes.items rs c.deref_mut-nodes.ensures.value c.requires.next in
    let led = c.lead.new.running in
    let new = c.follow.new.running in
    let lead = c.in_ok-lead.ensures.ran in
    let were = c.in_ok-follow.ensures.listened c.if-branch.true in
    record {
      running =
          holds plan rs new c.min-until.result d c.a_consistent_guess_holds.ensures c.simulation_laws.ensures c.table_laws.ensures c.laws.ensures.sound running
          (let m = c.min-until.ensures in omega (arith, m, c.end.ensures)) (were.all ∙ lead.all)
          (all_guessed plan c.args.j c.min-until.result d rs led new c.simulation_laws.ensures next.is_node (let m = c.min-until.ensures in omega (arith, m)) lead were running.all);
    }

pub returns-then-branch-clause-engine : goal.returns-then-branch-clause-engine
returns-then-branch-clause-engine c =
    let running = c.promise_all.ensures.running in
    let lines = c.in_ok-follow.ensures.lines in
    let old = c.requires.engine.running.all in
    let were = c.requires.engine.lines.all in
    engine_of c.args.plan.now _ c.promise_all.new.running c.follow.new.lines _
    (whole c.args.self.now.nodes.len c.promise_all.new.running c.args.self.now.nodes.items (omega (arith, running.all, old, c.args.self.now.nodes.ok.0)))
    (whole c.args.self.now.lines.len c.follow.new.lines c.args.self.now.lines.items (omega (arith, lines.all, were, c.args.self.now.lines.ok.0)))
    refl running lines (c.promise_all.ensures.heard c.follow.new.lines c.in_ok-follow.ensures.heard) c.all_known-self.ensures

pub returns-then-branch-clause-went : goal.returns-then-branch-clause-went
returns-then-branch-clause-went c =
    let plan = c.args.plan.now in
    let j = c.args.j in
    let d = c.index-nodes-j.result in
    let rs = c.deref_mut-nodes.result.now in
    let next = next_of plan.end j c.args.self.now.nodes.items rs c.deref_mut-nodes.ensures.value c.requires.next in
    let led = c.lead.new.running in
    let new = c.follow.new.running in
    let lead = c.in_ok-lead.ensures.ran in
    let later = all_later rs led new (ran_later plan j plan.end rs led lead) c.in_ok-follow.ensures.later in
    let more = c.in_ok-lead.ensures.later d in
    let on = (c.in_ok-follow.ensures.later.each j d (let b = next.is_node in let e = lead.all in omega (arith, b, e))).next in
    let fewer = ticks_fewer plan.end j d rs new later.all (λ i e b. (later.each i e b).next) next.is_node (next.before d) (omega (arith, more, on)) in
    let left = c.promise_all.ensures.left in
    let were = ap (ticks_left plan.end) c.deref_mut-nodes.ensures.value in
    let now = c.promise_all.ensures.running.all in
    let old = c.requires.engine.running.all in
    let are = ap (ticks_left plan.end) (whole c.args.self.now.nodes.len c.promise_all.new.running c.args.self.now.nodes.items (omega (arith, now, old, c.args.self.now.nodes.ok.0))) in
    omega (arith, fewer, left, were, are)

pub back-requires : goal.back-requires
back-requires c =
    let plan = c.args.plan.now in
    let rs = c.deref_mut-nodes.result.now in
    let running = running_of plan c.args.self.now rs c.deref_mut-nodes.ensures.value c.requires.engine in
    let later = all_later rs c.lead.new.running c.follow.new.running (ran_later plan c.args.j plan.end rs c.lead.new.running c.in_ok-lead.ensures.ran) c.in_ok-follow.ensures.later in
    all_passed plan rs c.follow.new.running c.deref.result.now running (subst (AreBefore rs) (sym c.deref.ensures.value) c.in_ok-marks.ensures) later

pub returns-clause-engine : goal.returns-clause-engine
returns-clause-engine c =
    let plan = c.args.plan.now in
    let rs = c.deref_mut-nodes.result.now in
    let running = running_of plan c.args.self.now rs c.deref_mut-nodes.ensures.value c.requires.engine in
    let known = known_of plan c.args.self.now rs c.deref_mut-nodes.ensures.value c.requires.engine in
    let later = all_later rs c.lead.new.running c.follow.new.running (ran_later plan c.args.j plan.end rs c.lead.new.running c.in_ok-lead.ensures.ran) c.in_ok-follow.ensures.later in
    let back = c.in_ok-back.ensures rs (subst (AreBefore rs) (sym c.deref.ensures.value) c.in_ok-marks.ensures) later in
    let old = c.requires.engine.running.all in
    let were = c.requires.engine.lines.all in
    engine_of plan _ c.back.new.running c.forget.new.lines _
    (whole c.args.self.now.nodes.len c.back.new.running c.args.self.now.nodes.items (omega (arith, back.all, running.all, old, c.args.self.now.nodes.ok.0)))
    (whole c.args.self.now.lines.len c.forget.new.lines c.args.self.now.lines.items (omega (arith, c.forget.ensures.lines.all, were, c.args.self.now.lines.ok.0)))
    refl (back_running plan rs c.back.new.running running back) c.forget.ensures.lines (c.forget.ensures.heard c.back.new.running)
    (back_known plan.end rs c.back.new.running c.args.self.now.known known back)

pub returns-clause-went : goal.returns-clause-went
returns-clause-went c =
    let plan = c.args.plan.now in
    let rs = c.deref_mut-nodes.result.now in
    let later = all_later rs c.lead.new.running c.follow.new.running (ran_later plan c.args.j plan.end rs c.lead.new.running c.in_ok-lead.ensures.ran) c.in_ok-follow.ensures.later in
    let back = c.in_ok-back.ensures rs (subst (AreBefore rs) (sym c.deref.ensures.value) c.in_ok-marks.ensures) later in
    let running = running_of plan c.args.self.now rs c.deref_mut-nodes.ensures.value c.requires.engine in
    let old = c.requires.engine.running.all in
    let are = whole c.args.self.now.nodes.len c.back.new.running c.args.self.now.nodes.items (omega (arith, back.all, running.all, old, c.args.self.now.nodes.ok.0)) in
    subst (AreAsFar c.args.self.now.nodes.items) (sym are) (subst (λ xs. AreAsFar xs c.back.new.running) c.deref_mut-nodes.ensures.value (back_far rs c.back.new.running back))

pub returns-then-branch-clause-keeps : goal.returns-then-branch-clause-keeps
returns-then-branch-clause-keeps c k all =
    let plan = c.args.plan.now in
    let rs = c.deref_mut-nodes.result.now in
    let led = c.lead.new.running in
    let new = c.follow.new.running in
    let later = all_later rs led new (ran_later plan c.args.j plan.end rs led c.in_ok-lead.ensures.ran) c.in_ok-follow.ensures.later in
    let now = c.promise_all.ensures.running.all in
    let old = c.requires.engine.running.all in
    subst (AllKeep k) (sym (whole c.args.self.now.nodes.len c.promise_all.new.running c.args.self.now.nodes.items (omega (arith, now, old, c.args.self.now.nodes.ok.0))))
    (c.promise_all.ensures.keeps k (keep_later k rs new later (subst (AllKeep k) (sym c.deref_mut-nodes.ensures.value) all)))

pub returns-clause-keeps : goal.returns-clause-keeps
returns-clause-keeps c k all =
    let plan = c.args.plan.now in
    let rs = c.deref_mut-nodes.result.now in
    let later = all_later rs c.lead.new.running c.follow.new.running (ran_later plan c.args.j plan.end rs c.lead.new.running c.in_ok-lead.ensures.ran) c.in_ok-follow.ensures.later in
    let back = c.in_ok-back.ensures rs (subst (AreBefore rs) (sym c.deref.ensures.value) c.in_ok-marks.ensures) later in
    let running = running_of plan c.args.self.now rs c.deref_mut-nodes.ensures.value c.requires.engine in
    let old = c.requires.engine.running.all in
    subst (AllKeep k) (sym (whole c.args.self.now.nodes.len c.back.new.running c.args.self.now.nodes.items (omega (arith, back.all, running.all, old, c.args.self.now.nodes.ok.0))))
    (keep_back k rs c.back.new.running back (subst (AllKeep k) (sym c.deref_mut-nodes.ensures.value) all))
