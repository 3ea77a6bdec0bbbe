-- The first disturbance that is refused, where none before it is.
use Rattle.std.proofs.Common.{List, ◌<◌, ◌≡◌, ◌∙◌, length, get_or, true, sym, ap, arith}
use Rattle.wl_plan.specs.declared.plan.Disturbance.{Disturbance}
use Rattle.wl_plan.specs.Checked.{is_refused}
use Rattle.wl_plan.proofs.CheckProofs.{refused_is, refused_none, no_disturbance}
use Rattle.wl_plan.proofs.plan.Plan.first_refused.Goals as goal

pub returns-then-is_refused : goal.returns-then-is_refused
returns-then-is_refused c =
    let same = c.as_slice-d-items.ensures in
    let inside : c.loop-n.n < length c.args.self.now.disturbances = omega (arith, ap length same) in
    let here : is_refused c.args.limits c.args.self.now (c.loop-n.n, get_or c.args.self.now.disturbances c.loop-n.n no_disturbance) ≡ true =
    ap (λ (items : List Disturbance). is_refused c.args.limits c.args.self.now (c.loop-n.n, get_or items c.loop-n.n no_disturbance)) (sym same) ∙ (sym c.is_refused.ensures ∙ c.if-is_refused.true) in
    sym (refused_is c.args.limits c.args.self.now c.loop-n.n no_disturbance inside here (λ k b. c.loop-n.invariant k no_disturbance b))

pub returns : goal.returns
returns c =
    let same = c.as_slice-d-items.ensures in
    sym (refused_none c.args.limits c.args.self.now no_disturbance (λ k b. c.loop-n.invariant k no_disturbance (omega (arith, ap length same))))
