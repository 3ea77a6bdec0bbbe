-- By its changes.
use Rattle.std.proofs.Common.{◌≡◌, ◌∙◌, ℕ, List, length, get_or, ap, sym, subst, arith}
use Rattle.wl_topology.specs.Delays.{delay_of}
use Rattle.wl_record_core.specs.Truth.{IsIncreasing}
use Rattle.wl_plan.specs.declared.plan.Plan.{Plan}
use Rattle.wl_plan.specs.PlanLine.{line_of, table_of}
use Rattle.wl_views.proofs.SignalProofs.{drive_is, driven_more, drives_all}
use Rattle.wl_views.proofs.Turns.{known_from}
use Rattle.wl_views.proofs.signals.ask_again.Goals as goal

pub bounds-all-i : goal.bounds-all-i
bounds-all-i c =
    let e = ap length c.as_slice-all.ensures in
    let n = drives_all c.args.plan.now c.args.drives.now c.requires.drives in
    omega arith

pub pulse_of-requires-clause-order : goal.pulse_of-requires-clause-order
pulse_of-requires-clause-order c =
    let are : c.as_slice-changes.result.now ≡ table_of c.args.plan.now c.args.i =
    c.as_slice-changes.ensures
    ∙ c.index-all-i.is
    ∙ ap (λ (xs : List (List ℕ)). get_or xs c.args.i c.index-all-i.result) c.as_slice-all.ensures
    ∙ drive_is c.args.plan.now c.args.drives.now c.args.i c.index-all-i.result c.requires.drives c.requires.from
    in
    subst IsIncreasing (sym are) (c.simulation_laws.ensures.changes_increase (line_of c.args.plan.now) c.args.i)

pub returns-clause-held : goal.returns-clause-held
returns-clause-held c =
    let are : c.as_slice-changes.result.now ≡ table_of c.args.plan.now c.args.i =
    c.as_slice-changes.ensures
    ∙ c.index-all-i.is
    ∙ ap (λ (xs : List (List ℕ)). get_or xs c.args.i c.index-all-i.result) c.as_slice-all.ensures
    ∙ drive_is c.args.plan.now c.args.drives.now c.args.i c.index-all-i.result c.requires.drives c.requires.from
    in
    driven_more c.simulation_laws.ensures c.args.plan.now c.laws.ensures.sound c.args.i c.requires.from c.args.j c.args.t c.delay-delay.result
    c.as_slice-changes.result.now c.pulse_of.result (c.delay-delay.ensures.ticks ∙ ap (λ (p : Plan). delay_of p.topology c.args.i c.args.j) c.deref.ensures.0) are
    (known_from _ c.args.t c.pulse_of.result c.pulse_of.ensures.from c.pulse_of.ensures.until c.pulse_of.ensures.dominant)
