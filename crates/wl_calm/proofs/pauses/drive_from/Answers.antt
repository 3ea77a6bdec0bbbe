-- By its changes.
use Rattle.std.proofs.Common.{◌≡◌, ◌∙◌, ℕ, suc, List, length, get_or, ap, sym, subst, arith}
use Rattle.wl_record_core.specs.Truth.{count_below, IsIncreasing, odd}
use Rattle.wl_plan.specs.PlanLine.{line_of, table_of}
use Rattle.wl_calm.proofs.Driving.{drive_is, drives_all, drove_now}
use Rattle.wl_calm.proofs.pauses.drive_from.Goals as goal

pub bounds-all-i : goal.bounds-all-i
bounds-all-i c =
    let e = ap length c.as_slice-all.ensures in
    let n = drives_all c.args.plan.now c.args.drives.now c.requires.drives in
    omega (arith, e, n, c.requires.node)

pub pulse_of-requires-clause-order : goal.pulse_of-requires-clause-order
pulse_of-requires-clause-order c =
    let are : c.as_slice-changes.result.now ≡ table_of c.args.plan.now c.args.i =
    c.as_slice-changes.ensures
    ∙ c.index-all-i.is
    ∙ ap (λ (xs : List (List ℕ)). get_or xs c.args.i c.index-all-i.result) c.as_slice-all.ensures
    ∙ drive_is c.args.plan.now c.args.drives.now c.args.i c.index-all-i.result c.requires.drives c.requires.node
    in
    subst IsIncreasing (sym are) (c.simulation_laws.ensures.changes_increase (line_of c.args.plan.now) c.args.i)

pub returns-clause-dominant : goal.returns-clause-dominant
returns-clause-dominant c = λ t from until.
    (let are : c.as_slice-changes.result.now ≡ table_of c.args.plan.now c.args.i =
    c.as_slice-changes.ensures
    ∙ c.index-all-i.is
    ∙ ap (λ (xs : List (List ℕ)). get_or xs c.args.i c.index-all-i.result) c.as_slice-all.ensures
    ∙ drive_is c.args.plan.now c.args.drives.now c.args.i c.index-all-i.result c.requires.drives c.requires.node
    in
    c.simulation_laws.ensures.level_odd (line_of c.args.plan.now) c.args.i t c.laws.ensures.sound.causal c.requires.node
    ∙ ap (λ xs. odd (count_below (suc t) xs)) (sym are) ∙ sym (drove_now c.as_slice-changes.result.now t) ∙ c.pulse_of.ensures.dominant t from until)
