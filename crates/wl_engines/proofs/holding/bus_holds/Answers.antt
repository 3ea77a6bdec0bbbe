use Rattle.std.proofs.Common.{◌≡◌, ◌∙◌, Some, ap, length, sym}
use Rattle.wl_bound.specs.Families.{Buses}
use Rattle.wl_margin.specs.Margins.{paces_of}
use Rattle.wl_margin.proofs.PaceLemmas.{members-length, paces-length}
use Rattle.wl_engines.proofs.holding.bus_holds.Goals as goal

pub of_plan-requires : goal.of_plan-requires
of_plan-requires c =
    let all = rw c.as_slice.ensures at c.in_ok-oscillators.ensures in
    let are : paces_of c.args.bus.now.deviations ≡ Some c.in-Some.oscillators = sym all ∙ c.in-Some.is in
    record { one_each = rw c.as_slice-in-Some.ensures (paces-length c.args.bus.now.deviations c.in-Some.oscillators are ∙ c.requires) }

pub family_holds-requires-clause-members : goal.family_holds-requires-clause-members
family_holds-requires-clause-members c =
    let all = rw c.as_slice.ensures at c.in_ok-oscillators.ensures in
    let are : paces_of c.args.bus.now.deviations ≡ Some c.in-Some.oscillators = sym all ∙ c.in-Some.is in
    let made = rw c.as_slice-in-Some.ensures at c.in_ok-own-in-Some.ensures in
    let many = paces-length c.args.bus.now.deviations c.in-Some.oscillators are ∙ c.requires in
    c.in_ok-judged-in-Some.ensures.members
    ∙ (ap (λ (f : Buses). length f.members) made ∙ members-length c.args.bus.now.plan.nodes c.in-Some.oscillators many)
