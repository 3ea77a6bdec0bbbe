use Rattle.std.proofs.Common.{◌≡◌, ◌∙◌, Some, sym}
use Rattle.wl_margin.specs.Margins.{paces_of}
use Rattle.wl_margin.proofs.PaceLemmas.{paces-length}
use Rattle.wl_explain.proofs.explanation.family_in.Goals as goal

pub of_plan-requires : goal.of_plan-requires
of_plan-requires c =
    let all = rw c.as_slice.ensures at c.in_ok-all.ensures in
    let are : paces_of c.args.bus.now.deviations ≡ Some c.in-Some.all = sym all ∙ c.in-Some.is in
    record { one_each = rw c.as_slice-in-Some.ensures (paces-length c.args.bus.now.deviations c.in-Some.all are ∙ c.requires.deviations) }
