use Rattle.std.proofs.Common.{◌≡◌, ◌∙◌, ap, subst, sym, string_bytes, List, Option, Some}
use Rattle.std.specs.Prelude.{option_map}
use Rattle.std.proofs.lemmas.Result.{IfOk-weaker}
use Rattle.wl_bound.specs.Families.{Buses, family_of}
use Rattle.wl_bound.specs.Oscillators.{Pace}
use Rattle.wl_traffic.specs.Silence.{IsFamilyLine}
use Rattle.wl_traffic.proofs.silence.line_by.Goals as goal

pub returns-in_ok-family-in-Some : goal.returns-in_ok-family-in-Some
returns-in_ok-family-in-Some c =
    let is : c.in_ok-family-in-Some.family ≡ family_of c.args.bus.now.plan c.in-Some.all =
    c.in_ok-family-in-Some.ensures.family ∙ ap (family_of c.args.bus.now.plan) c.as_slice.ensures in
    let some : Some c.in_ok-family-in-Some.family ≡ option_map (family_of c.args.bus.now.plan) c.args.oscillators =
    ap Some is ∙ ap (option_map (family_of c.args.bus.now.plan)) (sym c.in-Some.is) in
    IfOk-weaker c.family_line.result _ _ (λ text h. subst (λ (o : Option Buses). IsFamilyLine c.args.tick c.args.bus.now o (string_bytes text)) some h) c.family_line.ensures
