use Rattle.std.proofs.Common.{◌≡◌, ◌∙◌, ◌++◌, ap, subst, string_bytes, OnOk, ℕ, List}
use Rattle.wl_bound.specs.Families.{Buses, family_of}
use Rattle.wl_margin.specs.Standings.{standing_of}
use Rattle.wl_margin.specs.declared.margin.readers.Standing.{Standing}
use Rattle.wl_setup.specs.declared.bus.Deviation.{Deviation}
use Rattle.wl_judge.specs.Plans.{noise_from, noise_of}
use Rattle.wl_judge.proofs.plan.push_noise_with.Goals as goal

pub returns : goal.returns
returns c =
    let is : c.in_ok-family.family ≡ family_of c.args.bus.now.plan c.args.all.now = c.in_ok-family.ensures.family in
    let first : c.bus_standing-first.result ≡ standing_of c.args.bus.now.deviations c.args.bus.now.plan c.in_ok-family.family =
    c.bus_standing-first.ensures.standing
    ∙ ap (λ (d : List Deviation). standing_of d c.args.bus.now.plan c.in_ok-family.family) c.as_slice-2.ensures in
    let said : noise_of c.args.manner.tick c.args.manner.explain c.args.bus.now.names c.in_ok-family.family c.bus_standing-first.result
    ≡ noise_from c.args.manner.tick c.args.manner.explain c.args.bus.now c.args.all.now =
    ap (λ (s : Standing). noise_of c.args.manner.tick c.args.manner.explain c.args.bus.now.names c.in_ok-family.family s) first
    ∙ ap (λ (f : Buses). noise_of c.args.manner.tick c.args.manner.explain c.args.bus.now.names f
    (standing_of c.args.bus.now.deviations c.args.bus.now.plan f)) is in
    subst (λ (x : List ℕ). OnOk c.push_noise_of.result (string_bytes c.push_noise_of.new.text ≡ string_bytes c.args.text.now ++ x)) said
    c.push_noise_of.ensures
