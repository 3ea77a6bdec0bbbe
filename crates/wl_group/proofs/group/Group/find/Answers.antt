-- What a place finds is kept.
use Rattle.std.proofs.Common.{◌≡◌, ◌<◌, ◌∙◌, [], length, Some, None, true, get_or, sym, subst, arith}
use Rattle.std.proofs.lemmas.List.{get_or_default, length-map}
use Rattle.wl_plan.specs.PlanLine.{line_of}
use Rattle.wl_group.specs.GroupValue.{GroupValue, belongs}
use Rattle.wl_group.specs.Heard.{AreHeardOf}
use Rattle.wl_group.specs.Kept.{quanta_kept}
use Rattle.wl_group.proofs.BeginProofs.{has_place, cell_read}
use Rattle.wl_group.proofs.HeardProofs.{one_more_heard, one_more_disturbed, one_place_more}
use Rattle.wl_group.proofs.group.Group.find.Goals as goal

pub stretch_around-stretch-requires-clause-ways : goal.stretch_around-stretch-requires-clause-ways
stretch_around-stretch-requires-clause-ways c =
    let cells = c.self.inside.cells.items in
    let b : c.args.i < length cells = has_place cells c.args.i (subst (λ (v : GroupValue). belongs v c.args.i ≡ true) (sym c.self.view_is) c.requires.member) in
    let e : get_or cells c.args.i None ≡ Some c.in-Some.cell = cell_read cells c.args.i c.index.result.now c.in-Some.cell b c.index.ensures c.in-Some.is in
    (c.self.invariant.kept.placed c.args.i c.in-Some.cell e).ways

pub stretch_around-stretch-requires-clause-sources : goal.stretch_around-stretch-requires-clause-sources
stretch_around-stretch-requires-clause-sources c =
    let g = c.self.inside in
    let cells = g.cells.items in
    let places = g.sources.items in
    let kept = c.self.invariant.sources in
    let b = has_place cells c.args.i (subst (λ (v : GroupValue). belongs v c.args.i ≡ true) (sym c.self.view_is) c.requires.member) in
    let value = c.self.invariant.kept.value in
    let inside : c.args.i < length places = omega (arith, b, length-map cells quanta_kept, value.one_each, value.checked.few_nodes, kept.count) in
    let now = c.index_mut.result.now in
    let e : now ≡ get_or places c.args.i [] = c.index_mut.ensures.value ∙ get_or_default places c.args.i now [] inside in
    subst (AreHeardOf (line_of g.plan) c.args.i) (sym e) (kept.each c.args.i)

pub invariant_of-self : goal.invariant_of-self
invariant_of-self c = record {
  kept = c.self.invariant.kept;
  stretches = one_more_heard (line_of c.self.inside.plan) c.self.inside.heard c.args.i c.stretch_around-stretch.result c.self.invariant.stretches c.stretch_around-stretch.ensures.found;
  disturbances = one_more_disturbed c.self.inside.plan c.self.inside.disturbances c.args.i c.disturbance_around-disturbance.result c.self.invariant.disturbances c.disturbance_around-disturbance.ensures.disturbance;
  sources = one_place_more (line_of c.self.inside.plan) c.self.inside.sources.items c.args.i _ c.self.invariant.sources c.stretch_around-stretch.ensures.sources;
}
