use Rattle.std.proofs.Common.{◌≡◌, ◌∙◌, ℕ, List, Bor, sym, ap, subst}
use Rattle.wl_bound.specs.Evaluated.{HasWaysOfNode}
use Rattle.wl_bound.specs.OneBuses.{the_bus}
use Rattle.wl_bound.proofs.WayRows.{row_of}
use Rattle.wl_bound.proofs.evaluated.EvaluatedBus.way.Goals as goal

pub way_in-requires-clause-ways : goal.way_in-requires-clause-ways
way_in-requires-clause-ways c = λ ways e.
    let same : c.as_slice.result ≡ ways = cc in
    let now : c.in-Some.rows.now.ways ≡ ways.now = sym c.as_slice.ensures ∙ ap (λ (w : Bor (List ℕ)). w.now) same in
    subst (HasWaysOfNode c.args.i (the_bus c.args.self.now.bus)) now (row_of _ _ _ _ (c.args.self.now.some _ c.in-Some.is).ways c.requires.one)
