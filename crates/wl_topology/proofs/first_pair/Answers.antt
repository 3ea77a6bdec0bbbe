use Rattle.std.proofs.Common.{◌∙◌, ◌+◌, sym, arith, ap, length}
use Rattle.std.specs.Option.{option_map}
use Rattle.wl_topology.specs.Delays.{Cable}
use Rattle.wl_topology.specs.Search.{has_flaw}
use Rattle.wl_topology.proofs.Pairs.{rows_more, found_in_rows}
use Rattle.wl_topology.proofs.first_pair.Goals as goal

pub returns-in-Some-clause-first : goal.returns-in-Some-clause-first
returns-in-Some-clause-first c =
    let cable : Cable = record { places = c.args.places.now; per = c.args.per } in
    sym
    (found_in_rows (has_flaw c.args.flaw cable) (length c.args.places.now) (c.loop-i.i + 1) (length c.args.places.now) (c.loop-i.i, c.in-Some.j) (omega arith)
    (rows_more (has_flaw c.args.flaw cable) (length c.args.places.now) c.loop-i.i c.loop-i.invariant ∙ sym c.in-Some.ensures.first))

pub loop-i-preserved : goal.loop-i-preserved
loop-i-preserved c =
    let cable : Cable = record { places = c.args.places.now; per = c.args.per } in
    rows_more (has_flaw c.args.flaw cable) (length c.args.places.now) c.loop-i.i c.loop-i.invariant
    ∙ sym c.first_from.ensures.first ∙ ap (option_map (λ j. (c.loop-i.i, j))) c.in_default.is
