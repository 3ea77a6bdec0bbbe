use Rattle.std.proofs.Common.{◌≡◌, ◌+◌, ◌∙◌, sym, arith, true, false, length}
use Rattle.std.proofs.lemmas.Bool.{cond-true, cond-false}
use Rattle.wl_topology.specs.Delays.{Cable}
use Rattle.wl_topology.specs.Search.{has_flaw}
use Rattle.wl_topology.proofs.Pairs.{row_more, found_in_row}
use Rattle.wl_topology.proofs.first_from.Goals as goal

pub returns-then-is_in-clause-first : goal.returns-then-is_in-clause-first
returns-then-is_in-clause-first c =
    let cable : Cable = record { places = c.args.places.now; per = c.args.per } in
    let flawed : has_flaw c.args.flaw cable (c.args.i, c.loop-j.j) ≡ true = cc in
    sym
    (found_in_row (has_flaw c.args.flaw cable) c.args.i (c.loop-j.j + 1) (length c.args.places.now) (c.args.i, c.loop-j.j) (omega arith)
    (row_more (has_flaw c.args.flaw cable) c.args.i c.loop-j.j c.loop-j.invariant ∙ cond-true _ _ _ flawed))

pub loop-j-preserved : goal.loop-j-preserved
loop-j-preserved c =
    let cable : Cable = record { places = c.args.places.now; per = c.args.per } in
    let fine : has_flaw c.args.flaw cable (c.args.i, c.loop-j.j) ≡ false = cc in
    row_more (has_flaw c.args.flaw cable) c.args.i c.loop-j.j c.loop-j.invariant ∙ cond-false _ _ _ fine
