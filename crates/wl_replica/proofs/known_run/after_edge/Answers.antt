use Rattle.std.proofs.Common.{ap, sym, ◌∙◌}
use Rattle.wl_replica.specs.Dense.{edges_of_row, row_number}
use Rattle.wl_replica.specs.Known.{is_tick}
use Rattle.wl_replica.proofs.WalkLemmas.{no_value, no_more}
use Rattle.wl_replica.proofs.RunLemmas.{made_of, edge_beyond, end_beyond, edge_stays, edge_cut, edge_cut_few}
use Rattle.wl_replica.proofs.known_run.after_edge.Goals as goal

pub run_on-requires-clause-run : goal.run_on-requires-clause-run
run_on-requires-clause-run c = edge_beyond (edges_of_row c.args.edges.now) (row_number c.args.silences.now) c.args.seq c.args.known c.requires.was c.if-seq-known.true

pub run_on-requires-clause-end : goal.run_on-requires-clause-end
run_on-requires-clause-end c = end_beyond (edges_of_row c.args.edges.now) (row_number c.args.silences.now) c.args.seq c.args.known c.requires.was c.if-seq-known.true

pub returns-in-Value : goal.returns-in-Value
returns-in-Value c =
    edge_stays (edges_of_row c.args.edges.now) (row_number c.args.silences.now) c.args.seq c.args.known c.requires.was c.if-seq-known.false c.in-Value.field-0 (sym c.edge_at.ensures ∙ c.in-Value.is)

pub returns-in_default : goal.returns-in_default
returns-in_default c =
    let e = edges_of_row c.args.edges.now in
    let s = row_number c.args.silences.now in
    let n = c.args.seq in
    made_of e s n (edge_cut_few e s n c.args.known c.requires.was c.if-seq-known.false) (edge_cut e s n c.args.known c.requires.was c.if-seq-known.false)
    (no_more e s n (sym (ap is_tick c.edge_at.ensures) ∙ no_value c.edge_at.result c.in_default.not-Value))
    c.known_at-in_default.result c.first_of.result c.known_at-in_default.ensures.run c.first_of.ensures.length c.first_of.ensures.end c.known_at-in_default.ensures.horizon
