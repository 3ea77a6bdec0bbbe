use Rattle.std.proofs.Common.{◌≡◌, ap, sym, subst, ◌∙◌, arith}
use Rattle.std.specs.List.{filter_map}
use Rattle.std.specs.FinMap.{entries}
use Rattle.wl_lattice.specs.declared.FlatWord.{FlatWord}
use Rattle.wl_replica.specs.State.{State, FitsEdge, edge_at}
use Rattle.wl_replica.specs.Canonical.{edge_record, of_node}
use Rattle.wl_replica.specs.Dense.{row_number, slot_number}
use Rattle.wl_lattice.specs.Numbers.{number_word}
use Rattle.wl_replica.proofs.States.{edge_maps}
use Rattle.wl_replica.proofs.Tells.{tells_edge}
use Rattle.wl_replica.proofs.CanonicalLemmas.{no_edge}
use Rattle.wl_replica.proofs.DenseShown.{row_words, row_records}
use Rattle.wl_replica.proofs.dense.Rows.edge_numbers.Goals as goal

pub numbers_of-requires : goal.numbers_of-requires
numbers_of-requires c =
    let same : c.self.inside.nodes ≡ c.args.self.now.nodes = ap (λ (s : State). s.nodes) c.self.view_is in
    omega (arith, c.requires, c.self.invariant.edge_rows, same)

pub returns-clause-words : goal.returns-clause-words
returns-clause-words c n = row_words number_word edge_maps tells_edge c.self.inside.edges.rows.items c.args.node c.numbers_of.result.now c.numbers_of.ensures.value n ∙ ap (λ (s : State). edge_at s (c.args.node, n)) c.self.view_is

pub returns-clause-records : goal.returns-clause-records
returns-clause-records c =
    row_records number_word edge_maps tells_edge c.self.inside.edges.rows.items c.args.node c.numbers_of.result.now c.numbers_of.ensures.value edge_record no_edge
    ∙ ap (λ (s : State). filter_map edge_record (of_node c.args.node (entries s.edges))) c.self.view_is

pub returns-clause-within : goal.returns-clause-within
returns-clause-within c n t is =
    let number : row_number c.numbers_of.result.now n ≡ slot_number c.self.inside.edges.rows.items (c.args.node, n) = ap (λ row. row_number row n) c.numbers_of.ensures.value in
    let fits = subst (λ (w : FlatWord). FitsEdge c.self.inside.nodes ((c.args.node, n), w)) (sym (ap number_word number) ∙ is) (c.self.invariant.edges_fit (c.args.node, n)) in
    (fits.1.1, fits.1.2)
