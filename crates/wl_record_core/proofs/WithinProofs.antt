-- What is within some limits is within the wide ones, and what is true of a table is within the table's limits.
use Rattle.std.proofs.Common.{◌≤◌, ◌<◌, ℕ, List, length, arith}
use Rattle.std.proofs.lemmas.List.Sums.{count_by-le-length}
use Rattle.std.proofs.lemmas.Option.{slice_get_within}
use Rattle.std.specs.Prelude.{nat_lt}
use Rattle.wl_limits.specs.declared.Limits.{Limits}
use Rattle.wl_limits.specs.declared.Limits.TheVariants.{Narrow, Wide}
use Rattle.wl_record_core.specs.declared.record.Record.{Record}
use Rattle.wl_record_core.specs.declared.record.Record.TheVariants.{Edge, Clash, Silence}
use Rattle.wl_record_core.specs.Limits.{record_nodes, record_edges, most_nodes, most_edges, most_nodes-is, most_edges-is, text_nodes-is, text_edges-is}
use Rattle.wl_record_core.specs.Truth.{IsTrueOf}
use Rattle.wl_record_core.specs.Within.{IsWide, IsWithinBy}

nodes_wide : (limits : Limits) → record_nodes limits ≤ most_nodes
nodes_wide Narrow = omega (arith, most_nodes-is, text_nodes-is)
nodes_wide Wide = omega arith

edges_wide : (limits : Limits) → record_edges limits ≤ most_edges
edges_wide Narrow = omega (arith, most_edges-is, text_edges-is)
edges_wide Wide = omega arith

pub wide_record_limits_hold : (limits : Limits) (r : Record) → IsWithinBy limits r → IsWide r
wide_record_limits_hold limits (Edge node seq tick) h = (omega (arith, h.0, nodes_wide limits), omega (arith, h.1, edges_wide limits), h.2)
wide_record_limits_hold limits (Clash node seq) h = (omega (arith, h.0, nodes_wide limits), omega (arith, h.1, edges_wide limits))
wide_record_limits_hold limits (Silence node count until) h = (omega (arith, h.0, nodes_wide limits), omega (arith, h.1, edges_wide limits), h.2)

pub true_is_within : (limits : Limits) (nodes : ℕ) (table : ℕ → List ℕ) (r : Record) → nodes ≤ record_nodes limits
    → ((i : ℕ) → i < nodes → length (table i) ≤ record_edges limits) → IsTrueOf nodes table r → IsWithinBy limits r
true_is_within limits nodes table (Edge i s t) few short h =
    (omega (arith, h.0, few), omega (arith, slice_get_within (table i) s t h.1, short i h.0), h.2.2)
true_is_within limits nodes table (Silence i n u) few short h =
    (omega (arith, h.0, few), omega (arith, h.1, count_by-le-length (λ v. nat_lt v u) (table i), short i h.0), h.2.2)
true_is_within limits nodes table (Clash i s) few short h = absurd h
