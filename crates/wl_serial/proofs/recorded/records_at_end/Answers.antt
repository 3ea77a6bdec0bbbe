-- The records of each node are after those of the nodes before it, and there are as many nodes as the plan has.
use Rattle.std.proofs.Common.{◌≡◌, ◌<◌, ◌≤◌, ◌∙◌, ◌++◌, ap, sym, subst, arith, length, map, get_or, ℕ, List}
use Rattle.std.specs.List.{enumerate_from, flat_map, range_with_len}
use Rattle.std.proofs.lemmas.List.FromFn.{length-map-range_with_len, get_or-map-range_with_len}
use Rattle.wl_record_core.specs.Limits.{most_edges}
use Rattle.wl_plan.specs.PlanLine.{table_of}
use Rattle.wl_serial.specs.Outcome.{node_outcome_of}
use Rattle.wl_serial.specs.Records.{node_records}
use Rattle.wl_serial.proofs.Told.{nodes_on}
use Rattle.wl_serial.proofs.Runners.{stands_at}
use Rattle.wl_serial.proofs.recorded.records_at_end.Goals as goal

pub push_node-requires : goal.push_node-requires
push_node-requires c =
    let all = c.requires.running.all in
    let is_node : c.loop-i.i < length c.args.plan.now.nodes = omega arith in
    let changes = c.changes_at_end.ensures c.args.plan.now c.loop-i.i c.laws.ensures.checked is_node
    (stands_at c.args.plan.now c.args.running.now c.loop-i.i c.index-running-i.result c.loop-i-test.true c.index-running-i.is c.requires.running)
    (subst (λ r. c.args.plan.now.end ≤ r.next) (sym c.index-running-i.is) (c.requires.ended c.loop-i.i c.index-running-i.result c.loop-i-test.true)) in
    subst (λ ts. length ts ≤ most_edges) (sym changes)
    (subst (λ o. length o.changes ≤ most_edges)
    (get_or-map-range_with_len (node_outcome_of c.args.plan.now) 0 (length c.args.plan.now.nodes) c.loop-i.i c.loop-i.i (node_outcome_of c.args.plan.now c.loop-i.i) is_node (omega arith))
    ((c.outcome_is_recordable.ensures c.args.plan.now c.laws.ensures.checked).few_changes c.loop-i.i (node_outcome_of c.args.plan.now c.loop-i.i)
    (let e = length-map-range_with_len (node_outcome_of c.args.plan.now) 0 (length c.args.plan.now.nodes) in omega arith)))

pub loop-i-preserved : goal.loop-i-preserved
loop-i-preserved c =
    let all = c.requires.running.all in
    let is_node : c.loop-i.i < length c.args.plan.now.nodes = omega arith in
    let changes = c.changes_at_end.ensures c.args.plan.now c.loop-i.i c.laws.ensures.checked is_node
    (stands_at c.args.plan.now c.args.running.now c.loop-i.i c.index-running-i.result c.loop-i-test.true c.index-running-i.is c.requires.running)
    (subst (λ r. c.args.plan.now.end ≤ r.next) (sym c.index-running-i.is) (c.requires.ended c.loop-i.i c.index-running-i.result c.loop-i-test.true)) in
    c.in_ok-push_node.ensures
    ∙ (ap (λ xs. xs ++ node_records c.end.result c.loop-i.i c.changes_at_end.result.now) c.loop-i.invariant
    ∙ (ap (λ (n : ℕ). flat_map (λ (i, node). node_records c.args.plan.now.end i node.changes) (enumerate_from 0 (map (node_outcome_of c.args.plan.now) (range_with_len 0 c.loop-i.i))) ++ node_records n c.loop-i.i c.changes_at_end.result.now) c.end.ensures
    ∙ (ap (λ ts. flat_map (λ (i, node). node_records c.args.plan.now.end i node.changes) (enumerate_from 0 (map (node_outcome_of c.args.plan.now) (range_with_len 0 c.loop-i.i))) ++ node_records c.args.plan.now.end c.loop-i.i ts) changes
    ∙ sym (nodes_on c.args.plan.now.end c.loop-i.i (node_outcome_of c.args.plan.now)))))

pub returns : goal.returns
returns c =
    let all = c.requires.running.all in
    c.loop-i.invariant
    ∙ ap (λ n. flat_map (λ (i, node). node_records c.args.plan.now.end i node.changes) (enumerate_from 0 (map (node_outcome_of c.args.plan.now) (range_with_len 0 n)))) {x = c.loop-i.i} {y = length c.args.plan.now.nodes} (omega arith)
