use Rattle.std.proofs.Common.{◌<◌, length, arith, ◌∙◌}
use Rattle.std.proofs.lemmas.List.{length-set}
use Rattle.wl_replica.specs.State.{slots_of}
use Rattle.wl_replica.specs.Dense.{edges_of_row, row_number}
use Rattle.wl_replica.specs.Runs.{IsRunOf}
use Rattle.wl_replica.proofs.RunLemmas.{one_run_set}
use Rattle.wl_replica.proofs.RunsKept.{run_by}
use Rattle.wl_replica.proofs.replica.all_came.Goals as goal

pub loop-node-preserved : goal.loop-node-preserved
loop-node-preserved c =
    let w = slots_of c.args.rows.now in
    let node = c.loop-node.node in
    let runs = c.loop-node.runs.items in
    let within : node < length runs = omega (arith, c.loop-node-test.true, c.nodes-node-end.ensures.value, c.loop-node.invariant.count, c.requires.count) in
    let run = run_by w node (edges_of_row c.edge_numbers.result.now) (row_number c.silence_numbers.result.now) c.known_of.result c.edge_numbers.ensures.words c.silence_numbers.ensures.words c.known_of.ensures in
    record {
      count = length-set runs node c.known_of.result ∙ c.loop-node.invariant.count;
      known = λ i d lt. one_run_set (λ j k. IsRunOf (w.edge j) (w.silence j) k) runs node c.known_of.result within run i d (λ other. c.loop-node.invariant.known i d (omega (arith, lt, other)));
    }

pub returns : goal.returns
returns c = record {
  count = c.loop-node.invariant.count ∙ c.requires.count;
  known = λ i d lt. c.loop-node.invariant.known i d (omega (arith, lt, c.loop-node-test.false, c.nodes-node-end.ensures.value));
  limits = c.requires.limits;
}
