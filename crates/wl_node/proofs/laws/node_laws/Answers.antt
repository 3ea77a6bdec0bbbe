use Rattle.std.proofs.Common.{arith}
use Rattle.std.proofs.Math.Logic.{∥∥₁_map}
use Rattle.wl_node.proofs.Leaving.{there_and_away}
use Rattle.wl_node.proofs.NodeGone.{quanta_there}
use Rattle.wl_node.proofs.laws.node_laws.Goals as goal

pub returns : goal.returns
returns c = record {
  reached = λ node. ∥∥₁_map node.reached (λ (levels, stayed, away). (levels, record { stayed = stayed; away = away }));
  counted = λ node levels is.
      (let q = quanta_there levels node is in
      let a = is.away in
      let all = there_and_away node.staying.setup.until levels in
      omega (arith, q, a, all));
}
