use Rattle.std.proofs.Common.{arith}
use Rattle.wl_record_core.specs.Limits.{most_edges-is}
use Rattle.wl_replica.proofs.node_rows.make_room_at.Goals as goal
use Rattle.wl_replica.proofs.node_rows.make_room_at.Goals.{else-at-len-via-then-at-len+else-place-le-MOST_EDGES, else-at-len-via-else-at-len}

pub returns-else-at-len-clause-room : goal.returns-else-at-len-clause-room
returns-else-at-len-clause-room c = λ lt le. elim c.else-at-len.branch [
  | else-at-len-via-then-at-len+else-place-le-MOST_EDGES w ↦ absurd (omega (arith, most_edges-is, le, w.if-place-le-MOST_EDGES.false))
  | else-at-len-via-else-at-len w ↦ absurd (omega (arith, lt, c.len.ensures, w.if-at-len.false))
]
