use Rattle.std.proofs.Common.{◌≡◌, ◌++◌}
use Rattle.wl_lattice.specs.Numbers.{number_word}
use Rattle.wl_replica.specs.Canonical.{edge_record}
use Rattle.wl_replica.proofs.Telling.{told_from}
use Rattle.wl_replica.proofs.canonical.tell_edges.Given as goal

-- what was added so far, and what the numbers that are left add
abbrev pub invariant-loop-seq : goal.invariant-loop-seq
invariant-loop-seq g l =
    let from = told_from g.S.RecordSink.line number_word edge_record l.fn.node l.fn.numbers in
    g.S.RecordSink.parts l.sink ++ from l.seq ≡ g.S.RecordSink.parts l.fn.sink ++ from 0
