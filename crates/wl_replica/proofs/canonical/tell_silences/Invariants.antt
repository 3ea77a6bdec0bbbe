use Rattle.std.proofs.Common.{◌≡◌, ◌++◌}
use Rattle.wl_lattice.specs.Words.{max_word}
use Rattle.wl_replica.specs.Canonical.{silence_record}
use Rattle.wl_replica.proofs.Telling.{told_from}
use Rattle.wl_replica.proofs.canonical.tell_silences.Given as goal

-- what was added so far, and what the numbers that are left add
abbrev pub invariant-loop-count : goal.invariant-loop-count
invariant-loop-count g l =
    let from = told_from g.S.RecordSink.line max_word silence_record l.fn.node l.fn.numbers in
    g.S.RecordSink.parts l.sink ++ from l.count ≡ g.S.RecordSink.parts l.fn.sink ++ from 0
