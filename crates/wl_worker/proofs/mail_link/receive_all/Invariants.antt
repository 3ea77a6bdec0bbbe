use Rattle.std.proofs.Common.{◌≡◌}
use Rattle.wl_worker.specs.Handed.{Took, TellsNews}
use Rattle.wl_worker.proofs.Handing.{HandedTo}
use Rattle.wl_worker.proofs.mail_link.receive_all.Given as goal

abbrev pub invariant-loop : goal.invariant-loop
invariant-loop g l =
    (l.post.handed ≡ l.counter) × Took l.fn.group l.group × TellsNews l.fn.group l.group l.came × HandedTo l.counter l.fn.post l.post l.fn.group l.group
