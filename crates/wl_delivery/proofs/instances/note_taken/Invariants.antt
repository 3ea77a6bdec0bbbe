use Rattle.std.proofs.Common.{◌≡◌, ◌<◌, take}
use Rattle.std.specs.List.{All}
use Rattle.wl_delivery.proofs.instances.note_taken.Given as goal

-- those so far were sent before
abbrev pub invariant-loop-k : goal.invariant-loop-k
invariant-loop-k l = record {
  same : l.instances.items ≡ l.initial.instances.items;
  early : All (λ i. i.sent < l.tick) (take l.k l.initial.instances.items);
}
