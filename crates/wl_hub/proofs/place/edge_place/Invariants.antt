use Rattle.std.proofs.Common.{◌≡◌, ◌≤◌, ◌*◌, ◌-◌, ◌^◌, drop}
use Rattle.wl_hub.specs.Places.{place, beyond}
use Rattle.wl_hub.specs.Words.{edge_widths}
use Rattle.wl_hub.proofs.place.edge_place.Given as goal

abbrev pub invariant-loop-i : goal.invariant-loop-i
invariant-loop-i l = record {
  before : l.i ≤ l.node;
  small : l.start ≤ l.i * 2 ^ 32;
  same : place (edge_widths l.shape) l.node l.seq ≡ beyond l.start (place (edge_widths (drop l.i l.shape)) (l.node - l.i) l.seq);
}
