use Rattle.std.proofs.Common.{◌≡◌, ◌≤◌, ◌*◌, ◌-◌, ◌^◌, drop}
use Rattle.wl_hub.specs.Places.{place, beyond}
use Rattle.wl_hub.specs.Words.{silence_widths}
use Rattle.wl_hub.proofs.place.silence_place.Given as goal

abbrev pub invariant-loop-i : goal.invariant-loop-i
invariant-loop-i l = record {
  before : l.i ≤ l.node;
  small : l.start ≤ l.i * 2 ^ 32;
  same : place (silence_widths l.shape) l.node l.count ≡ beyond l.start (place (silence_widths (drop l.i l.shape)) (l.node - l.i) l.count);
}
