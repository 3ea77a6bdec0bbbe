use Rattle.std.proofs.Common.{◌≡◌, ℕ, ◌<◌, ◌≤◌, false, length}
use Rattle.wl_serial.specs.LineAt.{comes}
use Rattle.wl_views.specs.PlaceLine.{Comes}
use Rattle.wl_views.proofs.signals.driven.Given as goal

-- none of the nodes so far is dominant there
abbrev pub invariant-loop-i : goal.invariant-loop-i
invariant-loop-i l = record {
  later : l.t < l.until;
  silent : (k u : ℕ) → k < l.i → l.t ≤ u → u < l.until → comes l.plan k l.j u ≡ false;
  sources : Comes l.plan l.j l.t l.sources;
  room : length l.sources ≡ 64;
}
