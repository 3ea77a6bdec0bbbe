use Rattle.std.proofs.Common.{◌≡◌, ◌≤◌, ◌+◌, ◌^◌, ◌-◌, min, drop, sum}
use Rattle.wl_hub.specs.Words.{edge_widths, silence_widths}
use Rattle.wl_hub.proofs.place.totals.Given as goal

abbrev pub invariant-loop-width : goal.invariant-loop-width
invariant-loop-width l = record {
  edges : min (sum (edge_widths l.shape)) (2 ^ 64 - 1) ≡ min (l.edges + sum (edge_widths (drop l.width-index l.shape))) (2 ^ 64 - 1);
  silences : min (sum (silence_widths l.shape)) (2 ^ 64 - 1) ≡ min (l.silences + sum (silence_widths (drop l.width-index l.shape))) (2 ^ 64 - 1);
  edges_fit : l.edges ≤ 2 ^ 64 - 1;
  silences_fit : l.silences ≤ 2 ^ 64 - 1;
}
