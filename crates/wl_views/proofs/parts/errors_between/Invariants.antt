use Rattle.std.proofs.Common.{◌≡◌, ◌*◌, ◌≤◌, take}
use Rattle.wl_views.specs.Parts.{errors_between}
use Rattle.wl_views.proofs.parts.errors_between.Given as goal

-- those so far, which are few
abbrev pub invariant-loop-tick : goal.invariant-loop-tick
invariant-loop-tick l = record {
  value : l.count ≡ errors_between l.from l.to (take l.tick-index l.errors);
  most : l.count ≤ 131 * l.tick-index;
}
