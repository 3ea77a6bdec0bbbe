use Rattle.std.proofs.Common.{◌≡◌, drop}
use Rattle.wl_views.specs.TraceText.{first_error_in}
use Rattle.wl_views.proofs.trace_text.push_first_error.Given as goal

-- the first error is one of those that are left, and nothing is written
abbrev pub invariant-loop-tick : goal.invariant-loop-tick
invariant-loop-tick l = record {
  left : first_error_in l.names (drop l.tick-index l.told) ≡ first_error_in l.names l.told;
  text : l.text ≡ l.initial.text;
}
