use Rattle.std.proofs.Common.{◌≡◌, ◌++◌, drop, string_bytes}
use Rattle.wl_sweep.specs.Words.{settings_words}
use Rattle.wl_sweep.proofs.text.push_settings.Given as goal

abbrev pub invariant-loop-i : goal.invariant-loop-i
invariant-loop-i l = string_bytes l.text ++ settings_words l.row (drop l.i l.ranges) ≡ string_bytes l.fn.text ++ settings_words l.row l.ranges
