use Rattle.std.proofs.Common.{◌≡◌, ◌++◌, drop, string_bytes}
use Rattle.std.specs.List.{flat_map}
use Rattle.wl_print.specs.Written.{rate_lines}
use Rattle.wl_print.proofs.written.push_rates.Given as goal

abbrev pub invariant-loop-rate : goal.invariant-loop-rate
invariant-loop-rate l = string_bytes l.text ++ flat_map rate_lines (drop l.rate-index l.rates) ≡ string_bytes l.fn.text ++ flat_map rate_lines l.rates
