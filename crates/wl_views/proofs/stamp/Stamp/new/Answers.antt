use Rattle.std.proofs.Common.{sym, arith}
use Rattle.std.proofs.lemmas.Fmt.{decimal_digit}
use Rattle.wl_views.proofs.stamp.Stamp.new.Goals as goal

pub invariant_of-result : goal.invariant_of-result
invariant_of-result c = record { fits = omega arith; spelled = sym (decimal_digit 0 (omega arith)) }
