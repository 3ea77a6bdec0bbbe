use Rattle.std.proofs.Common.{◌≡◌, ◌-◌, nat_lt, if◌then◌else◌, map, replicate}
use Rattle.wl_mail.proofs.senders.senders_of.Given as goal

abbrev pub invariant-loop-i : goal.invariant-loop-i
invariant-loop-i l = map (λ sender. sender.letters) l.others.items ≡ replicate (if nat_lt l.worker l.i then l.i - 1 else l.i) 0
