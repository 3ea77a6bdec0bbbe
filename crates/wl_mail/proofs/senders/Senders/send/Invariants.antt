use Rattle.std.proofs.Common.{◌≡◌, map}
use Rattle.wl_mail.specs.Senders.{one_letter_more_to}
use Rattle.wl_mail.proofs.senders.Senders.send.Given as goal

abbrev pub invariant-loop-i : goal.invariant-loop-i
invariant-loop-i g l = map (λ sender. sender.letters) l.self-inside.all.items ≡ one_letter_more_to l.i l.fn.self
