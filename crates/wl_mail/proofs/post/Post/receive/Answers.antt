use Rattle.std.proofs.Common.{◌+◌}
use Rattle.wl_mail.proofs.Keeping.{kept_counted, letter_handed}
use Rattle.wl_mail.proofs.post.Post.receive.Goals as goal

pub returns-in-Ok-clause-kept : goal.returns-in-Ok-clause-kept
returns-in-Ok-clause-kept g c =
    kept_counted c.args.self.now c.await_next.new.self c.self.inside.senders c.self.inside.kept.items c.self.inside.handed (c.self.inside.handed + 1) c.self.view_is c.in_ok-await_next.ensures.kept

pub returns-in-Ok-clause-handed : goal.returns-in-Ok-clause-handed
returns-in-Ok-clause-handed g c =
    letter_handed c.args.self.now c.await_next.new.self c.self.inside.senders c.self.inside.kept.items c.self.inside.handed c.index.result.now c.args.group.now c.hand_to.new.group
    c.self.view_is c.in_ok-await_next.ensures.handed c.in_ok-await_next.ensures.next c.index.ensures c.in-Ok.ensures.plan c.in-Ok.ensures.all

pub returns-in-Err-Foreign-clause-kept : goal.returns-in-Err-Foreign-clause-kept
returns-in-Err-Foreign-clause-kept g c =
    kept_counted c.args.self.now c.await_next.new.self c.self.inside.senders c.self.inside.kept.items c.self.inside.handed (c.self.inside.handed + 1) c.self.view_is c.in_ok-await_next.ensures.kept
