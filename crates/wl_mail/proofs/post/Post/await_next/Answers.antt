use Rattle.std.proofs.Common.{◌≤◌, length, arith}
use Rattle.wl_mail.proofs.Keeping.{one_kept}
use Rattle.wl_mail.proofs.post.Post.await_next.Goals as goal

pub returns-in-Ok-clause-kept : goal.returns-in-Ok-clause-kept
returns-in-Ok-clause-kept g c =
    let all : length c.self.inside.kept.items ≤ c.self.inside.handed = let n = c.len.ensures in let late = c.if-self-len.false in let ok = c.self.inside.kept.ok in omega arith in
    one_kept c.args.self.now c.self.inside.senders c.self.inside.kept.items c.reserve.new.self.items c.push_reserved.new.self.items c.self.inside.handed c.in-Ok.letter c.self.view_is all
    c.in_ok-reserve.ensures.items c.push_reserved.ensures.items
