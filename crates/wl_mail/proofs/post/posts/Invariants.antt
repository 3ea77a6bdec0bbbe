use Rattle.std.proofs.Common.{◌≡◌, ◌-◌, All, vec_len}
use Rattle.wl_mail.specs.Posts.{initial_post}
use Rattle.wl_mail.proofs.post.posts.Given as goal

abbrev pub invariant-loop : goal.invariant-loop
invariant-loop l = (vec_len l.senders ≡ l.counter) × (vec_len l.receivers ≡ l.counter)

abbrev pub invariant-loop-worker : goal.invariant-loop-worker
invariant-loop-worker l = (vec_len l.senders ≡ l.workers) × (vec_len l.receivers ≡ l.workers) × (vec_len l.posts ≡ l.worker) × All (λ post. post ≡ initial_post (l.workers - 1)) l.posts.items
