use Rattle.std.proofs.Common.{◌≡◌, ℕ, ◌+◌, ◌<◌, All, get_or, length, min, vec_len}
use Rattle.std.specs.Arc.{arc_value}
use Rattle.std.specs.Vec.Iter.{into_iter_len}
use Rattle.wl_worker.proofs.mail_link.mail_links.Given as goal

abbrev pub invariant-loop-post : goal.invariant-loop-post
invariant-loop-post g l =
    (vec_len l.links + into_iter_len l.post-iterator ≡ vec_len l.fn.posts) × All (λ link. arc_value link.plan ≡ l.plan) l.links.items
    × (l.worker ≡ min (vec_len l.links) 255) × ((k : ℕ) (d : _) → k < length l.links.items → (get_or l.links.items k d).worker ≡ min k 255)
