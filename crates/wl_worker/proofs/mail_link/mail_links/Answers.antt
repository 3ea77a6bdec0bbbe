use Rattle.std.proofs.Common.{◌≡◌, All, length, min, sym, subst, vec_items, vec_len, ◌∙◌, arith}
use Rattle.std.proofs.lemmas.List.Elements.{All-push}
use Rattle.std.specs.Arc.{arc_value}
use Rattle.wl_worker.proofs.NodesOfWorker.{one_behind}
use Rattle.wl_worker.proofs.mail_link.mail_links.Goals as goal

pub loop-post-preserved : goal.loop-post-preserved
loop-post-preserved g c =
    let was = c.loop-post.invariant in
    let pushed = c.in_ok-push.ensures in
    let ok = c.loop-post.links.ok in
    let more_ok = c.push.new.self.ok in
    let many : length c.loop-post.links.items ≡ vec_len c.loop-post.links = omega arith in
    let next = c.saturating_add-worker.ensures in (
      (let m = was.0 in let n = pushed.len in let s = c.in-Some.ensures.steps.1 in omega arith),
      subst (All (λ link. arc_value link.plan ≡ c.args.plan.now)) (sym pushed.items)
          (All-push (λ link. arc_value link.plan ≡ c.args.plan.now) (vec_items c.loop-post.links) c.in_ok-link.link was.1 c.in_ok-link.ensures.plan),
      (let m = was.2 in let n = pushed.len in omega arith),
      (λ k d b. one_behind c.loop-post.links.items c.push.new.self.items c.in_ok-link.link (vec_len c.loop-post.links) (λ j link. link.worker ≡ min j 255)
          pushed.items many (λ j u low. was.3 j u (omega arith)) (c.in_ok-link.ensures.number ∙ was.2) k d (let n = pushed.len in omega arith)),
    )
