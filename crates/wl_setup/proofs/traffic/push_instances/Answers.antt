-- Those so far are all, since the next is late or there may be no more; or there is one more.
use Rattle.std.proofs.Common.{◌≡◌, ◌≤◌, ◌⊎◌, inl, inr, ℕ, ◌+◌, ◌++◌, suc, ap, ◌∙◌, arith}
use Rattle.std.specs.Prelude.{min, unwrap_or}
use Rattle.std.proofs.lemmas.Bool.{cases_lt}
use Rattle.wl_clock.specs.Timing.{tick_of}
use Rattle.wl_plan.specs.Limits.{most_queued}
use Rattle.wl_setup.proofs.Repeats.{is_early, one_more, rest_late, of_frame}
use Rattle.wl_setup.proofs.traffic.push_instances.Goals as goal

pub returns-then-ready-last : goal.returns-then-ready-last
returns-then-ready-last c =
    let last : ℕ = c.first_not_before-last.result in
    let end : ℕ = c.args.end in
    let clock = c.args.clock.now in
    let first = c.first_not_before-last.ensures in
    let test = is_early (tick_of clock) (c.ticks_increase.ensures.later clock first.timing) end last first.reached first.least in
    let many : c.min-most.result ≡ min (unwrap_or c.args.text.now.count (suc most_queued)) (suc most_queued) = c.min-most.ensures ∙ ap (λ n. min n (suc most_queued)) c.unwrap_or.ensures in
    rest_late clock end c.in-Some.every last test c.args.queued.frame c.loop.all.items _ _ c.loop.ready c.if-ready-last.true c.loop.invariant
    ∙ ap (λ xs. c.args.all.now.items ++ xs) (of_frame clock end c.in-Some.every c.min-most.result c.args.text.now c.args.queued c.in-Some.is many)

pub loop-preserved : goal.loop-preserved
loop-preserved c =
    let last : ℕ = c.first_not_before-last.result in
    let end : ℕ = c.args.end in
    let every : ℕ = c.in-Some.every in
    let r : ℕ = c.loop.ready in
    let s : ℕ = c.saturating_add-ready.result in
    let clock = c.args.clock.now in
    let first = c.first_not_before-last.ensures in
    let test = is_early (tick_of clock) (c.ticks_increase.ensures.later clock first.timing) end last first.reached first.least in
    let next : (r + every ≡ s) ⊎ ((last ≤ r + every) × (last ≤ s)) =
    elim (cases_lt (r + every) 18446744073709551615) [
      | inl less ↦ inl (omega (arith, c.saturating_add-ready.ensures))
      | inr most ↦ inr (omega (arith, first.near), omega (arith, first.near, c.saturating_add-ready.ensures))
    ] in
    one_more clock end every last test c.args.queued.frame c.loop.all.items c.push-in-loop.new.self.items _ c.min-most.result c.loop.counter r s
    c.loop-test.true c.if-ready-last.false next c.in_ok-push-2.ensures.items c.loop.invariant
