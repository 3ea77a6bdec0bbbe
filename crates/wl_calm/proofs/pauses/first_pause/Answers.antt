-- One pulse more, up to the end.
use Rattle.std.proofs.Common.{◌≡◌, ◌∙◌, ap, arith, min}
use Rattle.wl_plan.specs.declared.plan.Plan.{Plan}
use Rattle.wl_calm.proofs.Pausing.{Searched, none_before, searched_more}
use Rattle.wl_calm.proofs.pauses.first_pause.Goals as goal

pub returns-then-from-long-clause-first : goal.returns-then-from-long-clause-first
returns-then-from-long-clause-first c = λ t low pause.
    (let was : Searched c.args.plan.now c.args.settled c.args.long c.loop-at.from c.loop-at.at =
    record { later = c.loop-at.invariant.later; order = c.loop-at.invariant.order; within = c.loop-at.invariant.within; quiet = c.loop-at.invariant.quiet; none = c.loop-at.invariant.none } in
    let end = ap (λ (p : Plan). p.end) c.deref-in-loop-at.ensures.0 in
    let next : c.min-at.result ≡ min c.driven_from-pulse.result.until c.args.plan.now.end = c.min-at.ensures ∙ ap (λ (p : Plan). min c.driven_from-pulse.result.until p.end) c.deref-in-loop-at-2.ensures.0 in
    let s = searched_more c.args.plan.now c.args.settled c.args.long c.loop-at.from c.loop-at.at c.driven_from-pulse.result.until c.min-at.result was c.loop-at.invariant.short (omega arith) c.driven_from-pulse.ensures.until next
    c.driven_from-pulse.result.dominant c.quiet_since-from.result c.quiet_since-from.ensures (λ t low high. c.driven_from-pulse.ensures.dominant t (let e = c.driven_from-pulse.ensures.from in omega arith) high) in
    none_before c.args.plan.now c.args.settled c.args.long c.quiet_since-from.result c.min-at.result t s low pause)

pub loop-at-preserved : goal.loop-at-preserved
loop-at-preserved c =
    (let was : Searched c.args.plan.now c.args.settled c.args.long c.loop-at.from c.loop-at.at =
    record { later = c.loop-at.invariant.later; order = c.loop-at.invariant.order; within = c.loop-at.invariant.within; quiet = c.loop-at.invariant.quiet; none = c.loop-at.invariant.none } in
    let end = ap (λ (p : Plan). p.end) c.deref-in-loop-at.ensures.0 in
    let next : c.min-at.result ≡ min c.driven_from-pulse.result.until c.args.plan.now.end = c.min-at.ensures ∙ ap (λ (p : Plan). min c.driven_from-pulse.result.until p.end) c.deref-in-loop-at-2.ensures.0 in
    let s = searched_more c.args.plan.now c.args.settled c.args.long c.loop-at.from c.loop-at.at c.driven_from-pulse.result.until c.min-at.result was c.loop-at.invariant.short (omega arith) c.driven_from-pulse.ensures.until next
    c.driven_from-pulse.result.dominant c.quiet_since-from.result c.quiet_since-from.ensures (λ t low high. c.driven_from-pulse.ensures.dominant t (let e = c.driven_from-pulse.ensures.from in omega arith) high) in
    let one = c.from-in-loop-at.ensures in
    let two = c.from-in-loop-at-2.ensures in
    record { later = s.later; order = s.order; short = omega arith; within = s.within; quiet = s.quiet; none = s.none })

pub returns-clause-none : goal.returns-clause-none
returns-clause-none c = λ t low pause.
    (let was : Searched c.args.plan.now c.args.settled c.args.long c.loop-at.from c.loop-at.at =
    record { later = c.loop-at.invariant.later; order = c.loop-at.invariant.order; within = c.loop-at.invariant.within; quiet = c.loop-at.invariant.quiet; none = c.loop-at.invariant.none } in
    let there = none_before c.args.plan.now c.args.settled c.args.long c.loop-at.from c.loop-at.at t was low pause in
    let end = ap (λ (p : Plan). p.end) c.deref-in-loop-at.ensures.0 in
    let inside = pause.inside in
    let short = c.loop-at.invariant.short in
    absurd (omega arith))
