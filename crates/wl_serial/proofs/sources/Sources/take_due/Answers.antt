-- Of the node that is asked something later is kept, and of the others what was.
use Rattle.std.proofs.Common.{◌∙◌, ◌<◌, ℕ, inl, inr, ap, sym, subst, get_or, length, arith}
use Rattle.std.proofs.lemmas.Bool.{cases_eq}
use Rattle.wl_record_core.specs.Truth.{IsIncreasing}
use Rattle.wl_serial.proofs.Kept.{ahead_taken, sources_asked}
use Rattle.wl_serial.proofs.sources.Sources.take_due.Goals as goal

pub take-requires-clause-order : goal.take-requires-clause-order
take-requires-clause-order c =
    let node = c.requires.due.inside c.loop-k.k c.loop-k-test.true in
    subst IsIncreasing (sym c.as_slice.ensures)
    (c.requires.somewhere.each (get_or c.args.due.now c.loop-k.k 0) c.index-running-i.result (omega (arith, node, c.requires.somewhere.all))).1.order

pub loop-k-preserved : goal.loop-k-preserved
loop-k-preserved c =
    let plan = c.args.plan.now in
    let rs = c.args.running.now in
    let k = c.loop-k.k in
    let i : ℕ = get_or c.args.due.now k 0 in
    let node : i < length plan.nodes = c.requires.due.inside k c.loop-k-test.true in
    let inside : i < length rs = omega (arith, node, c.requires.somewhere.all) in
    let new = c.take.new.self in
    let kept = c.take.ensures.kept in (
      record { nexts = kept.nexts; drives = kept.drives; beyond = kept.beyond; quiet = kept.quiet; driving = kept.driving },
      sources_asked plan rs c.args.j c.args.t i (get_or c.args.delays.now i 0) c.index-running-i.result _ c.loop-k.self new c.loop-k.invariant.1 c.take.ensures.nexts
          c.take.ensures.drives inside c.as_slice.ensures (c.requires.delays.1 i 0 node) c.take.ensures.drove,
      ahead_taken i c.args.t c.loop-k.self new c.loop-k.invariant.2 c.loop-k.invariant.3 c.take.ensures.one c.take.ensures.others c.take.ensures.nexts c.take.ensures.later,
      (let e = c.take.ensures.others in let f = c.loop-k.invariant.3 in omega (arith, e, f)),
      node,
      (λ m b. elim (cases_eq m i) [
        | inl own ↦ inl (let e = ap (λ n. get_or new.nexts n 0) own in let f = c.take.ensures.later in omega (arith, e, f))
        | inr other ↦ elim (c.loop-k.invariant.5 m b) [
          | inl later ↦ inl (let e = c.take.ensures.nexts m other in omega (arith, e, later))
          | inr left ↦ elim (cases_eq left.0 k) [
            | inl here ↦ absurd (other (sym left.3 ∙ ap (λ p. get_or c.args.due.now p 0) here))
            | inr past ↦ inr (left.0, omega (arith, left.1, past), left.2, left.3)
          ]
        ]
      ]),
    )

pub returns-then-self-i-clause-sources : goal.returns-then-self-i-clause-sources
returns-then-self-i-clause-sources c =
    let i : ℕ = get_or c.args.due.now c.loop-k.k 0 in
    let node = c.requires.due.inside c.loop-k.k c.loop-k-test.true in
    sources_asked c.args.plan.now c.args.running.now c.args.j c.args.t i (get_or c.args.delays.now i 0) c.index-running-i.result _ c.loop-k.self c.take.new.self
    c.loop-k.invariant.1 c.take.ensures.nexts c.take.ensures.drives (omega (arith, node, c.requires.somewhere.all)) c.as_slice.ensures (c.requires.delays.1 i 0 node) c.take.ensures.drove
