-- One node more, but for the one that is left out.
use Rattle.std.proofs.Common.{◌<◌, inl, inr, ◌∙◌, ap, length, get_or, arith}
use Rattle.std.proofs.lemmas.Bool.{cases_eq}
use Rattle.wl_serial.proofs.Kept.{none_before}
use Rattle.wl_serial.proofs.sources.Sources.others_until.Goals as goal
use Rattle.wl_serial.proofs.sources.Sources.others_until.Goals.{then-k-j, else-k-j}

pub loop-k-preserved : goal.loop-k-preserved
loop-k-preserved c =
    let k = c.loop-k.k in
    let nexts = c.args.self.now.nexts in
    let min = c.min-until.ensures in
    let node : k < length c.args.plan.now.nodes = omega (arith, c.loop-k-test.true, c.nodes-k-end.ensures.value) in (
      λ m other b. elim (cases_eq m k) [
        | inl own ↦
            (let e = ap (λ n. get_or nexts n 0) own in
            elim c.if-k-j.branch [
              | then-k-j w ↦ absurd (other (own ∙ w.if-k-j.true))
              | else-k-j w ↦ (let f = w.min-is in omega (arith, e, f, min))
            ])
        | inr less ↦ (let e = c.loop-k.invariant.0 m other (omega (arith, b, less)) in omega (arith, e, min))
      ],
      (let e = c.loop-k.invariant.1 in omega (arith, e, min)),
      λ t early all.
          let e = c.loop-k.invariant.2 t early all in
          elim c.if-k-j.branch [
            | then-k-j w ↦ (let f = w.min-is in omega (arith, e, f, early, min))
            | else-k-j w ↦ (let g = all k node in let f = w.min-is in omega (arith, e, f, g, min))
          ],
    )

pub returns-clause-few : goal.returns-clause-few
returns-clause-few c =
    none_before (length c.args.plan.now.nodes) c.args.j c.loop-k.until c.args.self.now c.requires c.loop-k.invariant.1
    (λ m other b. c.loop-k.invariant.0 m other (omega (arith, b, c.loop-k-test.false, c.nodes-k-end.ensures.value)))
