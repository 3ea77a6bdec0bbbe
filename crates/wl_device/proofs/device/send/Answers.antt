use Rattle.std.proofs.Common.{ap, subst, arith, ◌∙◌, ◌≡◌, ◌+◌, ◌-◌, ◌≤◌, ◌++◌, ◌<◌, List, [], ◌∷◌, ℕ, take, drop, append_assoc, take-append-drop}
use Rattle.wl_device.specs.Limits.{most_calls, most_calls-is}
use Rattle.wl_device.specs.Devices.{Answer, moved, again}
use Rattle.wl_device.proofs.Runs.{SoFar, more_moved, more_again, wrote_all, write_failed, writes_ran_out, took_some, took_none, slice_from, is_empty_test, some_left}
use Rattle.wl_device.proofs.device.send.Goals as goal
use Rattle.wl_device.proofs.device.send.Goals.{in-Bytes+else-n-eq0, in-Again}

pub returns-then-is_empty : goal.returns-then-is_empty
returns-then-is_empty g c =
    let few : c.args.calls ≤ c.loop-made.made = omega (arith, most_calls-is) in
    let ends : c.loop-made.made ≤ most_calls = omega (arith, most_calls-is) in
    (c.loop-made.invariant.0, wrote_all g.W.Sink.takes c.loop-made.invariant.2 c.args.piece.now c.loop-made.rest.now c.loop-made.invariant.3 (is_empty_test c.loop-made.rest.now c.is_empty.result c.is_empty.ensures c.if-is_empty.true), omega (arith, c.loop-made.invariant.2.calls), ends)

pub returns-then-n-eq0 : goal.returns-then-n-eq0
returns-then-n-eq0 g c =
    let takes = g.W.Sink.takes in
    let P : Answer → Type 0 = λ a. takes c.loop-made.writer a c.write.new.self in
    let few : c.args.calls + (c.loop-made.made - c.args.calls) < most_calls = omega (arith, most_calls-is) in
    (_, write_failed takes c.loop-made.invariant.2 c.args.calls few c.args.piece.now c.loop-made.rest.now c.loop-made.invariant.3 (some_left c.loop-made.rest.now c.is_empty.result c.is_empty.ensures c.if-is_empty.false) c.write.new.self (subst P (took_none c.in-Bytes.n c.loop-made.rest.now c.if-n-eq0.true) c.in-Bytes.ensures.takes))

pub returns-in-Failed : goal.returns-in-Failed
returns-in-Failed g c =
    let few : c.args.calls + (c.loop-made.made - c.args.calls) < most_calls = omega (arith, most_calls-is) in
    (_, write_failed g.W.Sink.takes c.loop-made.invariant.2 c.args.calls few c.args.piece.now c.loop-made.rest.now c.loop-made.invariant.3 (some_left c.loop-made.rest.now c.is_empty.result c.is_empty.ensures c.if-is_empty.false) c.write.new.self c.in-Failed.ensures.takes)

pub returns-then-is_empty-2 : goal.returns-then-is_empty-2
returns-then-is_empty-2 g c =
    (c.loop-made.invariant.0, wrote_all g.W.Sink.takes c.loop-made.invariant.2 c.args.piece.now c.loop-made.rest.now c.loop-made.invariant.3 (is_empty_test c.loop-made.rest.now c.is_empty-2.result c.is_empty-2.ensures c.if-is_empty-2.true), omega (arith, c.loop-made.invariant.2.calls, most_calls-is), omega (arith, most_calls-is))

pub returns-else-is_empty-2 : goal.returns-else-is_empty-2
returns-else-is_empty-2 g c =
    let all : c.args.calls + (c.loop-made.made - c.args.calls) ≡ most_calls = omega (arith, most_calls-is) in
    (_, writes_ran_out g.W.Sink.takes c.loop-made.invariant.2 c.args.calls all c.args.piece.now c.loop-made.rest.now c.loop-made.invariant.3 (some_left c.loop-made.rest.now c.is_empty-2.result c.is_empty-2.ensures c.if-is_empty-2.false))

pub loop-made-preserved : goal.loop-made-preserved
loop-made-preserved g c =
    let takes = g.W.Sink.takes in
    let P : Answer → Type 0 = λ a. takes c.loop-made.writer a c.write.new.self in
    let one_more : (c.loop-made.made - c.args.calls) + 1 ≡ (c.loop-made.made + 1) - c.args.calls = omega arith in
    let Q : List ℕ → List Answer → ℕ → Type 0 = λ sent answers n. SoFar takes c.args.writer.now sent n c.write.new.self answers in
    elim c.match-write.branch [
      | in-Bytes+else-n-eq0 w ↦
          let rest : c.match-write.rest.now ≡ drop w.in-Bytes.n c.loop-made.rest.now = ap (λ r. r.now) w.rest-is ∙ slice_from w.in-Bytes.n c.loop-made.rest.now in
          let went = take w.in-Bytes.n c.loop-made.rest.now in
          let told : (c.loop-made.invariant.1 ++ went) ++ c.match-write.rest.now ≡ c.args.piece.now =
          append_assoc c.loop-made.invariant.1 went c.match-write.rest.now ∙ (ap (λ z. c.loop-made.invariant.1 ++ (went ++ z)) rest
          ∙ (ap (λ z. c.loop-made.invariant.1 ++ z) (take-append-drop w.in-Bytes.n c.loop-made.rest.now) ∙ c.loop-made.invariant.3)) in (
            c.loop-made.invariant.0 ++ moved went ∷ [],
            c.loop-made.invariant.1 ++ went,
            subst (Q (c.loop-made.invariant.1 ++ went) (c.loop-made.invariant.0 ++ moved went ∷ [])) one_more (more_moved takes c.loop-made.invariant.2 went c.write.new.self (subst P (took_some w.in-Bytes.n c.loop-made.rest.now w.if-n-eq0.false) w.in-Bytes.ensures.takes)),
            told,
          )
      | in-Again w ↦
          let rest : c.match-write.rest.now ≡ c.loop-made.rest.now = ap (λ r. r.now) w.rest-is in
          (c.loop-made.invariant.0 ++ again ∷ [], c.loop-made.invariant.1, subst (Q c.loop-made.invariant.1 (c.loop-made.invariant.0 ++ again ∷ [])) one_more (more_again takes c.loop-made.invariant.2 c.write.new.self w.in-Again.ensures.takes), ap (λ z. c.loop-made.invariant.1 ++ z) rest ∙ c.loop-made.invariant.3)
    ]
