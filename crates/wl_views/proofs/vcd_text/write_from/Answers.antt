-- One tick more after what went out and what waits, and one piece after another.
use Rattle.std.proofs.Common.{◌≡◌, ◌∙◌, ◌+◌, ◌-◌, ◌<◌, ◌≤◌, ◌++◌, [], ℕ, List, refl, ap, sym, subst, arith, append-nil, length-append}
use Rattle.std.specs.Prelude.{min}
use Rattle.std.specs.List.{flat_map, range_with_len}
use Rattle.wl_device.specs.Devices.{Answer}
use Rattle.wl_device.proofs.Runs.{SoFar, nothing_so_far, broke_off_after, sent_more, went_out_after}
use Rattle.wl_views.specs.Signals.{signals}
use Rattle.wl_views.specs.Vcd.{tick_lines, time_line}
use Rattle.wl_views.proofs.Walk.{all_told, one_tick, rest_of, tick_more, whole_of}
use Rattle.wl_views.proofs.vcd_text.write_from.Goals as goal
use Rattle.wl_views.proofs.vcd_text.write_from.Goals.{then-len-gt-FULL_PIECE+in-Ok-send, else-len-gt-FULL_PIECE}

pub returns-in-Err : goal.returns-in-Err
returns-in-Err g c =
    let off = c.in-Err.ensures in
    let f = tick_lines c.args.tick (signals c.args.plan.now) in
    let later : List ℕ = flat_map f (range_with_len (c.args.span.from + 1) (c.args.span.to - (c.args.span.from + 1))) ++ time_line c.args.tick c.args.span.to in
    (_, broke_off_after g.W.Sink.takes c.args.writer.now [] 0 c.args.writer.now [] c.args.front.now later (c.args.front.now ++ later) c.send.new.writer off.0 (nothing_so_far g.W.Sink.takes c.args.writer.now) off.1 refl)

pub returns-in-Err-send : goal.returns-in-Err-send
returns-in-Err-send g c =
    let inv = c.loop-t.invariant in
    let off = c.in-Err-send.ensures in
    let t : ℕ = c.loop-t.t in
    let a : ℕ = c.args.span.from + 1 in
    let to : ℕ = c.args.span.to in
    let f = tick_lines c.args.tick (signals c.args.plan.now) in
    let some : a ≤ t = omega (arith, inv.5) in
    let inside : t ≤ to = omega (arith, c.loop-t-test.true) in
    let so_far : min t to ≡ t = omega arith in
    let told : List ℕ = flat_map f (range_with_len a (min t to - a)) in
    let rest : List ℕ = flat_map f (range_with_len t (to - t)) in
    let all : List ℕ = flat_map f (range_with_len a (to - a)) in
    let time : List ℕ = time_line c.args.tick to in
    let parts : all ≡ told ++ rest =
    rest_of c.args.tick (signals c.args.plan.now) a t to some inside ∙ ap (λ (n : ℕ). flat_map f (range_with_len a (n - a)) ++ rest) (sym so_far)
    in
    let whole : inv.1 ++ (c.as_slice.result.now ++ (rest ++ time)) ≡ c.args.front.now ++ (all ++ time) =
    ap (λ ys. inv.1 ++ (ys ++ (rest ++ time))) c.as_slice.ensures.value
    ∙ whole_of c.args.front.now inv.1 c.loop-t.text.items told rest all time inv.3 parts
    in
    (_, broke_off_after g.W.Sink.takes c.args.writer.now inv.1 c.loop-t.calls c.loop-t.writer inv.0 c.as_slice.result.now (rest ++ time) (c.args.front.now ++ (all ++ time)) c.send-then-len-gt-FULL_PIECE.new.writer off.0 inv.2 off.1 whole)

pub loop-t-preserved : goal.loop-t-preserved
loop-t-preserved g c =
    let takes = g.W.Sink.takes in
    let inv = c.loop-t.invariant in
    let t : ℕ = c.loop-t.t in
    let until : ℕ = c.push_tick-t.result in
    let a : ℕ = c.args.span.from + 1 in
    let to : ℕ = c.args.span.to in
    let f = tick_lines c.args.tick (signals c.args.plan.now) in
    let some : a ≤ t = omega (arith, inv.5) in
    let below : t < to = omega (arith, c.loop-t-test.true) in
    let so_far : min t to ≡ t = omega arith in
    let later : t < until = c.push_tick-t.ensures.later in
    let inside : until ≤ c.args.plan.now.end = c.push_tick-t.ensures.inside in
    let told : List ℕ = flat_map f (range_with_len a (min t to - a)) in
    let here : List ℕ = f t in
    let next : List ℕ = flat_map f (range_with_len a (min until to - a)) in
    let more : next ≡ told ++ here =
    tick_more c.args.tick (signals c.args.plan.now) a t until to (omega arith) some later below c.push_tick-t.ensures.stays
    ∙ ap (λ (n : ℕ). flat_map f (range_with_len a (n - a)) ++ here) (sym so_far)
    in
    let P : ℕ → g.row.W.Denot → List ℕ → List Answer → Type 0 = λ n u sent answers. SoFar takes c.args.writer.now sent n u answers in
    elim c.if-len-gt-FULL_PIECE.branch [
      | then-len-gt-FULL_PIECE+in-Ok-send w ↦
          let out = w.in-Ok-send.ensures in
          let sent : List ℕ = inv.1 ++ w.as_slice.result.now in
          let so_far = sent_more takes c.args.writer.now inv.1 c.loop-t.calls c.loop-t.writer inv.0 w.as_slice.result.now w.send-then-len-gt-FULL_PIECE.new.writer out.0 w.in-Ok-send.made inv.2 out.1 out.2 in
          let none : c.if-len-gt-FULL_PIECE.text.items ≡ [] = ap (λ x. x.items) w.text-is ∙ w.clear.ensures in
          let moved : sent ++ c.if-len-gt-FULL_PIECE.text.items ≡ inv.1 ++ c.loop-t.text.items =
          ap (λ ys. sent ++ ys) none ∙ append-nil sent ∙ ap (λ ys. inv.1 ++ ys) w.as_slice.ensures.value
          in (
            inv.0 ++ out.0,
            sent,
            subst (λ n. P n c.if-len-gt-FULL_PIECE.writer sent (inv.0 ++ out.0)) (sym w.calls-is) (subst (λ u. P w.in-Ok-send.made u sent (inv.0 ++ out.0)) (sym w.writer-is) so_far),
            one_tick c.args.front.now inv.1 c.loop-t.text.items told sent c.if-len-gt-FULL_PIECE.text.items c.push_tick-t.new.text.items here next inv.3 moved c.push_tick-t.ensures.lines more,
            c.push_tick-t.ensures.probes,
            omega arith,
            omega arith,
            c.push_tick-t.ensures.grown,
            omega (arith, w.calls-is, out.3),
            c.push_tick-t.ensures.calendar,
          )
      | else-len-gt-FULL_PIECE w ↦
          let moved : inv.1 ++ c.if-len-gt-FULL_PIECE.text.items ≡ inv.1 ++ c.loop-t.text.items = ap (λ x. inv.1 ++ x.items) w.text-is in (
            inv.0,
            inv.1,
            subst (λ n. P n c.if-len-gt-FULL_PIECE.writer inv.1 inv.0) (sym w.calls-is) (subst (λ u. P c.loop-t.calls u inv.1 inv.0) (sym w.writer-is) inv.2),
            one_tick c.args.front.now inv.1 c.loop-t.text.items told inv.1 c.if-len-gt-FULL_PIECE.text.items c.push_tick-t.new.text.items here next inv.3 moved c.push_tick-t.ensures.lines more,
            c.push_tick-t.ensures.probes,
            omega arith,
            omega arith,
            c.push_tick-t.ensures.grown,
            omega (arith, w.calls-is, inv.8),
            c.push_tick-t.ensures.calendar,
          )
    ]

pub returns-in-Ok-send-2 : goal.returns-in-Ok-send-2
returns-in-Ok-send-2 g c =
    let inv = c.loop-t.invariant in
    let out = c.in-Ok-send-2.ensures in
    let t : ℕ = c.loop-t.t in
    let a : ℕ = c.args.span.from + 1 in
    let to : ℕ = c.args.span.to in
    let f = tick_lines c.args.tick (signals c.args.plan.now) in
    let last : to ≡ min t to = omega (arith, c.loop-t-test.false) in
    let told : List ℕ = flat_map f (range_with_len a (min t to - a)) in
    let all : List ℕ = flat_map f (range_with_len a (to - a)) in
    let time : List ℕ = time_line c.args.tick to in
    let whole : inv.1 ++ c.as_slice-2.result.now ≡ c.args.front.now ++ (all ++ time) =
    all_told c.args.front.now inv.1 c.loop-t.text.items told c.as_slice-2.result.now time all inv.3 (c.as_slice-2.ensures.value ∙ c.push_time.ensures.line)
    (ap (λ (n : ℕ). flat_map f (range_with_len a (n - a))) last)
    in (
      inv.0 ++ out.0,
      went_out_after g.W.Sink.takes c.args.writer.now inv.1 c.loop-t.calls c.loop-t.writer inv.0 c.as_slice-2.result.now (c.args.front.now ++ (all ++ time)) c.send-2.new.writer out.0 inv.2 out.1 whole,
      omega (arith, length-append inv.0 out.0, inv.2.calls, out.2, out.3),
    )

pub returns-in-Err-send-2 : goal.returns-in-Err-send-2
returns-in-Err-send-2 g c =
    let inv = c.loop-t.invariant in
    let off = c.in-Err-send-2.ensures in
    let t : ℕ = c.loop-t.t in
    let a : ℕ = c.args.span.from + 1 in
    let to : ℕ = c.args.span.to in
    let f = tick_lines c.args.tick (signals c.args.plan.now) in
    let last : to ≡ min t to = omega (arith, c.loop-t-test.false) in
    let told : List ℕ = flat_map f (range_with_len a (min t to - a)) in
    let all : List ℕ = flat_map f (range_with_len a (to - a)) in
    let time : List ℕ = time_line c.args.tick to in
    let whole : inv.1 ++ (c.as_slice-2.result.now ++ []) ≡ c.args.front.now ++ (all ++ time) =
    ap (λ ys. inv.1 ++ ys) (append-nil c.as_slice-2.result.now)
    ∙ all_told c.args.front.now inv.1 c.loop-t.text.items told c.as_slice-2.result.now time all inv.3 (c.as_slice-2.ensures.value ∙ c.push_time.ensures.line)
    (ap (λ (n : ℕ). flat_map f (range_with_len a (n - a))) last)
    in
    (_, broke_off_after g.W.Sink.takes c.args.writer.now inv.1 c.loop-t.calls c.loop-t.writer inv.0 c.as_slice-2.result.now [] (c.args.front.now ++ (all ++ time)) c.send-2.new.writer off.0 inv.2 off.1 whole)
