-- The lines of a tick stand under its time, which goes again where there are none.
use Rattle.std.proofs.Common.{◌≡◌, ◌∙◌, ◌-◌, ◌<◌, ◌++◌, ℕ, List, length, take, ap, sym, arith, append_assoc, append-nil, length-append}
use Rattle.std.proofs.Math.Seq.{take-append_seam}
use Rattle.wl_views.specs.Signals.{signals}
use Rattle.wl_views.specs.Vcd.{changes_from, tick_lines, time_line}
use Rattle.wl_views.proofs.Walk.{under_none, under_some}
use Rattle.wl_views.proofs.vcd_text.push_tick.Goals as goal

pub returns-then-len-timed-clause-lines : goal.returns-then-len-timed-clause-lines
unfolding tick_lines
returns-then-len-timed-clause-lines c =
    let old : List ℕ = c.args.text.now.items in
    let time : List ℕ = time_line c.args.tick c.args.t in
    let here : List ℕ = changes_from 0 (signals c.args.plan.now (c.args.t - 1)) (signals c.args.plan.now c.args.t) in
    let whole : c.push_changes-until.new.text.items ≡ old ++ (time ++ here) =
    c.push_changes-until.ensures.lines ∙ ap (λ ys. ys ++ here) c.push_time.ensures.line ∙ append_assoc old time here
    in
    let none : length here ≡ 0 = omega (arith, ap length c.push_changes-until.ensures.lines, length-append c.push_time.new.text.items here, c.len.ensures.value, c.len-timed.ensures.value, c.if-len-timed.true) in
    let before : c.len-before.result ≡ length old = c.len-before.ensures.value in
    c.truncate.ensures.items ∙ ap (λ n. take n c.push_changes-until.new.text.items) before ∙ ap (take (length old)) whole ∙ take-append_seam old (time ++ here)
    ∙ sym (ap (λ ys. old ++ ys) (under_none time here none) ∙ append-nil old)

pub returns-else-len-timed-clause-lines : goal.returns-else-len-timed-clause-lines
unfolding tick_lines
returns-else-len-timed-clause-lines c =
    let old : List ℕ = c.args.text.now.items in
    let time : List ℕ = time_line c.args.tick c.args.t in
    let here : List ℕ = changes_from 0 (signals c.args.plan.now (c.args.t - 1)) (signals c.args.plan.now c.args.t) in
    let some : 0 < length here = omega (arith, ap length c.push_changes-until.ensures.lines, length-append c.push_time.new.text.items here, c.len.ensures.value, c.len-timed.ensures.value, c.if-len-timed.false) in
    c.push_changes-until.ensures.lines ∙ ap (λ ys. ys ++ here) c.push_time.ensures.line ∙ append_assoc old time here
    ∙ ap (λ ys. old ++ ys) (sym (under_some time here some))
