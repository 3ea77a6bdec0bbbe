use Rattle.std.proofs.Common.{Err, ◌≡◌, ◌≢◌, ◌∙◌, ◌+◌, ◌<◌, ap, sym, arith, drop, length, map, get_or, string_bytes, List}
use Rattle.std.proofs.lemmas.List.{get_or-map, length-map}
use Rattle.wl_sweep.specs.declared.range.SweptRange.{SweptRange}
use Rattle.wl_sweep.specs.declared.vary.RangeFault.TheVariants as range
use Rattle.wl_sweep_engine.specs.Faults.{of_range}
use Rattle.wl_sweep_engine.proofs.Ranging.{left_of, refusal, step}
use Rattle.wl_sweep_engine.proofs.asked.read_ranges.Goals as goal

pub returns-in-Err : goal.returns-in-Err
returns-in-Err c n =
    let plan = c.args.text.now in
    let ws = map string_bytes c.args.words.now in
    let i = c.loop-i.i in
    let w = c.as_str.result.now in
    let within : i < length c.args.words.now = omega arith in
    let inside : i < length ws = omega (arith, length-map c.args.words.now string_bytes) in
    let is : w ≡ get_or ws i w =
    c.as_str.ensures.value ∙ ap string_bytes c.index-words-i.is ∙ sym (get_or-map string_bytes c.args.words.now i c.index-words-i.result w within) in
    let other : c.in-Err.fault ≢ range.Memory = λ h. n (c.of_range.ensures ∙ ap (of_range i) h) in
    sym c.loop-i.invariant ∙ refusal plan i c.loop-i.ranges ws w inside is c.in-Err.fault (c.in-Err.ensures other) ∙ ap Err (sym c.of_range.ensures)

pub loop-i-preserved : goal.loop-i-preserved
loop-i-preserved c =
    let plan = c.args.text.now in
    let ws = map string_bytes c.args.words.now in
    let i = c.loop-i.i in
    let w = c.as_str.result.now in
    let within : i < length c.args.words.now = omega arith in
    let inside : i < length ws = omega (arith, length-map c.args.words.now string_bytes) in
    let is : w ≡ get_or ws i w =
    c.as_str.ensures.value ∙ ap string_bytes c.index-words-i.is ∙ sym (get_or-map string_bytes c.args.words.now i c.index-words-i.result w within) in
    ap (λ (made : List SweptRange). left_of plan (i + 1) made (drop (i + 1) ws)) c.in_ok-push-in-Ok.ensures.ok
    ∙ step plan i c.loop-i.ranges ws w inside is c.in-Ok.range c.in-Ok.ensures
    ∙ c.loop-i.invariant
