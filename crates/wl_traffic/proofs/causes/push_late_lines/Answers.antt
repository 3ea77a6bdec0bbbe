use Rattle.std.proofs.Common.{◌∙◌, ◌++◌, ap, sym, append_assoc, string_bytes, ℕ, List, take}
use Rattle.wl_traffic.specs.declared.late.LateMessage.{LateMessage}
use Rattle.wl_traffic.specs.Causes.{line_of_late, late_lines}
use Rattle.wl_traffic.proofs.Growing.{flat_more}
use Rattle.wl_traffic.proofs.causes.push_late_lines.Goals as goal

pub loop-message-preserved : goal.loop-message-preserved
loop-message-preserved c =
    let late : List LateMessage = c.args.late.now in
    let k : ℕ = c.loop-message.message-index in
    let d : LateMessage = c.message-item.result in
    let line = line_of_late c.args.tick c.args.names.now in
    let old : List ℕ = string_bytes c.args.text.now in
    c.in_ok-push_late_line.ensures
    ∙ ap (λ (xs : List ℕ). xs ++ line d) c.loop-message.invariant
    ∙ append_assoc old (late_lines c.args.tick c.args.names.now (take k late)) (line d)
    ∙ ap (λ (m : LateMessage). old ++ (late_lines c.args.tick c.args.names.now (take k late) ++ line m)) c.message-item.is
    ∙ ap (λ (xs : List ℕ). old ++ xs) (sym (flat_more line late k d c.loop-message-test.true))
