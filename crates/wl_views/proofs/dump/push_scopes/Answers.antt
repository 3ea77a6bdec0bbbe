-- The lines of one node more after those of the nodes before it.
use Rattle.std.proofs.Common.{◌∙◌, ◌++◌, ◌<◌, [], ap, arith, length, string_bytes}
use Rattle.wl_views.specs.Vcd.{scope_lines}
use Rattle.wl_report.proofs.Callers.{piece_more}
use Rattle.wl_views.proofs.dump.push_scopes.Goals as goal

pub loop-i-preserved : goal.loop-i-preserved
loop-i-preserved c =
    let b : c.loop-i.i < length c.args.names.now = omega arith in
    c.in_ok-push_scope.ensures
    ∙ ap (λ name. string_bytes c.loop-i.text ++ scope_lines (c.loop-i.i, name)) c.name_of.ensures
    ∙ piece_more scope_lines (string_bytes c.args.text.now) (string_bytes c.loop-i.text) c.args.names.now c.loop-i.i [] b c.loop-i.invariant
