use Rattle.std.proofs.Common.{◌≡◌, ◌∙◌, ap, subst, ◌++◌}
use Rattle.wl_confine.specs.declared.Mode.{Mode}
use Rattle.wl_confine.specs.declared.Happened.{Happened}
use Rattle.wl_confine.specs.Counts.{Counts, counts_after, mode_of}
use Rattle.wl_trace.specs.declared.notes.Notes.{Notes}
use Rattle.wl_trace.specs.Events.{lost_events, error_events, flag_events, frame_events, mode_events, judged_events}
use Rattle.wl_trace.specs.Notes.{Adds}
use Rattle.wl_trace.proofs.Added.{adds_both, on_ok}
use Rattle.wl_trace.proofs.notes.Notes.push_sample.Goals as goal

pub returns : goal.returns
returns c s j r h d n f =
    let n0 : Notes = c.args.self.now in
    let n1 : Notes = c.push_lost.new.self in
    let n2 : Notes = c.push_error.new.self in
    let n3 : Notes = c.push_flag.new.self in
    let n4 : Notes = c.push_frame.new.self in
    let n5 : Notes = c.push_mode.new.self in
    let now : c.args.new ≡ counts_after c.args.old j.happened = c.requires ∙ ap (counts_after c.args.old) h in
    let lost : Adds n0 n1 (lost_events s c.args.level) = c.in_ok-push_lost.ensures s r in
    let error : Adds n1 n2 (error_events s j.happened) = subst (λ (k : Happened). Adds n1 n2 (error_events s k)) h (c.in_ok-push_error.ensures s r) in
    let flag : Adds n2 n3 (flag_events (mode_of (counts_after c.args.old j.happened)) j.next) =
    subst (λ (m : Mode). Adds n2 n3 (flag_events m j.next)) (c.mode.ensures ∙ ap mode_of now) (c.in_ok-push_flag.ensures c.args.level j.next n) in
    let frame : Adds n3 n4 (frame_events j.ended) = c.in_ok-push_frame.ensures s j.ended r d f in
    let so_far : Adds n0 n4 (lost_events s c.args.level ++ error_events s j.happened ++ flag_events (mode_of (counts_after c.args.old j.happened)) j.next ++ frame_events j.ended) =
    adds_both n0 n3 n4 _ _ (adds_both n0 n2 n3 _ _ (adds_both n0 n1 n2 _ _ lost error) flag) frame in
    on_ok c.push_mode.result (Adds n4 n5 (mode_events c.args.old c.args.new)) (Adds n0 n5 (judged_events s c.args.level c.args.old j))
    (λ mode. adds_both n0 n4 n5 _ _ so_far (subst (λ (k : Counts). Adds n4 n5 (mode_events c.args.old k)) now mode)) c.push_mode.ensures
