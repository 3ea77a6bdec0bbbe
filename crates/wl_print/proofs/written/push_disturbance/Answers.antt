use Rattle.std.proofs.Common.{◌∙◌, ◌++◌, ap, codes, string_bytes, append_assoc, List, ℕ}
use Rattle.std.proofs.lemmas.Result.{IfOk-equal}
use Rattle.wl_print.specs.Written.{disturbance_lines, header_line, interval_lines, spot_line}
use Rattle.wl_print.proofs.written.push_disturbance.Goals as goal

pub returns : goal.returns
returns c =
    let d = c.args.disturbance.now in
    let old = string_bytes c.args.text.now in
    let header = header_line (codes "disturbance") in
    let spot = spot_line d.node d.x in
    IfOk-equal c.push_interval.result (string_bytes c.push_interval.new.text) (string_bytes c.push_spot.new.text ++ interval_lines d) (old ++ disturbance_lines d)
    c.push_interval.ensures
    (ap (λ (t : List ℕ). t ++ interval_lines d)
    (c.in_ok-push_spot.ensures ∙ ap (λ (t : List ℕ). t ++ spot) c.in_ok-push_header.ensures ∙ append_assoc old header spot)
    ∙ append_assoc old (header ++ spot) (interval_lines d))
