use Rattle.std.proofs.Common.{◌∙◌, sym, map}
use Rattle.std.proofs.lemmas.List.{length-map}
use Rattle.wl_lines.specs.Shapes.{part_of}
use Rattle.wl_lines.proofs.Parts.{unlike}
use Rattle.wl_lines.proofs.aligned.same_parts.Goals as goal

pub returns-then-a-b : goal.returns-then-a-b
returns-then-a-b c =
    let a = c.args.a.now in
    let b = c.args.b.now in
    unlike (map part_of a) (map part_of b) (λ e. c.if-a-b.true (sym (length-map a part_of) ∙ e ∙ length-map b part_of))
