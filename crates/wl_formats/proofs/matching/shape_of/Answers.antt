use Rattle.std.proofs.Common.{◌∙◌, sym, map}
use Rattle.wl_formats.specs.Shapes.{form_of}
use Rattle.wl_formats.proofs.FirstForm.{found_first, found_later}
use Rattle.wl_formats.proofs.matching.shape_of.Goals as goal

pub returns-in-Some : goal.returns-in-Some
returns-in-Some c =
    let table = c.args.table.now in
    sym (found_first (map form_of table.shapes.now) (map form_of table.more.now) c.args.line.now (form_of c.in-Some.shape.now) (sym c.in-Some.ensures))

pub returns-in-None : goal.returns-in-None
returns-in-None c =
    let table = c.args.table.now in
    c.shape_for-in-None.ensures
    ∙ sym (found_later (map form_of table.shapes.now) (map form_of table.more.now) c.args.line.now (sym c.in-None.ensures))
