use Rattle.std.proofs.Common.{◌∙◌, ap}
use Rattle.std.proofs.lemmas.Result.{IfOk-weaker}
use Rattle.wl_parts.specs.Text.{part_text}
use Rattle.wl_parts.specs.Whole.{part_of}
use Rattle.wl_sweep.specs.Parts.{kinds_of, whole_of}
use Rattle.wl_sweep_engine.proofs.part.text_of.Goals as goal

pub returns : goal.returns
returns g c =
    let s = c.args.sweep.now in
    IfOk-weaker c.part_text.result _ _
    (λ text h. record {
      tail = c.in_ok-tail.tail;
      last = c.in_ok-tail.ensures;
      whole =
          h ∙ ap part_text (c.in_ok-part.ensures
          ∙ ap (λ name. part_of (kinds_of s) (whole_of s name c.in_ok-tail.tail) c.args.share.count c.args.share.number) c.in_ok-name.ensures);
    })
    c.part_text.ensures
