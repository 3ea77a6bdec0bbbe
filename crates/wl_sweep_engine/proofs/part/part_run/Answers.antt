use Rattle.std.proofs.Common.{◌∙◌, sym, subst, map, string_bytes, List, ℕ, Err}
use Rattle.wl_device.specs.Devices.{Writes}
use Rattle.wl_plan.specs.declared.plan.Plan.{Plan}
use Rattle.wl_sweep_engine.specs.Asked.{checked_part}
use Rattle.wl_sweep_engine.specs.Parts.{IsPartText}
use Rattle.wl_sweep_engine.specs.Sweeping.{RefusesSweep, WritesPart}
use Rattle.wl_sweep_engine.proofs.Refusing.{swept_by, wrote_by}
use Rattle.wl_sweep_engine.proofs.part.part_run.Goals as goal

pub returns-in_err-plan : goal.returns-in_err-plan
returns-in_err-plan g c =
    let gives = g.R.Source.gives in
    let takes = g.W.Sink.takes in
    let words = map string_bytes c.args.words.now in
    let asked = c.args.asked in
    let s = c.args.reader.now in
    let after = c.read_text.new.reader in
    let t = c.args.writer.now in
    let checked = checked_part asked.options c.args.workers.count c.args.share in
    swept_by gives takes words asked s after t checked (RefusesSweep gives takes words asked s after t t checked)
    (WritesPart gives takes words asked s after t t c.args.share c.args.workers.count)
    (λ e refuses. refuses) (sym c.check_part.ensures.checked ∙ c.in_ok-check_part.was) c.in_ok-text.text (c.in_ok-text.ensures (λ h. cc)) c.in_err-plan.field-0.0
    c.in_err-plan.ensures.answer c.from_residual-in_err-plan.result c.from_residual-in_err-plan.ensures.1

pub returns-in_err-write_all : goal.returns-in_err-write_all
returns-in_err-write_all g c =
    let gives = g.R.Source.gives in
    let takes = g.W.Sink.takes in
    let words = map string_bytes c.args.words.now in
    let asked = c.args.asked in
    let s = c.args.reader.now in
    let after = c.read_text.new.reader in
    let t = c.args.writer.now in
    let t' = c.write_all.new.writer in
    let checked = checked_part asked.options c.args.workers.count c.args.share in
    let fault = c.in_err-write_all.field-0.0 in
    wrote_by (RefusesSweep gives takes words asked s after t t' checked) (WritesPart gives takes words asked s after t t' c.args.share c.args.workers.count) t t' tt
    fault (
      sym c.check_part.ensures.checked ∙ c.in_ok-check_part.was,
      c.in_ok-plan.plan,
      c.in_ok-plan.sweep,
      c.in_ok-text-2.text.items,
      (c.in_ok-text.text, c.in_ok-text.ensures (λ h. cc), c.in_ok-plan.ensures.answer),
      subst (λ (p : Plan). IsPartText asked.worst p c.in_ok-plan.sweep c.args.share c.in_ok-text-2.text.items) c.deref.ensures.0 c.in_ok-text-2.ensures,
      subst (λ (bytes : List ℕ). Writes takes t bytes (Err fault) t') c.as_slice.ensures.value c.in_err-write_all.ensures,
    )
    c.from_residual-in_err-write_all.result c.from_residual-in_err-write_all.ensures.1
