use Rattle.std.proofs.Common.{◌∙◌, sym, map, string_bytes, refl, inl, inr}
use Rattle.wl_sweep.specs.Sweeps.{member_at}
use Rattle.wl_sweep_engine.specs.Asked.{checked_options}
use Rattle.wl_sweep_engine.specs.Printed.{printed_of}
use Rattle.wl_sweep_engine.specs.Sweeping.{RefusesMember, WritesMember}
use Rattle.wl_sweep_engine.proofs.Refusing.{fine_here, printed_fine, refused_by, swept_by, text_by}
use Rattle.wl_sweep_engine.proofs.print.print_run.Goals as goal

pub returns-in_err-text : goal.returns-in_err-text
returns-in_err-text g c =
    let gives = g.R.Source.gives in
    let takes = g.W.Sink.takes in
    let words = map string_bytes c.args.words.now in
    let asked = c.args.asked in
    let s = c.args.reader.now in
    let after = c.read_text.new.reader in
    let t = c.args.writer.now in
    let fault = c.in_err-text.field-0.0 in
    text_by gives takes words asked s after t (checked_options asked.options) (RefusesMember gives takes words asked s after t t c.args.number)
    (WritesMember gives takes words asked s after t t c.args.number) (λ e refuses. inr refuses) (sym c.check_options.ensures ∙ c.in_ok-check_options.was) fault
    (λ known. c.in_err-text.ensures (λ h. known cc)) c.from_residual-in_err-text.result c.from_residual-in_err-text.ensures.1

pub returns-in_err-sweep : goal.returns-in_err-sweep
returns-in_err-sweep g c =
    let gives = g.R.Source.gives in
    let takes = g.W.Sink.takes in
    let words = map string_bytes c.args.words.now in
    let asked = c.args.asked in
    let s = c.args.reader.now in
    let after = c.read_text.new.reader in
    let t = c.args.writer.now in
    swept_by gives takes words asked s after t (checked_options asked.options) (RefusesMember gives takes words asked s after t t c.args.number)
    (WritesMember gives takes words asked s after t t c.args.number) (λ e refuses. inr refuses) (sym c.check_options.ensures ∙ c.in_ok-check_options.was)
    c.in_ok-text.text (c.in_ok-text.ensures (λ h. cc)) c.in_err-sweep.field-0.0 c.in_err-sweep.ensures.answer c.from_residual-in_err-sweep.result
    c.from_residual-in_err-sweep.ensures.1

pub returns-in_err-text-2 : goal.returns-in_err-text-2
returns-in_err-text-2 g c =
    let gives = g.R.Source.gives in
    let takes = g.W.Sink.takes in
    let words = map string_bytes c.args.words.now in
    let asked = c.args.asked in
    let s = c.args.reader.now in
    let after = c.read_text.new.reader in
    let t = c.args.writer.now in
    let sweep = c.in_ok-sweep.sweep in
    let e = c.in_err-text-2.field-0.0 in
    refused_by (RefusesMember gives takes words asked s after t t c.args.number) (WritesMember gives takes words asked s after t t c.args.number) t t refl e
    (λ n. fine_here (printed_of sweep c.args.number) e (printed_fine c.args.number (member_at sweep c.args.number)) (c.in_err-text-2.ensures.fault n))
    (λ n. inl (
      sym c.check_options.ensures ∙ c.in_ok-check_options.was,
      c.in_ok-sweep.field-0-0,
      sweep,
      (c.in_ok-text.text, c.in_ok-text.ensures (λ h. cc), c.in_ok-sweep.ensures.answer),
      c.in_err-text-2.ensures.fault n,
    ))
    c.from_residual-in_err-text-2.result c.from_residual-in_err-text-2.ensures.1
