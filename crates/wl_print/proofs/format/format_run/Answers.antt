use Rattle.std.proofs.Common.{◌≡◌, ◌∙◌, refl, sym, ap, subst, ℕ, List, string_bytes, Result, Ok, Err, is_ok, inr}
use Rattle.std.proofs.lemmas.Bool.{false≢true}
use Rattle.std.proofs.lemmas.Result.{err_from_is_err_and}
use Rattle.wl_device.specs.Devices.{Writes}
use Rattle.wl_print.specs.declared.fault.PrintFault.{PrintFault}
use Rattle.wl_print.specs.declared.fault.PrintFault.TheVariants.{Write}
use Rattle.wl_print.specs.Formats.{Formats}
use Rattle.wl_print.proofs.Formatted.{formatted}
use Rattle.wl_print.proofs.format.format_run.Goals as goal

pub returns-in_err-write_all : goal.returns-in_err-write_all
returns-in_err-write_all g c =
    let reads = c.in_ok-text.ensures (λ h. false≢true (sym (ap is_ok h))) in
    let is = c.in_ok-made.ensures.ok in
    let same = c.in_ok-words.ensures.text in
    let back = formatted g.R.Source.gives c.args.reader.now c.read_text.new.reader c.in_ok-text.text c.in_ok-made.made (string_bytes c.in_ok-words.words) reads is same c.in_ok-words.ensures.reads_back in
    let P : List ℕ → Type 0 = λ b. Writes g.W.Sink.takes c.args.writer.now b (Err c.in_err-write_all.field-0.0) c.write_all.new.writer in
    let out = subst P (c.as_bytes.ensures.value ∙ same) c.in_err-write_all.ensures in
    let (fault, err, gave) = err_from_is_err_and c.from_residual-in_err-write_all.result c.from_residual-in_err-write_all.ensures.1 in
    let write : fault ≡ Write = gave in
    subst (λ (r : Result (Unit {0}) PrintFault). Formats g.R.Source.gives g.W.Sink.takes c.args.reader.now c.read_text.new.reader c.args.writer.now c.write_all.new.writer r)
    (sym (err ∙ ap (λ (f : PrintFault). Err f) write)) (inr (refl, c.in_err-write_all.field-0.0, (c.in_ok-text.text, c.in_ok-made.made, reads, is, back, out)))

pub returns : goal.returns
returns g c =
    let reads = c.in_ok-text.ensures (λ h. false≢true (sym (ap is_ok h))) in
    let is = c.in_ok-made.ensures.ok in
    let same = c.in_ok-words.ensures.text in
    let back = formatted g.R.Source.gives c.args.reader.now c.read_text.new.reader c.in_ok-text.text c.in_ok-made.made (string_bytes c.in_ok-words.words) reads is same c.in_ok-words.ensures.reads_back in
    let P : List ℕ → Type 0 = λ b. Writes g.W.Sink.takes c.args.writer.now b (Ok tt) c.write_all.new.writer in
    (c.in_ok-text.text, c.in_ok-made.made, reads, is, back, subst P (c.as_bytes.ensures.value ∙ same) c.in_ok-write_all.ensures)
