use Rattle.std.proofs.Common.{◌∙◌, List, ℕ, refl, subst}
use Rattle.wl_device.specs.declared.bounded.Ended.TheVariants as ended
use Rattle.wl_device.specs.Bounded.{ReadsUpTo}
use Rattle.wl_device.specs.Devices.{Writes}
use Rattle.wl_setup.specs.Limits.{most_bytes}
use Rattle.wl_engines.proofs.explain.explain_run.Goals as goal

pub returns : goal.returns
returns g c =
    let items = c.in_ok-text.text.items in
    let reads =
    subst (λ e. ReadsUpTo g.R.Source.gives c.args.reader.now most_bytes items e c.read_bytes.new.reader) c.in-Full.is c.in_ok-text.ensures in
    let writes =
    subst (λ (bytes : List ℕ). Writes g.W.Sink.takes c.args.writer.now bytes c.write_all.result c.write_all.new.writer)
    (c.as_bytes.ensures.value ∙ c.in_ok-said-in-Full.ensures) c.write_all.ensures in
    (items, ended.Full, reads, (refl, (c.write_all.result, writes)))
