use Rattle.std.proofs.Common.{◌∙◌, ◌++◌, ap}
use Rattle.wl_device.specs.Devices.{moved_bytes}
use Rattle.wl_engines.proofs.PageProofs.{all_kept}
use Rattle.wl_engines.proofs.run_page.wave_of.Goals as goal

-- all of the waveform went into an empty memory
pub returns-in-Ok : goal.returns-in-Ok
returns-in-Ok c =
    let calls = c.in-Ok.ensures.0 in
    all_kept c.new-kept.result calls c.vcd.new.writer c.in-Ok.ensures.1.run
    ∙ (ap (λ held. held ++ moved_bytes calls) c.new-kept.ensures ∙ c.in-Ok.ensures.1.bytes_are)
