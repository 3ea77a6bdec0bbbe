use Rattle.std.proofs.Common.{◌≡◌, ◌∙◌, ◌-◌, ◌<◌, ap, arith}
use Rattle.std.specs.Int.{div_ceil}
use Rattle.wl_sweep.specs.Tallies.{part_start}
use Rattle.wl_spikes.specs.Tallies.{aftermaths_from, spike_tally}
use Rattle.wl_spikes.proofs.Parts.{parts_all, parts_more}
use Rattle.wl_spikes.proofs.spike.Spikes.batch.Goals as goal

pub loop-w-preserved : goal.loop-w-preserved
loop-w-preserved g c =
    let within : c.loop-w.w < c.args.workers = omega (arith, c.in_ok-parts.ensures.all, c.in_ok-parts.parts.ok.0) in
    parts_more c.args.self.now c.args.from c.args.to c.div_ceil-size.result
    c.args.workers c.loop-w.w c.in_ok-parts.parts.items c.index.result.now c.loop-w.tally c.in-Ok.part c.then-tally.result
    (omega arith) (omega arith) c.in_ok-parts.ensures within c.index.ensures c.in-Ok.is c.then-tally.ensures c.loop-w.invariant

pub returns : goal.returns
returns g c =
    let last : c.loop-w.w ≡ c.args.workers = omega (arith, c.in_ok-parts.ensures.all, c.in_ok-parts.parts.ok.0) in
    parts_all c.args.self.now c.args.from c.args.to c.div_ceil-size.result c.args.workers c.loop-w.tally
    (omega arith) (omega arith) (c.div_ceil-size.ensures ∙ ap (div_ceil (c.args.to - c.args.from)) c.from.ensures)
    (c.loop-w.invariant
    ∙ ap (λ k. spike_tally (aftermaths_from c.args.self.now c.args.from (part_start c.args.from c.args.to c.div_ceil-size.result k - c.args.from))) last)
