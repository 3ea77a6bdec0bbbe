use Rattle.std.proofs.Common.{subst, ℕ, List}
use Rattle.wl_sim.specs.Tasks.{WritesAs}
use Rattle.wl_sim.proofs.run_formatted.Goals as goal

-- the engine wrote into memory, and what it wrote there is written
pub returns : goal.returns
returns g c =
    let wrote : List ℕ → Type 0 = λ text.
    WritesAs g.W.Sink.takes c.args.writer.now c.write_kept.new.writer c.args.format c.args.subject text c.run-answer.result c.write_kept.result in (
      c.new-kept.result,
      c.run-answer.new.writer,
      c.run-answer.result,
      c.new-kept.ensures,
      c.run-answer.ensures,
      subst wrote c.deref.ensures.value c.write_kept.ensures,
    )
