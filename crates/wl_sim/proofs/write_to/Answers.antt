use Rattle.std.proofs.Common.{refl, sym, subst, map, string_bytes, option_map, inr, Option, Bor}
use Rattle.clap.specs.Words.{Text}
use Rattle.wl_setup.specs.declared.text.Text as setup
use Rattle.wl_sim.specs.Orders.{MovesFile, WritesTo}
use Rattle.wl_sim.proofs.Moving.{moves_after}
use Rattle.wl_sim.proofs.write_to.Goals as goal

-- a new file was begun, and the task was done over it
pub returns-in-Ok : goal.returns-in-Ok
returns-in-Ok g c =
    let moves : Text → Type 0 = λ name.
    MovesFile g.F.Folder.stands g.F.Folder.holds c.args.folder.now c.finish.new.folder name c.run_as-answer.new.writer
    c.run_as-answer.result c.finish.result in
    let moved = subst moves c.as_str-in-Ok.ensures (moves_after g.F.Folder.stands g.F.Folder.holds c.args.folder.now c.begin.new.self
    c.finish.new.folder c.as_str-in-Ok.result.now c.run_as-answer.new.writer c.finish.result c.run_as-answer.result
    c.begin.ensures.keeps c.finish.ensures) in
    let writes : Option (Bor setup.Text) → Type 0 = λ output.
    WritesTo g.R.Source.gives g.W.Sink.takes g.F.Writer.Sink.takes g.F.Folder.stands g.F.Folder.holds
    c.args.reader.now c.run_as-answer.new.reader c.args.writer.now c.args.writer.now c.args.folder.now c.finish.new.folder
    c.args.work.format c.args.work.task (map string_bytes c.args.work.ranges.now) c.args.work.asked.now (option_map (λ n. n.now) output) c.finish.result in
    subst writes (sym c.in-Some.is) (
      refl,
      inr (c.in-Ok.file, c.run_as-answer.new.writer, c.run_as-answer.result, c.in-Ok.ensures.empty, c.run_as-answer.ensures, moved),
    )
