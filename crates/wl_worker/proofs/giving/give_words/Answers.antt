use Rattle.std.proofs.Common.{◌<◌, length, get_or, ap, sym, ◌∙◌, arith}
use Rattle.wl_record_core.specs.declared.record.Record.TheVariants.{Edge}
use Rattle.wl_hub.specs.Passes.{shape_of, with_edge, with_silence, given_edges, given_silences}
use Rattle.wl_worker.proofs.Fits.{in_shape, true_at}
use Rattle.wl_worker.proofs.PassLists.{edges_more, silences_more}
use Rattle.wl_worker.proofs.giving.give_words.Goals as goal

pub take-requires-clause-in_shape : goal.take-requires-clause-in_shape
take-requires-clause-in_shape c =
    let p = c.requires.truth in
    in_shape c.table_laws.ensures c.simulation_laws.ensures c.checked_is_sound.ensures c.changes_are_few.ensures p.0 p.1.checked (shape_of c.args.hub.now) p.1.words _
    (true_at p.0 c.args.records.now c.loop-i.i (Edge 0 0 0) p.2 (let low = c.loop-i-test.true in omega arith))

pub loop-i-preserved : goal.loop-i-preserved
loop-i-preserved c =
    let was = c.loop-i.invariant in
    let rs = c.args.records.now in
    let i = c.loop-i.i in
    let low : i < length rs = let l = c.loop-i-test.true in omega arith in (
      c.take.ensures.here,
      c.take.ensures.gave.name ∙ was.1,
      c.take.ensures.gave.edges ∙ (ap (λ gs. with_edge gs (get_or rs i (Edge 0 0 0))) was.2 ∙ sym (edges_more (given_edges c.args.pass.now) rs i (Edge 0 0 0) low)),
      c.take.ensures.gave.silences ∙ (ap (λ gs. with_silence gs (get_or rs i (Edge 0 0 0))) was.3 ∙ sym (silences_more (given_silences c.args.pass.now) rs i (Edge 0 0 0) low)),
    )
