use Rattle.std.proofs.Common.{◌≡◌, ◌+◌, ◌∷◌, [], List, suc, get_or, take, ap, subst, sym, ◌∙◌, arith}
use Rattle.std.specs.Prelude.{Contains}
use Rattle.std.proofs.Math.Seq.{take-suc}
use Rattle.std.proofs.lemmas.List.{take_all}
use Rattle.wl_record_core.specs.declared.record.Record.TheVariants.{Edge}
use Rattle.wl_record_core.specs.declared.record.Slot.{Slot}
use Rattle.wl_record_core.specs.Slots.{slot_of}
use Rattle.wl_replica.specs.Prepared.{PreparedState}
use Rattle.wl_replica.specs.State.{State, Fits, state_with_record, state_with_records}
use Rattle.wl_replica.proofs.Keeps.{taken_keeps}
use Rattle.wl_replica.proofs.States.{joining, taking, taken_after}
use Rattle.wl_replica.proofs.replica.Prepared.take_all.Goals as goal

pub take_one-requires-clause-fits : goal.take_one-requires-clause-fits
take_one-requires-clause-fits c =
    subst (λ (s : State). Fits s.nodes (get_or c.args.told.now c.loop-record.record-index (Edge 0 0 0))) (sym c.loop-record.invariant.known) (c.requires.fits c.loop-record.record-index (Edge 0 0 0) c.loop-record-test.true)

pub take_one-requires-clause-room : goal.take_one-requires-clause-room
take_one-requires-clause-room c =
    subst (λ (slots : List Slot). Contains slots (slot_of (get_or c.args.told.now c.loop-record.record-index (Edge 0 0 0)))) (sym c.loop-record.invariant.slots) (c.requires.room c.loop-record.record-index (Edge 0 0 0) c.loop-record-test.true)

pub loop-record-preserved : goal.loop-record-preserved
loop-record-preserved c =
    let told = c.args.told.now in
    let i = c.loop-record.record-index in
    let s = c.args.self.known in
    let r = get_or told i (Edge 0 0 0) in
    let next : take (suc i) told ≡ take (i + 1) told = ap (λ k. take k told) (let same : suc i ≡ i + 1 = omega arith in same) in
    record {
      known = c.take_one.ensures.known ∙ (ap (λ (t : State). state_with_record t r) c.loop-record.invariant.known
          ∙ (taking.in_parts s (take i told) (r ∷ []) ∙ ap (state_with_records s) (sym (take-suc told i (Edge 0 0 0) c.loop-record-test.true) ∙ next)));
      slots = c.take_one.ensures.slots ∙ c.loop-record.invariant.slots;
      runs = c.take_one.ensures.runs;
    }

pub loop-record-init : goal.loop-record-init
loop-record-init c = record {
  known = ap (λ (p : PreparedState). p.known) c.self.view_is ∙ sym (joining.neutral c.args.self.known);
  slots = ap (λ (p : PreparedState). p.slots) c.self.view_is;
  runs = c.self.invariant;
}

pub returns-clause-value : goal.returns-clause-value
returns-clause-value c =
    c.into_rows.ensures ∙ (c.loop-record.invariant.known ∙ ap (state_with_records c.args.self.known) (take_all c.loop-record.record-index c.args.told.now c.loop-record-test.false))

pub returns-clause-after : goal.returns-clause-after
returns-clause-after c = taken_after c.args.self.known _ c.args.told.now (returns-clause-value c)

pub returns-clause-keeps : goal.returns-clause-keeps
returns-clause-keeps c = taken_keeps c.known_laws.ensures c.args.self.known _ c.args.told.now (returns-clause-value c)
