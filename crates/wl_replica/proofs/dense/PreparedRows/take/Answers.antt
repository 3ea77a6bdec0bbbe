use Rattle.std.proofs.Common.{ℕ, ap, sym, subst, ◌∙◌, arith}
use Rattle.std.specs.Prelude.{Contains}
use Rattle.std.proofs.lemmas.List.Elements.{All-from_recursion}
use Rattle.wl_record_core.specs.declared.record.Slot.{Slot}
use Rattle.wl_record_core.specs.Slots.{slot_of}
use Rattle.wl_replica.specs.Dense.{HasRoomAt}
use Rattle.wl_replica.specs.Prepared.{PreparedState}
use Rattle.wl_replica.specs.State.{Fits, state_with_record}
use Rattle.wl_replica.proofs.DenseShown.{told_kept, told_shown, room_stays}
use Rattle.wl_replica.proofs.dense.PreparedRows.take.Goals as goal

pub join_told-requires-clause-edges : goal.join_told-requires-clause-edges
join_told-requires-clause-edges c =
    subst (λ (n : ℕ). Fits n c.args.told.now) (sym (c.self.invariant.kept.edge_rows ∙ ap (λ (p : PreparedState). p.known.nodes) c.self.view_is)) c.requires.fits

pub join_told-requires-clause-silences : goal.join_told-requires-clause-silences
join_told-requires-clause-silences c =
    subst (λ (n : ℕ). Fits n c.args.told.now) (sym (c.self.invariant.kept.silence_rows ∙ ap (λ (p : PreparedState). p.known.nodes) c.self.view_is)) c.requires.fits

pub join_told-requires-clause-room : goal.join_told-requires-clause-room
join_told-requires-clause-room c =
    let P : Slot → Type 0 = HasRoomAt c.self.inside.edges.rows.items c.self.inside.silences.rows.items in
    let slot = slot_of c.args.told.now in
    let each = All-from_recursion P c.self.inside.slots c.self.invariant.room in
    let there = subst (λ (p : PreparedState). Contains p.slots slot) (sym c.self.view_is) c.requires.room in
    subst P there.2 (each there.0 slot there.1)

pub invariant_of-self : goal.invariant_of-self
invariant_of-self c =
    let told = c.join_told.ensures in
    record {
      kept = told_kept c.self.inside.nodes c.self.inside.edges.rows.items c.self.inside.silences.rows.items c.join_told.new.edges.rows.items c.join_told.new.silences.rows.items c.args.told.now c.self.invariant.kept
          told.edge_rows told.silence_rows told.told (subst (λ (n : ℕ). Fits n c.args.told.now) (sym (ap (λ (p : PreparedState). p.known.nodes) c.self.view_is)) c.requires.fits);
      room = room_stays c.self.inside.edges.rows.items c.join_told.new.edges.rows.items c.self.inside.silences.rows.items c.join_told.new.silences.rows.items
          told.edge_rows told.silence_rows (λ i. omega (arith, told.edge_places i)) (λ i. omega (arith, told.silence_places i)) c.self.inside.slots c.self.invariant.room;
    }

pub returns-clause-known : goal.returns-clause-known
returns-clause-known c =
    told_shown c.self.inside.nodes c.self.inside.edges.rows.items c.self.inside.silences.rows.items c.join_told.new.edges.rows.items c.join_told.new.silences.rows.items c.args.told.now c.join_told.ensures.told
    ∙ ap (λ (p : PreparedState). state_with_record p.known c.args.told.now) c.self.view_is
