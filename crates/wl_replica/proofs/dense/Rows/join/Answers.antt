use Rattle.std.proofs.Common.{◌≡◌, max, ap, ◌∙◌}
use Rattle.wl_replica.specs.Keys.{Key}
use Rattle.wl_replica.specs.State.{states_joined}
use Rattle.wl_replica.specs.Dense.{slot_number}
use Rattle.wl_lattice.specs.Numbers.{joined_numbers}
use Rattle.wl_replica.proofs.Shown.{at_error}
use Rattle.wl_replica.proofs.RowSteps.{grown_none}
use Rattle.wl_replica.proofs.DenseShown.{grown_shown, joined_shown}
use Rattle.wl_replica.proofs.dense.Rows.join.Goals as goal

pub returns-in_err-make_room_for-clause-err : goal.returns-in_err-make_room_for-clause-err
returns-in_err-make_room_for-clause-err c =
    at_error _ _ (grown_shown c.self.inside.nodes c.self.inside.edges.rows.items c.self.inside.silences.rows.items c.make_room_for.new.rows.items c.self.inside.silences.rows.items
    c.make_room_for.ensures.grown (grown_none c.self.inside.silences.rows.items) ∙ c.self.view_is)

pub returns-in_err-make_room_for-2-clause-err : goal.returns-in_err-make_room_for-2-clause-err
returns-in_err-make_room_for-2-clause-err c =
    at_error _ _ (grown_shown c.self.inside.nodes c.self.inside.edges.rows.items c.self.inside.silences.rows.items c.make_room_for.new.rows.items c.make_room_for-2.new.rows.items
    c.make_room_for.ensures.grown c.make_room_for-2.ensures.grown ∙ c.self.view_is)

pub returns-clause-ok : goal.returns-clause-ok
returns-clause-ok c =
    let e : (q : Key) → slot_number c.join_edge_rows.new.rows.items q ≡ joined_numbers (slot_number c.self.inside.edges.rows.items q) (slot_number c.other.inside.edges.rows.items q) =
    λ q. c.join_edge_rows.ensures.joined q ∙ ap (λ a. joined_numbers a (slot_number c.other.inside.edges.rows.items q)) (c.make_room_for.ensures.grown.same q) in
    let s : (q : Key) → slot_number c.join_silence_rows.new.rows.items q ≡ max (slot_number c.self.inside.silences.rows.items q) (slot_number c.other.inside.silences.rows.items q) =
    λ q. c.join_silence_rows.ensures.joined q ∙ ap (λ a. max a (slot_number c.other.inside.silences.rows.items q)) (c.make_room_for-2.ensures.grown.same q) in
    joined_shown c.self.inside.nodes c.self.inside.edges.rows.items c.self.inside.silences.rows.items c.other.inside.edges.rows.items c.other.inside.silences.rows.items
    c.join_edge_rows.new.rows.items c.join_silence_rows.new.rows.items e s c.other.inside.nodes
    ∙ (λ i. states_joined (c.self.view_is i) (c.other.view_is i))
