use Rattle.std.proofs.Common.{◌∙◌}
use Rattle.wl_replica.proofs.DenseShown.{grown_kept, grown_shown}
use Rattle.wl_replica.proofs.dense.Rows.prepare.Goals as goal

pub returns-in-Ok-clause-known : goal.returns-in-Ok-clause-known
returns-in-Ok-clause-known c =
    grown_shown c.rows.inside.nodes c.rows.inside.edges.rows.items c.rows.inside.silences.rows.items c.make_slots.new.edges.rows.items c.make_slots.new.silences.rows.items c.make_slots.ensures.edges c.make_slots.ensures.silences ∙ c.rows.view_is

pub returns-in-Err-clause-err : goal.returns-in-Err-clause-err
returns-in-Err-clause-err c =
    grown_shown c.rows.inside.nodes c.rows.inside.edges.rows.items c.rows.inside.silences.rows.items c.make_slots.new.edges.rows.items c.make_slots.new.silences.rows.items c.make_slots.ensures.edges c.make_slots.ensures.silences ∙ c.rows.view_is

pub invariant_of-result : goal.invariant_of-result
invariant_of-result c = record {
  kept = grown_kept c.rows.inside.nodes c.rows.inside.edges.rows.items c.rows.inside.silences.rows.items c.make_slots.new.edges.rows.items c.make_slots.new.silences.rows.items c.rows.invariant c.make_slots.ensures.edges c.make_slots.ensures.silences;
  room = c.in-Ok.ensures.room;
}

pub invariant_of-rows : goal.invariant_of-rows
invariant_of-rows c =
    grown_kept c.rows.inside.nodes c.rows.inside.edges.rows.items c.rows.inside.silences.rows.items c.make_slots.new.edges.rows.items c.make_slots.new.silences.rows.items c.rows.invariant c.make_slots.ensures.edges c.make_slots.ensures.silences
