use Rattle.std.proofs.Common.{sym, subst}
use Rattle.wl_group.specs.Party.{party_with}
use Rattle.wl_group.specs.GroupValue.{Matches}
use Rattle.wl_group.proofs.BeginProofs.{joined_value, joined_kept}
use Rattle.wl_group.proofs.group.Group.join.Goals as goal

pub invariant_of-self-2 : goal.invariant_of-self-2
invariant_of-self-2 c =
    record {
      kept = joined_kept c.value_laws.ensures c.self.inside.plan c.self.inside.lists c.self.inside.cells.items c.self.inside.replica c.join.new.self c.self.inside.emitted.items c.args.other.now c.args.self.now
          c.self.view_is c.self.invariant.kept c.requires.nodes c.nodes.ensures.records c.requires.truth c.in_ok-join.ensures.ok;
      stretches = c.self.invariant.stretches;
      disturbances = c.self.invariant.disturbances;
      sources = c.self.invariant.sources;
    }

pub returns-clause-after : goal.returns-clause-after
returns-clause-after c p rs h e =
    subst (Matches (party_with rs p))
    (sym (joined_value c.self.inside.plan c.self.inside.lists c.self.inside.cells.items c.self.inside.replica c.join.new.self c.self.inside.emitted.items c.args.other.now c.args.self.now c.self.view_is c.in_ok-join.ensures.ok))
    (c.value_laws.ensures.joins_as c.args.self.now p c.args.other.now rs h e)
