use Rattle.std.proofs.Common.{[], ◌∷◌, sym, subst}
use Rattle.wl_group.specs.Party.{party_with}
use Rattle.wl_group.specs.GroupValue.{Matches}
use Rattle.wl_group.proofs.BeginProofs.{taken_value, taken_kept}
use Rattle.wl_group.proofs.group.Group.take.Goals as goal

pub invariant_of-self-2 : goal.invariant_of-self-2
invariant_of-self-2 c =
    record {
      kept = taken_kept c.value_laws.ensures c.self.inside.plan c.self.inside.lists c.self.inside.cells.items c.self.inside.replica c.take.new.self c.self.inside.emitted.items c.args.entry c.args.self.now
          c.self.view_is c.self.invariant.kept c.requires c.in_ok-take.ensures.ok;
      stretches = c.self.invariant.stretches;
      disturbances = c.self.invariant.disturbances;
      sources = c.self.invariant.sources;
    }

pub returns-clause-after : goal.returns-clause-after
returns-clause-after c p h =
    subst (Matches (party_with (c.args.entry ∷ []) p))
    (sym (taken_value c.self.inside.plan c.self.inside.lists c.self.inside.cells.items c.self.inside.replica c.take.new.self c.self.inside.emitted.items c.args.entry c.args.self.now c.self.view_is c.in_ok-take.ensures.ok))
    (c.value_laws.ensures.takes_as c.args.self.now p (c.args.entry ∷ []) h)
