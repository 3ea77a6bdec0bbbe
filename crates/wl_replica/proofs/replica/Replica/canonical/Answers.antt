use Rattle.std.proofs.Common.{◌++◌, ◌∷◌, [], List, ap, subst, ◌∙◌}
use Rattle.std.specs.Prelude.{All}
use Rattle.std.specs.List.{flat_map}
use Rattle.std.proofs.lemmas.List.Elements.{All-same}
use Rattle.wl_record_core.specs.declared.record.Record.{Record}
use Rattle.wl_replica.specs.Canonical.{canonical}
use Rattle.wl_replica.specs.State.{State, Fits}
use Rattle.wl_replica.proofs.Telling.{each_listed}
use Rattle.wl_replica.proofs.replica.Replica.canonical.Goals as goal

pub returns-clause-list : goal.returns-clause-list
returns-clause-list c =
    c.in_ok-tell.ensures.told ∙ (ap (λ (rs : List Record). rs ++ flat_map (λ (r : Record). r ∷ []) (canonical c.self.inside.rows)) c.new-all.ensures.items
    ∙ (each_listed (canonical c.self.inside.rows) ∙ ap canonical c.self.view_is))

pub returns-clause-fits : goal.returns-clause-fits
returns-clause-fits c =
    All-same (Fits c.args.self.now.nodes) c.tell.new.sink.items _ (returns-clause-list c) (subst (λ (s : State). All (Fits s.nodes) (canonical s)) c.self.view_is c.in_ok-tell.ensures.fits)
