use Rattle.std.proofs.Common.{◌∙◌, ◌++◌, ap, drop, length, replicate}
use Rattle.std.proofs.lemmas.List.{drop-replicate}
use Rattle.wl_topology.specs.Delays.{nowhere}
use Rattle.wl_topology.proofs.stored.Goals as goal

pub returns : goal.returns
returns c =
    ap (λ front. front ++ drop (length c.args.places.now) (replicate 64 nowhere)) c.copy_from_slice.ensures.after
    ∙ ap (λ rest. c.args.places.now ++ rest) (drop-replicate (length c.args.places.now) 64 nowhere)
