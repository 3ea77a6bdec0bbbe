use Rattle.std.proofs.Common.{ap, ◌∙◌, []}
use Rattle.wl_replica.specs.State.{states_joined, state_of}
use Rattle.wl_replica.proofs.States.{edge_maps, silence_maps, same_parts}
use Rattle.wl_replica.proofs.Shown.{joined_into_nothing}
use Rattle.wl_replica.proofs.Tells.{tells_edge, tells_silence}
use Rattle.wl_replica.proofs.replica.Replica.clone_in.Goals as goal

pub returns : goal.returns
returns c =
    let other = c.args.self.now in
    c.in_ok-join.ensures.ok ∙ (ap (λ s. states_joined s other) (c.in_ok-other.ensures ∙ ap (λ n. state_of n []) c.nodes.ensures.value)
    ∙ same_parts c.self.inside.rows.nodes other.nodes _ _ _ _ (ap (λ s. s.nodes) c.self.view_is) (joined_into_nothing edge_maps tells_edge other.edges) (joined_into_nothing silence_maps tells_silence other.silences))
