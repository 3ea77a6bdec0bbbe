use Rattle.std.proofs.Common.{ap, ◌∙◌, ◌++◌, List, ℕ}
use Rattle.wl_hub.proofs.Passes.{closes_all}
use Rattle.wl_hub.proofs.hub.Hub.close.Goals as goal

pub returns-clause-words : goal.returns-clause-words
returns-clause-words g c =
    let first = c.close-words.ensures.words in
    let second = c.close.ensures.words in
    let hub = c.args.self in
    closes_all g.T.Truth.is_true hub.shape.items c.args.pass hub.edge_count hub.silence_count first.0 second.0 c.close.result.items c.requires.here.1.1
    first.1 second.1 hub.edges_counted.0 hub.silences_counted.0
    (second.2 ∙ ap (λ (l : List ℕ). l ++ second.0) (first.2 ∙ ap (λ (l : List ℕ). l ++ first.0) c.in_ok-words.ensures.items))
    first.3 second.3
