use Rattle.std.proofs.Common.{◌≡◌, ◌∙◌, ◌==◌, sym, rules}
use Rattle.wl_topology.specs.Same.{same_cable}
use Rattle.wl_topology.proofs.Equal.{same_cable-Decides}
use Rattle.wl_topology.proofs.TopologyPartialEq.eq.Goals as goal

pub returns-then-eq-clause-same : goal.returns-then-eq-clause-same
returns-then-eq-clause-same c =
    let value : (c.self.inside.per == c.other.inside.per) ≡ same_cable c.args.self.now c.args.other.now = search rules in
    let decides = same_cable-Decides c.args.self.now c.args.other.now in
    ((λ h. decides.0 (sym value ∙ h)), (λ e. value ∙ decides.1 e))

pub returns-else-eq-clause-same : goal.returns-else-eq-clause-same
returns-else-eq-clause-same c =
    let value : c.eq.result ≡ same_cable c.args.self.now c.args.other.now = search rules in
    let decides = same_cable-Decides c.args.self.now c.args.other.now in
    ((λ h. decides.0 (sym value ∙ h)), (λ e. value ∙ decides.1 e))
