use Rattle.std.proofs.Common.{◌≡◌, ◌∙◌, sym, rules}
use Rattle.wl_node.specs.Same.{same_setup, setup_decides}
use Rattle.wl_node.proofs.setup.NodeSetupPartialEq.eq.Goals as goal

value : (c : goal.After-eq-then-eq-4) → c.eq-then-eq-4.result ≡ same_setup c.args.self.now c.args.other.now
value c = search rules

pub returns-then-eq-4-clause-same : goal.returns-then-eq-4-clause-same
returns-then-eq-4-clause-same c =
    let decided = setup_decides c.args.self.now c.args.other.now in
    (λ t. decided.0 (sym (value c) ∙ t), λ e. value c ∙ decided.1 e)

pub returns-else-eq-4-clause-same : goal.returns-else-eq-4-clause-same
returns-else-eq-4-clause-same c =
    let decided = setup_decides c.args.self.now c.args.other.now in
    let value : c.if-eq-3.value ≡ same_setup c.args.self.now c.args.other.now = search rules in
    (λ t. decided.0 (sym value ∙ t), λ e. value ∙ decided.1 e)
