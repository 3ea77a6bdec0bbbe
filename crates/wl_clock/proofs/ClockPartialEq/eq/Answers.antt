use Rattle.std.proofs.Common.{◌≡◌, ◌∙◌, sym, rules}
use Rattle.wl_clock.specs.Same.{same_timing, timing_decides}
use Rattle.wl_clock.proofs.ClockPartialEq.eq.Goals as goal

value : (c : goal.After-eq) → c.eq.result ≡ same_timing c.args.self.now c.args.other.now
value c = search rules

pub returns-then-self-other-clause-same : goal.returns-then-self-other-clause-same
returns-then-self-other-clause-same c =
    let decided = timing_decides c.args.self.now c.args.other.now in
    (λ t. decided.0 (sym (value c) ∙ t), λ e. value c ∙ decided.1 e)
