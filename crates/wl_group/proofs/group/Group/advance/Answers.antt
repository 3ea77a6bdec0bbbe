-- A node that may run ran, and all else that a reply can be is none of it.
use Rattle.std.proofs.Common.{sym, ◌∙◌}
use Rattle.wl_group.proofs.AllProofs.{advanced_so, replied_emitted}
use Rattle.wl_group.proofs.group.Group.advance.Goals as goal

pub returns-then-can_advance-clause-answer : goal.returns-then-can_advance-clause-answer
returns-then-can_advance-clause-answer c =
    advanced_so c.args.self.now c.run_next.new.self c.args.node c.in_ok-emission.emission.items
    (λ p h. sym (c.value_laws.ensures.may_as c.args.self.now p c.args.node h) ∙ (sym c.can_advance.ensures ∙ c.if-can_advance.true)) c.in_ok-emission.ensures.ran

pub returns-then-can_advance-clause-value : goal.returns-then-can_advance-clause-value
returns-then-can_advance-clause-value c =
    replied_emitted c.args.self.now c.run_next.new.self c.args.node c.in_ok-emission.emission.items
    (sym c.can_advance.ensures ∙ c.if-can_advance.true) c.in_ok-emission.ensures.ran
