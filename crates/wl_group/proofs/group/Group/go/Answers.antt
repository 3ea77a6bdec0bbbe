-- A row keeps the members.
use Rattle.std.proofs.Common.{◌+◌, ◌∙◌, ap}
use Rattle.wl_group.specs.GroupValue.{belongs}
use Rattle.wl_group.proofs.GoingProofs.{belongs_on}
use Rattle.wl_group.proofs.group.Group.go.Goals as goal

pub returns-clause-members : goal.returns-clause-members
returns-clause-members c =
    let gone = c.in_ok-said.ensures.gone in
    (ap belongs gone.new_is ∙ belongs_on c.known_for.new.self c.args.node gone.k (gone.k + gone.n) gone.ran) ∙ ap belongs c.known_for.ensures.same
