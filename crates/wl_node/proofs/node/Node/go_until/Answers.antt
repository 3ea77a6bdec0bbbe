use Rattle.std.proofs.Common.{◌∙◌, ◌++◌, replicate, sym, ap, arith}
use Rattle.wl_level.proofs.Callers.{same_equal}
use Rattle.wl_node.specs.History.{history_of}
use Rattle.wl_node.specs.Reached.{StandsFor}
use Rattle.wl_node.proofs.NodeGone.{gone_more, turns_more}
use Rattle.wl_node.proofs.node.Node.go_until.Goals.{After-go_away-2}
use Rattle.wl_node.proofs.node.Node.go_until.Goals as goal

-- it drives at the quantum at which it leaves what it drove before
stands : (c : After-go_away-2) → StandsFor c.args.self.now c.args.level c.in_ok-ran.ran
stands c levels is =
    (let g = c.in_ok-ran.ensures.gone in
    let now = c.drive.ensures (levels ++ replicate c.in_ok-ran.ran c.args.level) (g.node levels is) in
    let was = c.drive-before.ensures levels is in
    let same_drive = same_equal c.drive.result c.drive-before.result (sym c.is.ensures ∙ c.if-not-is.false) in
    ap (λ s. (history_of s (levels ++ replicate c.in_ok-ran.ran c.args.level)).drive) (sym g.setup) ∙ (sym now ∙ (same_drive ∙ was)))

pub returns-clause-gone : goal.returns-clause-gone
returns-clause-gone c =
    gone_more c.args.level c.in_ok-ran.ran c.go_away-2.result c.args.self.now c.go_there.new.self c.go_away-2.new.self c.in_ok-ran.ensures.gone (stands c) c.go_away-2.ensures.gone

pub returns-clause-turned : goal.returns-clause-turned
returns-clause-turned c less =
    turns_more c.args.level c.in_ok-ran.ran c.go_away-2.result c.args.self.now c.go_there.new.self c.go_away-2.new.self c.in_ok-ran.ensures.gone (stands c)
    (c.go_away-2.ensures.turned (omega (arith, less)))
