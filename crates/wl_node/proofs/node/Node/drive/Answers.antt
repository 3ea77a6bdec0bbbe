use Rattle.std.proofs.Common.{◌∙◌, sym, ap, subst, arith}
use Rattle.wl_node.specs.Reached.{node_setup}
use Rattle.wl_node.specs.Staying.{IsStaying}
use Rattle.wl_node.proofs.Leaving.{away_drive, history_there, not_left}
use Rattle.wl_node.proofs.node.Node.drive.Goals as goal

pub returns-then-self-gt0 : goal.returns-then-self-gt0
returns-then-self-gt0 c levels is = sym (away_drive (node_setup c.args.self.now) levels (let a = is.away in let g = c.if-self-gt0.true in omega (arith, a, g)))

pub returns : goal.returns
returns c levels is =
    (let setup = node_setup c.args.self.now in
    let g = c.if-self-gt0.false in
    let a = is.away in
    let at = not_left setup.until levels (omega (arith, a, g)) in
    c.drive.ensures levels (subst (λ ls. IsStaying ls c.args.self.now.staying) at.there is.stayed) ∙ sym (ap (λ h. h.drive) (history_there setup levels at.there at.away)))
