use Rattle.std.proofs.Common.{◌∙◌, length, sym, ap, subst}
use Rattle.wl_level.specs.declared.Level.TheVariants.{Recessive}
use Rattle.wl_node.specs.History.{levels_there, levels_away}
use Rattle.std.proofs.lemmas.Bool.{ltb-true}
use Rattle.wl_node.proofs.Callers.{left_is}
use Rattle.wl_trace.specs.declared.snapshot.NodeSnapshot.{NodeSnapshot}
use Rattle.wl_trace.specs.StayingRerun.{IsStayingRerun}
use Rattle.wl_trace.proofs.Leaving.{not_away, shown_away, shown_there}
use Rattle.wl_trace.proofs.rerun.Rerun.snapshot.Goals as goal

pub returns-then-self : goal.returns-then-self
returns-then-self c setup levels is =
    (let some = ltb-true 0 (length (levels_away setup.until levels)) (sym (left_is setup.until levels) ∙ (sym is.left ∙ c.if-self.true)) in
    ap (λ (s : NodeSnapshot). record s { drive = Recessive }) (c.snapshot-shown.ensures setup (levels_there setup.until levels) is.stayed) ∙ sym (shown_away setup levels some))

pub returns : goal.returns
returns c setup levels is =
    (let at = not_away setup.until levels (sym is.left ∙ c.if-self.false) in
    c.snapshot-shown.ensures setup levels (subst (λ ls. IsStayingRerun setup ls c.args.self.now.staying) at.there is.stayed) ∙ sym (shown_there setup levels at))
