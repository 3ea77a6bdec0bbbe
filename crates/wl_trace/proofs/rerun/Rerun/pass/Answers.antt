use Rattle.std.proofs.Common.{◌∙◌, ◌++◌, length, replicate, refl, sym, ap, subst, arith}
use Rattle.wl_level.specs.declared.Level.TheVariants.{Recessive}
use Rattle.wl_node.specs.History.{levels_there, levels_away, quanta_before}
use Rattle.wl_node.proofs.Callers.{have_left, left_is}
use Rattle.wl_trace.specs.StayingRerun.{IsStayingRerun}
use Rattle.std.proofs.lemmas.Bool.{ltb-true}
use Rattle.wl_trace.specs.Snapshot.{staying_snapshot}
use Rattle.wl_trace.specs.Synced.{staying_syncs}
use Rattle.wl_trace.proofs.Leaving.{away_there, left_after, not_away, shown_away, shown_there, there_left, there_on}
use Rattle.wl_trace.proofs.rerun.Rerun.pass.Goals as goal

pub returns-then-self-clause-same : goal.returns-then-self-clause-same
returns-then-self-clause-same c levels long is m less =
    (let setup = c.args.setup.now in
    let left = sym is.left ∙ c.if-self.true in
    let have = have_left setup.until levels (replicate m c.args.level) (length (levels_there setup.until levels)) refl (away_there setup.until levels ∙ left_after setup.until levels left) in
    let some = ltb-true 0 (length (levels_away setup.until levels)) (sym (left_is setup.until levels) ∙ left) in
    let a = have.away in
    shown_away setup (levels ++ replicate m c.args.level) (omega (arith, a, some))
    ∙ (ap (λ ls. record (staying_snapshot setup ls) { drive = Recessive }) have.there ∙ sym (shown_away setup levels some)))

pub returns-clause-run : goal.returns-clause-run
returns-clause-run c levels long is =
    (let setup = c.args.setup.now in
    let at = not_away setup.until levels (sym is.left ∙ c.if-self.false) in
    let now = subst (λ ls. IsStayingRerun setup ls c.args.self.now.staying) at.there is.stayed in
    let on = there_on setup.until levels c.args.level c.pass.result c.args.most at (omega (arith, c.pass.ensures.few, c.quanta_there.ensures.value, ap (λ q. quanta_before setup.until q c.args.most) long)) in
    record {
      stayed = subst (λ ls. IsStayingRerun setup ls c.pass.new.self) (sym on.there) (c.pass.ensures.run setup levels now);
      left = is.left ∙ (there_left setup.until levels at ∙ sym (there_left setup.until (levels ++ replicate c.pass.result c.args.level) on));
    })

pub returns-clause-same : goal.returns-clause-same
returns-clause-same c levels long is m less =
    (let setup = c.args.setup.now in
    let at = not_away setup.until levels (sym is.left ∙ c.if-self.false) in
    let now = subst (λ ls. IsStayingRerun setup ls c.args.self.now.staying) at.there is.stayed in
    let on = there_on setup.until levels c.args.level m c.args.most at (omega (arith, less, c.pass.ensures.few, c.quanta_there.ensures.value, ap (λ q. quanta_before setup.until q c.args.most) long)) in
    shown_there setup (levels ++ replicate m c.args.level) on ∙ (c.pass.ensures.same setup levels now m less ∙ sym (shown_there setup levels at)))

pub returns-clause-syncs : goal.returns-clause-syncs
returns-clause-syncs c levels long is =
    (let setup = c.args.setup.now in
    let at = not_away setup.until levels (sym is.left ∙ c.if-self.false) in
    let now = subst (λ ls. IsStayingRerun setup ls c.args.self.now.staying) at.there is.stayed in
    let on = there_on setup.until levels c.args.level c.pass.result c.args.most at (omega (arith, c.pass.ensures.few, c.quanta_there.ensures.value, ap (λ q. quanta_before setup.until q c.args.most) long)) in
    ap (staying_syncs setup) on.there ∙ (c.pass.ensures.syncs setup levels now ∙ sym (ap (staying_syncs setup) at.there)))
