use Rattle.std.proofs.Common.{◌≡◌, ◌∙◌, false, cond, [], ◌∷◌, ◌++◌, length, None, refl, sym, ap, subst, arith}
use Rattle.wl_node.specs.History.{levels_there, is_after, staying_history}
use Rattle.wl_node.proofs.Callers.{next_there}
use Rattle.wl_trace.specs.StayingRerun.{IsStayingRerun}
use Rattle.wl_trace.specs.Synced.{sync_next}
use Rattle.wl_trace.proofs.Leaving.{away_there, left_on, runs_on, there_left}
use Rattle.wl_trace.proofs.rerun.Rerun.quantum.Goals as goal

pub returns-then-is_away-clause-run : goal.returns-then-is_away-clause-run
returns-then-is_away-clause-run c levels long is =
    (let setup = c.args.setup.now in
    let left = left_on setup.until levels c.args.level 1 (ap (is_after setup.until) long ∙ (sym c.is_away.ensures ∙ c.if-is_away.true)) (omega arith) in
    record {
      stayed = subst (λ ls. IsStayingRerun setup ls c.args.self.now.staying) (sym left.0.there) is.stayed;
      left = sym left.1;
    })

pub returns-clause-sync : goal.returns-clause-sync
returns-clause-sync c levels long is =
    (let setup = c.args.setup.now in
    let before : is_after setup.until (length levels) ≡ false = ap (is_after setup.until) long ∙ (sym c.is_away.ensures ∙ c.if-is_away.false) in
    let both = next_there setup.until levels c.args.level (length (levels_there setup.until levels)) refl (away_there setup.until levels ∙ before) in
    c.quantum.ensures.sync levels long (runs_on (subst (λ ls. IsStayingRerun setup ls c.args.self.now.staying) both.0.there is.stayed))
    ∙ sym (ap (λ b. cond b None (sync_next setup (staying_history setup levels) c.args.level)) before))

pub returns-clause-run : goal.returns-clause-run
returns-clause-run c levels long is =
    (let setup = c.args.setup.now in
    let before : is_after setup.until (length levels) ≡ false = ap (is_after setup.until) long ∙ (sym c.is_away.ensures ∙ c.if-is_away.false) in
    let both = next_there setup.until levels c.args.level (length (levels_there setup.until levels)) refl (away_there setup.until levels ∙ before) in
    record {
      stayed = subst (λ ls. IsStayingRerun setup ls c.quantum.new.self) (sym both.1.there)
          (c.quantum.ensures.run levels long (subst (λ ls. IsStayingRerun setup ls c.args.self.now.staying) both.0.there is.stayed));
      left = is.left ∙ (there_left setup.until levels both.0 ∙ sym (there_left setup.until (levels ++ c.args.level ∷ []) both.1));
    })
