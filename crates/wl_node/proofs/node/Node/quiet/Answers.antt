use Rattle.std.proofs.Common.{◌≡◌, ◌∙◌, ℕ, ◌-◌, cond, min, true, List, length, Option, None, Some, sym, ap, subst, arith}
use Rattle.std.proofs.lemmas.Bool.{lt-ltb}
use Rattle.wl_level.specs.declared.Level.{Level}
use Rattle.wl_level.specs.declared.Level.TheVariants.{Dominant, Recessive}
use Rattle.wl_level.proofs.Callers.{dominant_from, recessive_from}
use Rattle.wl_node.specs.History.{has_left, levels_away, staying_history}
use Rattle.wl_node.specs.Limits.{most_quiet}
use Rattle.wl_node.specs.Quiet.{quiet_at, quiet_before, quiet_of, quiet_up_to}
use Rattle.wl_node.specs.Reached.{IsNode, node_setup}
use Rattle.wl_node.specs.Staying.{IsStaying}
use Rattle.wl_node.proofs.Leaving.{AreThere, left_is, not_left, not_left_is}
use Rattle.wl_node.proofs.node.Node.quiet.Goals.{After-quiet-quiet}
use Rattle.wl_node.proofs.node.Node.quiet.Goals as goal

pub returns-then-self-gt0-clause-value : goal.returns-then-self-gt0-clause-value
unfolding quiet_of most_quiet
returns-then-self-gt0-clause-value c levels is =
    (let setup = node_setup c.args.self.now in
    let left : has_left setup.until levels ≡ true = left_is setup.until levels ∙ lt-ltb 0 (length (levels_away setup.until levels)) (let a = is.away in let g = c.if-self-gt0.true in omega (arith, a, g)) in
    sym (ap (λ b. cond b most_quiet (quiet_before setup.until setup levels)) left))

pub returns-then-self-gt0-clause-most : goal.returns-then-self-gt0-clause-most
unfolding most_quiet
returns-then-self-gt0-clause-most c = omega arith

-- what it promises before it leaves
before : (c : After-quiet-quiet) (levels : List Level) → IsNode levels c.args.self.now → (until : Option ℕ) → (node_setup c.args.self.now).until ≡ until
    → quiet_of (node_setup c.args.self.now) levels ≡ quiet_before until (node_setup c.args.self.now) levels
unfolding quiet_of
before c levels is until e =
    (let setup = node_setup c.args.self.now in
    let none : length (levels_away setup.until levels) ≡ 0 = (let a = is.away in let g = c.if-self-gt0.false in omega (arith, a, g)) in
    ap (λ b. cond b most_quiet (quiet_before setup.until setup levels)) (not_left_is setup.until levels none) ∙ ap (λ u. quiet_before u setup levels) e)

here : (c : After-quiet-quiet) (levels : List Level) → IsNode levels c.args.self.now → AreThere (node_setup c.args.self.now).until levels
here c levels is = not_left (node_setup c.args.self.now).until levels (let a = is.away in let g = c.if-self-gt0.false in omega (arith, a, g))

stayed : (c : After-quiet-quiet) (levels : List Level) → IsNode levels c.args.self.now → IsStaying levels c.args.self.now.staying
stayed c levels is = subst (λ ls. IsStaying ls c.args.self.now.staying) (here c levels is).there is.stayed

drive_is : (c : After-quiet-quiet) (levels : List Level) → IsNode levels c.args.self.now → c.args.self.now.staying.progress.drive ≡ (staying_history (node_setup c.args.self.now) levels).drive
drive_is c levels is = (stayed c levels is).place.drive

pub returns-in-Some-clause-value : goal.returns-in-Some-clause-value
returns-in-Some-clause-value c levels is =
    (let b = (goal.at.returns-in-Some-clause-value c).After-quiet-quiet in
    let setup = node_setup c.args.self.now in
    let q = c.quiet-quiet.ensures.value levels (stayed b levels is) in
    let d : (staying_history setup levels).drive ≡ Dominant = sym (drive_is b levels is) ∙ dominant_from c.args.self.now.staying.progress.drive (sym c.is_dominant.ensures ∙ c.if-is_dominant.true) in
    let p = (stayed b levels is).place.quanta ∙ (stayed b levels is).counted in
    let up_to : quiet_before (Some c.in-Some.until) setup levels ≡ min (c.in-Some.until - length levels) (quiet_at setup (staying_history setup levels)) =
    ap (λ l. quiet_up_to (c.in-Some.until - length levels) l (quiet_at setup (staying_history setup levels))) d in
    let all = before b levels is (Some c.in-Some.until) c.in-Some.is in
    omega (arith, q, p, up_to, all, c.min.ensures, c.saturating_sub.ensures))

pub returns-in_default-clause-value : goal.returns-in_default-clause-value
returns-in_default-clause-value c levels is =
    (let b = (goal.at.returns-in_default-clause-value c).After-quiet-quiet in
    let setup = node_setup c.args.self.now in
    let q = c.quiet-quiet.ensures.value levels (stayed b levels is) in
    let d : (staying_history setup levels).drive ≡ Recessive = sym (drive_is b levels is) ∙ recessive_from c.args.self.now.staying.progress.drive (sym c.is_dominant.ensures ∙ c.if-is_dominant.false) in
    q ∙ sym (before b levels is (Some c.in-Some.until) c.in-Some.is ∙ ap (λ l. quiet_up_to (c.in-Some.until - length levels) l (quiet_at setup (staying_history setup levels))) d))

pub returns-in_default-2-clause-value : goal.returns-in_default-2-clause-value
returns-in_default-2-clause-value c levels is =
    (let b = (goal.at.returns-in_default-2-clause-value c).After-quiet-quiet in
    c.quiet-quiet.ensures.value levels (stayed b levels is) ∙ sym (before b levels is None c.in_default.is))
