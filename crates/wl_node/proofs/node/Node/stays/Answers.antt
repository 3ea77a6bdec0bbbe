use Rattle.std.proofs.Common.{◌≡◌, ◌∙◌, cond, true, length, sym, ap, subst, arith}
use Rattle.std.proofs.lemmas.Bool.{lt-ltb}
use Rattle.wl_node.specs.History.{has_left, levels_away, staying_history}
use Rattle.wl_node.specs.Limits.{most_run_quanta}
use Rattle.wl_node.specs.Reached.{node_setup}
use Rattle.wl_node.specs.Staying.{IsStaying}
use Rattle.wl_node.specs.Stays.{free_stay, stay_at, stay_of}
use Rattle.wl_node.proofs.Leaving.{history_there, left_is, not_left, not_left_is}
use Rattle.wl_node.proofs.node.Node.stays.Goals as goal

pub returns-then-self-gt0-clause-value : goal.returns-then-self-gt0-clause-value
unfolding stay_of
returns-then-self-gt0-clause-value c levels is =
    (let setup = node_setup c.args.self.now in
    let left : has_left setup.until levels ≡ true = left_is setup.until levels ∙ lt-ltb 0 (length (levels_away setup.until levels)) (let a = is.away in let g = c.if-self-gt0.true in omega (arith, a, g)) in
    sym (ap (λ b. cond b most_run_quanta (stay_at setup (staying_history setup levels))) left))

pub returns-then-self-gt0-clause-stands : goal.returns-then-self-gt0-clause-stands
returns-then-self-gt0-clause-stands c m less levels is =
    c.drive_laws.ensures.stays (node_setup c.args.self.now) levels m (let e = returns-then-self-gt0-clause-value c levels is in omega (arith, e, less))

pub returns-clause-value : goal.returns-clause-value
unfolding stay_of
returns-clause-value c levels is =
    (let setup = node_setup c.args.self.now in
    let none : length (levels_away setup.until levels) ≡ 0 = (let a = is.away in let g = c.if-self-gt0.false in omega (arith, a, g)) in
    let at = not_left setup.until levels none in
    c.stays.ensures.value levels (subst (λ ls. IsStaying ls c.args.self.now.staying) at.there is.stayed)
    ∙ sym (ap (λ b. cond b most_run_quanta (stay_at setup (staying_history setup levels))) (not_left_is setup.until levels none)))

pub returns-clause-stands : goal.returns-clause-stands
returns-clause-stands c m less levels is =
    c.drive_laws.ensures.stays (node_setup c.args.self.now) levels m (let e = returns-clause-value c levels is in omega (arith, e, less))

pub returns-clause-free : goal.returns-clause-free
returns-clause-free c levels is =
    (let setup = node_setup c.args.self.now in
    let none : length (levels_away setup.until levels) ≡ 0 = (let a = is.away in let g = c.if-self-gt0.false in omega (arith, a, g)) in
    let at = not_left setup.until levels none in
    let free = c.stays.ensures.free levels (subst (λ ls. IsStaying ls c.args.self.now.staying) at.there is.stayed) in
    let same_free = ap (free_stay setup) (history_there setup levels at.there at.away) in
    omega (arith, free, same_free))
