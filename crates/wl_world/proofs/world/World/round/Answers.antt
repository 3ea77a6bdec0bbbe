-- Deliveries, and then advances.
use Rattle.std.proofs.Common.{◌≡◌, ◌∙◌, ap, subst, length, arith}
use Rattle.wl_plan.specs.PlanLine.{line_of}
use Rattle.wl_plan.specs.Groupings.{groups_of}
use Rattle.wl_world.specs.Moves.{MovesLed, HasExhaustedAll}
use Rattle.wl_world.specs.WorldValue.{WorldValue, cast_of}
use Rattle.wl_world.proofs.MoveProofs.{set_on, gone_on, handed_all_gone, rounded}
use Rattle.wl_world.proofs.RunProofs.{on_err}
use Rattle.wl_world.proofs.world.World.round.Goals as goal

pub returns-in_err-advance_all-clause-moved : goal.returns-in_err-advance_all-clause-moved
returns-in_err-advance_all-clause-moved c =
    let line = line_of c.args.self.now.plan in
    let cast = cast_of c.args.self.now.numbers in
    let mid = c.deliver_to_all.new.self in
    let new = c.advance_all.new.self in
    on_err c.from_residual-in_err-advance_all.result (gone_on line cast c.args.self.now mid new
    (handed_all_gone line cast (groups_of c.args.self.now.numbers) c.args.from c.len-to.result c.args.self.now mid c.in_ok-deliver_to_all.ensures.handed)
    (set_on (λ l d. MovesLed l d mid new) line (line_of mid.plan) cast (cast_of mid.numbers)
    (ap line_of c.in_ok-deliver_to_all.ensures.plan) (ap cast_of c.in_ok-deliver_to_all.ensures.grouping) c.in_err-advance_all.ensures.moved))

pub returns-clause-rounded : goal.returns-clause-rounded
returns-clause-rounded c =
    let line = line_of c.args.self.now.plan in
    let cast = cast_of c.args.self.now.numbers in
    let mid = c.deliver_to_all.new.self in
    let new = c.advance_all.new.self in
    let count : c.len-to.result ≡ length c.self.inside.emitted.items = omega arith in
    rounded line cast c.party_laws.ensures c.args.from c.len-to.result c.args.self.now mid new (count ∙ ap (λ (u : WorldValue). length u.emitted) c.self.view_is) c.in_ok-deliver_to_all.ensures.handed
    (subst (λ n. HasExhaustedAll line cast n mid new) (ap groups_of c.in_ok-deliver_to_all.ensures.grouping)
    (set_on (λ l d. HasExhaustedAll l d (groups_of mid.numbers) mid new) line (line_of mid.plan) cast (cast_of mid.numbers)
    (ap line_of c.in_ok-deliver_to_all.ensures.plan) (ap cast_of c.in_ok-deliver_to_all.ensures.grouping) c.in_ok-advance_all.ensures.stuck))
