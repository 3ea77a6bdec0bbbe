use Rattle.std.proofs.Common.{◌≡◌, ap, rules, arith, to_z, of_z, SFits, w16, Some}
use Rattle.std.proofs.lemmas.Int.{ints, to_z-of_z}
use Rattle.wl_node.proofs.Picking.{less, less_ranks, picks_first, picks_kept, picks_new}
use Rattle.wl_node.proofs.phase_totals.lesser.Goals as goal

pub returns-in-Some : goal.returns-in-Some
returns-in-Some c errors is =
    let kept_fits : SFits w16 c.in-Some.kept = search rules in
    let kept : to_z w16 (of_z w16 c.in-Some.kept) ≡ c.in-Some.kept = to_z-of_z w16 c.in-Some.kept kept_fits in
    let error_fits : SFits w16 c.args.error = search rules in
    let error : to_z w16 (of_z w16 c.args.error) ≡ c.args.error = to_z-of_z w16 c.args.error error_fits in
    picks_kept less less_ranks errors c.args.error c.in-Some.kept c.args.least (Some (to_z w16 (of_z w16 c.in-Some.kept))) is c.in-Some.is (ap Some kept)
    (let h = c.if-kept-error.true in grind (arith, ints, kept, error))

pub returns-in_default : goal.returns-in_default
returns-in_default c errors is =
    let kept_fits : SFits w16 c.in-Some.kept = search rules in
    let kept : to_z w16 (of_z w16 c.in-Some.kept) ≡ c.in-Some.kept = to_z-of_z w16 c.in-Some.kept kept_fits in
    let error_fits : SFits w16 c.args.error = search rules in
    let error : to_z w16 (of_z w16 c.args.error) ≡ c.args.error = to_z-of_z w16 c.args.error error_fits in
    picks_new less less_ranks errors c.args.error c.in-Some.kept c.args.least (Some (to_z w16 (of_z w16 c.args.error))) is c.in-Some.is (ap Some error)
    (let h = c.if-kept-error.false in grind (arith, ints, kept, error))

pub returns-in_default-2 : goal.returns-in_default-2
returns-in_default-2 c errors is =
    let error_fits : SFits w16 c.args.error = search rules in
    let error : to_z w16 (of_z w16 c.args.error) ≡ c.args.error = to_z-of_z w16 c.args.error error_fits in
    picks_first less less_ranks errors c.args.error c.args.least (Some (to_z w16 (of_z w16 c.args.error))) is c.in_default.is (ap Some error)
