-- What is kept of that node alone is another, and one more or less drives dominant.
use Rattle.std.proofs.Common.{false, length, refl, get_or, arith}
use Rattle.wl_serial.proofs.Kept.{passing_few, few_of_one, one_anew, kept_anew}
use Rattle.wl_serial.proofs.sources.Sources.take.Goals as goal

pub overflow_add-self : goal.overflow_add-self
overflow_add-self c =
    let few = passing_few (λ k. get_or c.args.self.now.drives k false) (length c.args.plan.now.nodes) in
    let one = few_of_one c.pulse_of-one.result.dominant in
    omega (arith, few, one, c.laws.ensures.checked.few_nodes, c.requires.kept.driving, c.from.ensures)

pub overflow_sub-self : goal.overflow_sub-self
overflow_sub-self c =
    let e = one_anew (length c.args.plan.now.nodes) c.args.i 0 c.pulse_of-one.result.dominant c.args.self.now c.requires.node c.laws.ensures.checked.few_nodes c.requires.kept in
    omega (arith, e, c.from.ensures, c.from-2.ensures)

pub returns-clause-kept : goal.returns-clause-kept
returns-clause-kept c =
    let e = one_anew (length c.args.plan.now.nodes) c.args.i 0 c.pulse_of-one.result.dominant c.args.self.now c.requires.node c.laws.ensures.checked.few_nodes c.requires.kept in
    kept_anew (length c.args.plan.now.nodes) c.args.i c.pulse_of-one.result.until c.pulse_of-one.result.dominant c.args.self.now _ c.requires.node c.laws.ensures.checked.few_nodes c.requires.kept
    refl refl (omega (arith, e, c.from.ensures, c.from-2.ensures))
