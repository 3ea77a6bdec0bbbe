use Rattle.std.proofs.Common.{ap, length, arith}
use Rattle.std.proofs.lemmas.Bool.{le-leb, leb-true}
use Rattle.wl_frame.specs.Grammar.{bits_of}
use Rattle.wl_respond.proofs.plan.is_within_bits.Goals as goal

pub returns : goal.returns
returns c = (
  λ e y stuffs.
      (let few = leb-true _ _ e in
      let same = ap length (c.a_list_has_one_stuffing.ensures (bits_of c.args.frame.now) y c.stuffed-bits.result.items stuffs c.stuffed-bits.ensures) in
      let long = c.len.ensures.value in
      omega arith),
  λ within.
      (let few = within c.stuffed-bits.result.items c.stuffed-bits.ensures in
      let long = c.len.ensures.value in
      le-leb _ _ (omega arith)),
)
