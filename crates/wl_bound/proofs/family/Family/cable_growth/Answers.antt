use Rattle.std.proofs.Common.{inl, inr, arith}
use Rattle.wl_bound.proofs.Lengths.{cable_steps}
use Rattle.wl_bound.proofs.family.Family.cable_growth.Goals as goal

pub overflow_cast-per : goal.overflow_cast-per
overflow_cast-per c =
    elim (cable_steps c.args.self.now) [
      | inl e ↦ absurd (omega (arith, c.requires, e))
      | inr h ↦ omega (arith, c.per-per.ensures, h)
    ]
