use Rattle.std.proofs.Common.{inl, inr, arith}
use Rattle.wl_bound.proofs.Lengths.{cable_steps}
use Rattle.wl_bound.proofs.family.Family.longer_cable.Goals as goal

pub overflow_cast-per : goal.overflow_cast-per
overflow_cast-per c =
    elim (cable_steps c.args.self.now) [
      | inl e ↦ absurd (omega (arith, c.cable_ticks-length.ensures, e))
      | inr h ↦ omega (arith, c.cable_ticks-length.ensures, c.per-per.ensures, h)
    ]

pub nonzero_div-limit : goal.nonzero_div-limit
nonzero_div-limit c =
    elim (cable_steps c.args.self.now) [
      | inl e ↦ absurd (omega (arith, c.cable_ticks-length.ensures, e))
      | inr h ↦ omega (arith, c.cable_ticks-length.ensures, c.per-per.ensures, h)
    ]
