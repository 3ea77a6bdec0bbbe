-- A product by parts, so that it stays below 2^128.
use Rattle.std.proofs.Common.{◌≡◌, ◌∙◌, ℕ, ◌+◌, ◌*◌, ◌/◌, ◌%◌, ◌<◌, sym, ap, arith}
use Rattle.std.specs.Int.{div_ceil}
use Rattle.std.proofs.Math.Nat.{add-mul, mul_assoc, div-add-mod, mul-add-div, mul-add-mod_self_left}

module _ (w : ℕ) (some : 0 < w) (time tick : ℕ) where
  parts : w * (time / w * tick) + time % w * tick ≡ time * tick
  parts = ap (λ x. x + time % w * tick) (sym (mul_assoc w (time / w) tick)) ∙ sym (add-mul (w * (time / w)) (time % w) tick) ∙ ap (λ x. x * tick) (div-add-mod time w)

  pub by_parts : time / w * tick + time % w * tick / w ≡ time * tick / w
  by_parts = sym (mul-add-div some (time / w * tick) (time % w * tick)) ∙ ap (λ x. x / w) parts

  pub by_parts_up : time / w * tick + div_ceil (time % w * tick) w ≡ div_ceil (time * tick) w
  by_parts_up =
      let whole = mul-add-div some (time / w * tick) (time % w * tick) in
      let rest = mul-add-mod_self_left w (time / w * tick) (time % w * tick) in
      let up : time / w * tick + div_ceil (time % w * tick) w ≡ div_ceil (w * (time / w * tick) + time % w * tick) w = rw (whole, rest) (omega arith) in
      up ∙ ap (λ x. div_ceil x w) parts
