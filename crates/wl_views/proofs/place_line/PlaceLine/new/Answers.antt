-- Nothing is known of any node: each place has what has run out.
use Rattle.std.proofs.Common.{◌≡◌, ◌<◌, ℕ, zero, suc, refl, replicate, get_or, arith}
use Rattle.wl_views.specs.PlaceLine.{not_held}
use Rattle.wl_views.proofs.place_line.PlaceLine.new.Goals as goal

run_out : (n k : ℕ) → (get_or (replicate n not_held) k not_held).until ≡ 0
run_out zero k = refl
run_out (suc n) zero = refl
run_out (suc n) (suc k) = run_out n k

pub returns : goal.returns
returns c plan i = record {
  cable = λ (later : 0 < 0). absurd (omega arith);
  disturbance = λ (later : 0 < 0). absurd (omega arith);
  sources = λ k b (later : 0 < (get_or (replicate 64 not_held) k not_held).until). absurd (let e = run_out 64 k in omega arith);
}
