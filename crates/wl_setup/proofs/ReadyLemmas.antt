-- The greatest quantum at which one of some frames becomes ready.
use Rattle.std.proofs.Common.{ℕ, suc, ◌<◌, ◌≤◌, max, List, [], ◌∷◌, arith}
use Rattle.std.specs.List.{All}
use Rattle.std.proofs.lemmas.List.Elements.{All-nil, All-cons}
use Rattle.std.proofs.Math.Nat.{le-max_left, le-max_right}
use Rattle.wl_frame.specs.Grammar.{Content}
use Rattle.wl_setup.specs.Plans.{latest_ready}

below_more : (xs : List (ℕ × Content)) (a b : ℕ) → a ≤ b → All (λ s. s.0 < suc a) xs → All (λ s. s.0 < suc b) xs
below_more xs a b h all = λ k d w. let q = all k d w in omega arith

-- none becomes ready later
pub all_ready : (xs : List (ℕ × Content)) → All (λ s. s.0 < suc (latest_ready xs)) xs
all_ready [] = All-nil (λ s. s.0 < 1)
all_ready (x ∷ xs) =
    let first = le-max_left x.0 (latest_ready xs) in
    All-cons (λ s. s.0 < suc (max x.0 (latest_ready xs))) x xs (omega arith)
    (below_more xs (latest_ready xs) (max x.0 (latest_ready xs)) (le-max_right x.0 (latest_ready xs)) (all_ready xs))
