-- Different numbers of nodes have different words.
use Rattle.std.proofs.Common.{◌≡◌, ◌<◌, ◌+◌, ℕ, zero, suc, List, [], ◌∷◌, true, ap, sym, ◌∙◌, refl, arith, Option}
use Rattle.std.specs.Prelude.{Some, None}
use Rattle.std.proofs.lemmas.Bool.Decides.{nat_tests}
use Rattle.wl_hub.specs.Places.{place, beyond, is_place}

pub is_place_some : (o : Option ℕ) (i : ℕ) → is_place o i ≡ true → o ≡ Some i
is_place_some None i h = grind arith
is_place_some (Some k) i h = let same : k ≡ i = grind (arith, nat_tests) in ap Some same

pub some_is_place : (o : Option ℕ) (i : ℕ) → o ≡ Some i → is_place o i ≡ true
some_is_place o i h = rw h (grind (arith, nat_tests))

pub small_place : (ws : List ℕ) (w s k : ℕ) → place (w ∷ ws) zero s ≡ Some k → (s ≡ k) × (s < w)
small_place ws w s k h = grind (arith, nat_tests)

pub beyond_some : (w k : ℕ) (o : Option ℕ) → beyond w o ≡ Some k → (j : ℕ) × (o ≡ Some j) × (w + j ≡ k)
beyond_some w k None h = cc
beyond_some w k (Some j) h = (j, refl, cc)

pub place_apart : (ws : List ℕ) (n s m t k : ℕ) → place ws n s ≡ Some k → place ws m t ≡ Some k → (n ≡ m) × (s ≡ t)
place_apart [] n s m t k a b = cc
place_apart (w ∷ ws) zero s zero t k a b = let p = small_place ws w s k a in let q = small_place ws w t k b in (refl, p.0 ∙ sym q.0)
place_apart (w ∷ ws) zero s (suc m) t k a b = let p = small_place ws w s k a in let q = beyond_some w k (place ws m t) b in absurd (omega arith)
place_apart (w ∷ ws) (suc n) s zero t k a b = let p = small_place ws w t k b in let q = beyond_some w k (place ws n s) a in absurd (omega arith)
place_apart (w ∷ ws) (suc n) s (suc m) t k a b =
    let p = beyond_some w k (place ws n s) a in
    let q = beyond_some w k (place ws m t) b in
    let same : p.0 ≡ q.0 = omega arith in
    let r = place_apart ws n s m t q.0 (p.1 ∙ ap Some same) q.1 in
    (ap suc r.0, r.1)
