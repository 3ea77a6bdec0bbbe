-- Worked rows: edges that are far apart.
use Rattle.std.specs.Prelude.{◌≡◌, ◌++◌, ◌∷◌, [], true, false, refl, replicate}
use Rattle.wl_level.specs.declared.Level.TheVariants.{Dominant, Recessive}
use Rattle.wl_sweep_engine.specs.Payload.{has_far_edges}

-- five dominant bits, five recessive ones, and the next edge
ten_apart : has_far_edges (replicate 5 Dominant ++ replicate 5 Recessive ++ Dominant ∷ []) ≡ true
ten_apart = refl

nine_apart : has_far_edges (replicate 5 Dominant ++ replicate 4 Recessive ++ Dominant ∷ []) ≡ false
nine_apart = refl

-- an edge between them
parted : has_far_edges (Dominant ∷ Recessive ∷ replicate 4 Dominant ++ replicate 4 Recessive ++ Dominant ∷ []) ≡ false
parted = refl
