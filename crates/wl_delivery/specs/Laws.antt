-- What a message is like of which nobody misses a frame or takes one twice.
use Rattle.std.specs.Prelude.{◌≡◌, ℕ, ◌<◌, ◌≤◌, List, [], ◌∷◌}
use Rattle.std.specs.List.{All}
use Rattle.wl_delivery.specs.declared.delivery.Presence.{Presence}
use Rattle.wl_delivery.specs.Deliveries.{delivery_of}

-- Each frame is taken once, before it is sent and after the frame before it is: so it is on a bus without noise (Bosch CAN 2.0 part B, section 5).
abbrev pub AreTakenOnce : (sent taken : List ℕ) → Type 0
AreTakenOnce [] [] = Unit {0}
AreTakenOnce [] (t ∷ taken) = ⊥
AreTakenOnce (s ∷ sent) [] = ⊥
AreTakenOnce (s ∷ sent) (t ∷ taken) = (t ≤ s) × All (λ later. s < later) taken × AreTakenOnce sent taken

-- then none is missed, and none is taken twice
abbrev pub OnceEachIsWhole : Type 0
OnceEachIsWhole = (p : Presence) (sent taken : List ℕ) → AreTakenOnce sent taken → delivery_of p sent taken ≡ record { missed = 0; twice = 0 }
