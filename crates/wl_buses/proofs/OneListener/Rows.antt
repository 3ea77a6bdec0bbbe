-- Worked values: what a listener hears and receives.
use Rattle.std.proofs.Common.{◌≡◌, refl, ℕ, zero, suc, Bool, true, false, [], ◌∷◌}
use Rattle.std.specs.Prelude.{◌==◌, ◌&&◌, nat_le, map}
use Rattle.wl_frame.specs.Grammar.{Content}
use Rattle.wl_buses.specs.OneFrame.Stations.{Stations}
use Rattle.wl_buses.specs.NextFrames.Frames.{Frame}
use Rattle.wl_buses.specs.OneListener.Beside.{hears, no_listener, with_listener}
use Rattle.wl_buses.specs.OneListener.Frames.{received_with}

-- two stations and a listener, number 2, that hears its own drive 5 ticks later, and that of the others 3 ticks later
abbrev own_delay : Bool → ℕ
own_delay true = 5
own_delay false = 3

abbrev two : Stations → Stations
two s = record s { count = 2; delay = λ i k. own_delay (i == 2) }

-- station 1 drives dominant from tick 4 on, and the listener from tick 1 on
abbrev drove : ℕ → ℕ → Bool
drove zero t = false
drove (suc zero) t = nat_le 4 t
drove (suc (suc k)) t = nat_le 1 t

hears_itself : (s : Stations) → hears (two s) drove 6 ≡ true
hears_itself s = refl

hears_nobody : (s : Stations) → hears (two s) drove 5 ≡ false
hears_nobody s = refl

hears_another : (s : Stations) → hears (two s) (λ k t. k == 1 && nat_le 4 t) 7 ≡ true
hears_another s = refl

others : (s : Stations) → map (no_listener (two s)) (0 ∷ 1 ∷ 2 ∷ []) ≡ true ∷ true ∷ false ∷ []
others s = refl

all_count : (s : Stations) → (with_listener (two s)).count ≡ 3
all_count s = refl

-- it receives each, and sends none
receives : (s : Stations) (frames : ℕ → Frame) (content : ℕ → Content) → map (λ p. p.sent) (received_with s frames content 3) ≡ false ∷ false ∷ false ∷ []
receives s frames content = refl

in_their_order : (s : Stations) (frames : ℕ → Frame) (content : ℕ → Content) → map (λ p. p.frame) (received_with s frames content 3) ≡ content 0 ∷ content 1 ∷ content 2 ∷ []
in_their_order s frames content = refl
