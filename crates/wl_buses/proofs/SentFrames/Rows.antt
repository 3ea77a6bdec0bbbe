-- Worked winners, by computation.
use Rattle.std.proofs.Common.{◌≡◌, ℕ, zero, suc, true, false, [], ◌∷◌, map, refl}
use Rattle.wl_frame.specs.Grammar.{Content}
use Rattle.wl_node.specs.History.{is_sent}
use Rattle.wl_buses.specs.OneFrame.Stations.{Stations}
use Rattle.wl_buses.specs.NextFrames.Frames.{Frame}
use Rattle.wl_buses.specs.SentFrames.Winners.{passed_with, won_by}

-- Station 2 wins the first frame, station 0 the second one, and station 2 each later one.
abbrev winner : ℕ → ℕ
winner zero = 2
winner (suc zero) = 0
winner (suc (suc n)) = 2

-- it has won one of the first two, and two of the first three
one_of_two : won_by winner 2 2 ≡ 1
one_of_two = refl

two_of_three : won_by winner 2 3 ≡ 2
two_of_three = refl

one_of_three : won_by winner 0 3 ≡ 1
one_of_three = refl

-- another one has won none
none_won : won_by winner 1 3 ≡ 0
none_won = refl

-- So it has sent the first and the third frame, and received the second one. The other one has received all, in their order.
sent_and_received : (s : Stations) (frames : ℕ → Frame) (content : ℕ → Content) → map is_sent (passed_with s frames winner content 2 3) ≡ true ∷ false ∷ true ∷ []
sent_and_received s frames content = refl

in_order : (s : Stations) (frames : ℕ → Frame) (content : ℕ → Content) → map (λ p. p.frame) (passed_with s frames winner content 1 3) ≡ content 0 ∷ content 1 ∷ content 2 ∷ []
in_order s frames content = refl
