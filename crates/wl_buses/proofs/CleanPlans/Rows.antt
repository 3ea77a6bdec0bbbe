-- Worked lists of what has passed a node.
use Rattle.std.proofs.Common.{◌≡◌, true, false, [], ◌∷◌, refl}
use Rattle.wl_frame.specs.Grammar.{Content}
use Rattle.wl_buses.specs.CleanPlans.Clean.{sent_contents}

abbrev a : Content
a = record { extended = false; id = 1; remote = false; dlc = 0; bytes = [] }

abbrev b : Content
b = record { extended = false; id = 2; remote = false; dlc = 0; bytes = [] }

-- it has sent the first and the third frame, and received the second
in_turn : sent_contents (record { sent = true; quantum = 9; frame = b } ∷ record { sent = false; quantum = 99; frame = a } ∷ record { sent = true; quantum = 199; frame = a } ∷ []) ≡ b ∷ a ∷ []
in_turn = refl

-- a node that only receives has sent none
listens : sent_contents (record { sent = false; quantum = 9; frame = a } ∷ []) ≡ []
listens = refl
