-- Two nodes and their doubts, computed: 500 kbit/s by quanta of 125 ns, and the same 2 % slow.
use Rattle.std.proofs.Common.{◌≡◌, ℕ, Bool, true, false, List, [], ◌∷◌, None, refl}
use Rattle.wl_clock.specs.Timing.{tick_of}
use Rattle.wl_segments.specs.declared.SyncRules.TheVariants.{After}
use Rattle.wl_frame.specs.Grammar.{Content}
use Rattle.wl_node.specs.declared.setup.NodeSetup.{NodeSetup}
use Rattle.wl_node.specs.declared.setup.QueueOrder.TheVariants.{Fifo}
use Rattle.wl_plan.specs.Limits.{most_quanta}
use Rattle.wl_bound.specs.Verdicts.{idle_at}
use Rattle.wl_explain.specs.Doubts.{frame_bits, difference, borne, longest_round, begins_before, wanted_bits, has_no_room}

abbrev pub node : ℕ → ℕ → NodeSetup
node offset num = record {
  clock = record { offset = offset; rates = record { from = 0; num = num; den = 1000 } ∷ [] };
  segments = record { prop = 8; ps1 = 4; ps2 = 3; sjw = 2; sync = After };
  queue = [];
  order = Fifo;
  until = None;
}

abbrev content : Bool → List ℕ → Content
content extended bytes = record { extended = extended; id = 1; remote = false; dlc = 2; bytes = bytes }

-- by hand, from the fields of a frame
base : frame_bits (content false (1 ∷ 2 ∷ [])) ≡ 63
base = refl

extended : frame_bits (content true []) ≡ 67
extended = refl

slow : difference 1000 (node 0 125000) (node 700 127500) ≡ 20000
unfolding tick_of most_quanta
slow = refl

alike : difference 1000 (node 0 125000) (node 700 125000) ≡ 0
unfolding tick_of most_quanta
alike = refl

bear : borne (node 0 125000) (node 0 127500) ≡ 12500
bear = refl

round : longest_round 1000 (node 0 125000) (node 0 127500) ≡ 1500
unfolding tick_of most_quanta
round = refl

idle : idle_at (node 777 125000) ≡ 22777
unfolding tick_of
idle = refl

before : begins_before (node 777 125000) 176 22778 ≡ true
unfolding tick_of
before = refl

at_it : begins_before (node 777 125000) 176 22777 ≡ false
unfolding tick_of
at_it = refl

-- a node with these frames: 11 bits, and 52 and 60 of the frames with intermission between them; from sample to sample there are 14 quanta at least
abbrev pub sender : NodeSetup
sender = record (node 0 125000) {
  queue = record { frame = content false (1 ∷ []); ready = 0 } ∷ record { frame = content false (1 ∷ 2 ∷ []); ready = 5 } ∷ [];
}

wanted : wanted_bits sender ≡ 126
wanted = refl

-- the last of 1764 quanta begins at tick 1763 * 125
no_room : has_no_room 220375 sender ≡ true
unfolding tick_of
no_room = refl

room : has_no_room 220376 sender ≡ false
unfolding tick_of
room = refl

no_frames : has_no_room 0 (node 0 125000) ≡ false
unfolding tick_of
no_frames = refl
