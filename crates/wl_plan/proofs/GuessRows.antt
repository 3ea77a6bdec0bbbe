-- A guess on a small line of two nodes, computed: one that is consistent, and one that is not.
use Rattle.std.specs.Prelude.{◌≡◌, ℕ, zero, suc, ◌+◌, ◌*◌, ◌&&◌, Bool, true, false, List, [], ◌∷◌, nat_le, nat_lt, refl}
use Rattle.wl_level.specs.declared.Level.{Level}
use Rattle.wl_level.specs.Levels.{is_dominant}
use Rattle.wl_plan.specs.Line.{Line}
use Rattle.wl_plan.specs.Guess.{from_others, beside, alone}
use Rattle.wl_plan.specs.Simulation.{changes, changes_below, history, seen}

-- node 0 drives dominant after two and three quanta, node 1 whenever it saw dominant last
drives : ℕ → List Level → Bool
drives zero (a ∷ b ∷ []) = true
drives zero (a ∷ b ∷ c ∷ []) = true
drives zero xs = false
drives (suc n) [] = false
drives (suc n) (x ∷ []) = is_dominant x
drives (suc n) (x ∷ y ∷ zs) = drives (suc n) (y ∷ zs)

-- quanta of two ticks, a tick apart, and a delay of one tick
small : Line
small = record {
  nodes = 2;
  instant = λ i k. i + 2 * k;
  drives = drives;
  quiet = λ i levels. 0;
  delay = λ i j. 1;
  disturbed = λ j t. false;
  stop = 10;
}

-- node 0 is thought to drive dominant at ticks 2 to 5, and node 1 from tick 3 on: a tick later that comes to the other one
shown : ℕ → ℕ → Bool
shown zero t = nat_le 4 t
shown (suc n) t = nat_le 3 t && nat_lt t 7

-- beside what is shown to it, each does what was thought
node_0_changes : changes (beside small (shown 0)) 0 ≡ 2 ∷ 6 ∷ []
unfolding small drives shown seen history changes_below
node_0_changes = refl

node_1_changes : changes (beside small (shown 1)) 1 ≡ 3 ∷ []
unfolding small drives shown seen history changes_below
node_1_changes = refl

-- and that is what comes to the other one, at its quanta
comes_to_1 : from_others small (alone small shown) 1 3 ≡ shown 1 3
unfolding small drives shown history
comes_to_1 = refl

comes_to_0 : from_others small (alone small shown) 0 4 ≡ shown 0 4
unfolding small drives shown history
comes_to_0 = refl

not_before : from_others small (alone small shown) 0 2 ≡ shown 0 2
unfolding small drives shown history
not_before = refl

-- a node that is thought to hear nothing does something else
deaf : ℕ → ℕ → Bool
deaf i t = false

deaf_1_changes : changes (beside small (deaf 1)) 1 ≡ []
unfolding small drives deaf seen history changes_below
deaf_1_changes = refl

-- which is not consistent: what comes from node 0 isn't shown
missed : from_others small (alone small deaf) 1 3 ≡ true
unfolding small drives deaf history
missed = refl
